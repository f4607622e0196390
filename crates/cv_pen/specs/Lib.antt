-- The definitions of what a pen and a marker hit in a row.
pub mod Strokes
pub mod Dots
