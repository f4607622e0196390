-- Decimals as they are read: what is kept of their numbers, the short way, and their written form.
pub mod Ranges
pub mod Kept
pub mod Plain
pub mod Written
