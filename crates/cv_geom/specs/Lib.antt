-- Definitions of views, searches, multiples, spans and runs; laws of views and of polygons side by side.
pub mod Views
pub mod ViewLaws
pub mod Tilings
pub mod Falls
pub mod Multiples
pub mod Spans
pub mod Runs
