-- What the painter's calls cite, in reading order.
pub mod Layings
pub mod Finish
pub mod Masks
pub mod Symbols
pub mod Inks
pub mod Cells
pub mod Far
pub mod Widths
pub mod Windows
pub mod Costs
pub mod Scenes
