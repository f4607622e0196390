-- The definitions of reaches, marks and planes, of the runs made of them, and the law of both forms.
pub mod Reaches
pub mod Runs
pub mod Marks
pub mod Orders
pub mod Fills
pub mod Planes
pub mod Pairs
pub mod Held
pub mod Terms
pub mod Narrow
pub mod Blocks
