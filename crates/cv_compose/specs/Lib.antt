-- Composition, in reading order.
pub mod Inputs
pub mod Planes
pub mod Runs
pub mod Laws
