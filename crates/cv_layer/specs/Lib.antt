-- The definitions of layers as the store and the painter share them, in reading order.
pub mod Stamps
pub mod Boxes
pub mod Stretches
pub mod Tables
pub mod Layers
pub mod Inputs
pub mod Strips
