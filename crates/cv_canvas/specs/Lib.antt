-- The definitions of what lies on a canvas.
pub mod Canvas
pub mod Mixing
pub mod Reciprocals
pub mod Pixels
pub mod Bits
pub mod Cover
pub mod Opaque
pub mod Counts
