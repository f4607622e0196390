pub mod Counts
pub mod Reads
pub mod Writes
pub mod Pieces
pub mod Files
pub mod Seen
pub mod Whole
