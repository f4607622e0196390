-- The definitions of shared lists, in reading order.
pub mod Clones
pub mod Parts
pub mod Trees
pub mod Runs
pub mod Buckets
