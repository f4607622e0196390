-- The definitions of stores, in reading order.
pub mod Stores
pub mod Tallies
pub mod Maps
pub mod Answers
pub mod Data
pub mod Adding
pub mod Laws
pub mod Opened
