-- The definitions of the desk, in reading order.
pub mod Desks
pub mod Answers
pub mod Laws
