-- The definitions of journals, in reading order.
pub mod States
pub mod Legality
pub mod Histories
pub mod Lines
pub mod Readings
pub mod TextLaws
pub mod Laws
pub mod JobLaws
pub mod ShownLaws
pub mod ViewLaws
pub mod HitLaws
