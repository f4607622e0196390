pub mod HeldLemmas
pub mod TicketLemmas
pub mod NumberLemmas
pub mod PlaceLemmas
pub mod TurnLemmas
pub mod SplitLemmas
pub mod CloseLemmas
