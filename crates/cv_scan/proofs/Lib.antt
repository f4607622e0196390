-- What the proofs of this crate share.
pub mod ReachLemmas
pub mod RunLemmas
pub mod MarkLemmas
pub mod OrderLemmas
pub mod CrossingLemmas
pub mod PlaneLemmas
pub mod PairLemmas
pub mod HeldLemmas
pub mod TermLemmas
pub mod BlockLemmas
