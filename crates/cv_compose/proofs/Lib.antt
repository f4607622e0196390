-- What the proofs of this crate share.
pub mod CompositionLemmas
pub mod LawLemmas
pub mod PlaneLemmas
pub mod RunLemmas
