-- Lemmas on what callers hold.
pub mod OwedLemmas
