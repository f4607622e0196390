-- Lemmas on caches.
pub mod HeldLemmas
