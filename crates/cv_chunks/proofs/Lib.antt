-- Lemmas on shared lists.
pub mod BucketLemmas
pub mod GroupLemmas
pub mod PartLemmas
pub mod RunLemmas
