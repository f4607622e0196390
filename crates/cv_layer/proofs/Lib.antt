-- Lemmas about the definitions of layers.
pub mod BoxLemmas
pub mod StretchLemmas
pub mod TableLemmas
pub mod PlaceLemmas
