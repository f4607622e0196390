-- The lemmas of the recipe, cited by the readers above.
pub mod ReadingLemmas
pub mod MachineLemmas
pub mod WatchLemmas
pub mod TokenLemmas
