-- What the proofs of this crate share.
pub mod PlaceLemmas
pub mod BitLemmas
pub mod RowLemmas
pub mod MixingLemmas
pub mod ReciprocalLemmas
pub mod OpaqueLemmas
pub mod CountLemmas
