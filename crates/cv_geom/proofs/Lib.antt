-- What the proofs of this crate share.
pub mod ProductLemmas
pub mod BoolLemmas
pub mod CrossingLemmas
pub mod PositionLemmas
pub mod CauseLemmas
pub mod TilingLemmas
pub mod ViewLemmas
pub mod FallLemmas
pub mod SpanLemmas
pub mod CentreLemmas
pub mod RunLemmas
pub mod UniteLemmas
pub mod PlaceLemmas
