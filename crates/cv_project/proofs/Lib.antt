-- The lemmas that several proofs share.
pub mod PathLemmas
pub mod FieldLemmas
pub mod ListLemmas
pub mod LayerLemmas
pub mod CanvasLemmas
pub mod StyleLemmas
pub mod TreeLemmas
pub mod StandLemmas
pub mod TableLemmas
pub mod StyleTableLemmas
pub mod ProjectTableLemmas
pub mod WrittenLemmas
