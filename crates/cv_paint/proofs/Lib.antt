-- What the proofs of this crate share.
pub mod LayLemmas
pub mod LayingLemmas
pub mod StyleLemmas
pub mod InkLemmas
pub mod MaskLemmas
pub mod CellLemmas
pub mod SymbolLemmas
pub mod PaintedLemmas
pub mod TableLemmas
pub mod FarLemmas
pub mod WidthLemmas
pub mod CostLemmas
pub mod WindowLemmas
