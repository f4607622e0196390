-- Lemmas on the desk.
pub mod BasisLemmas
pub mod NamedLemmas
pub mod SeenLemmas
pub mod RevisedLemmas
pub mod KeepingLemmas
pub mod EditedLemmas
pub mod PaintedLemmas
pub mod TaskLemmas
pub mod OpeningLemmas
pub mod PictureLemmas
pub mod LawLemmas
