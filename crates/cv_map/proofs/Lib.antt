-- Lemmas on slots, and on the picture that they make.
pub mod SlotLemmas
pub mod PictureLemmas
