-- What `clap` makes of plain words.
pub mod PlainLemmas
pub mod CheckLemmas
pub mod PaintLemmas
pub mod SessionLemmas
