-- Lemmas on the way through the bytes, on digits, on short cells, on the header, on the cells, on sizes, on
-- the grammar, and on the answer.
pub mod ScanLemmas
pub mod DigitLemmas
pub mod HeaderLemmas
pub mod WindowLemmas
pub mod CellLemmas
pub mod LayoutLemmas
pub mod GrammarLemmas
pub mod AnswerLemmas
