-- Lemmas on the tables.
pub mod ListLemmas
pub mod RowLemmas
pub mod TableLemmas
pub mod TabLemmas
pub mod MakingLemmas
