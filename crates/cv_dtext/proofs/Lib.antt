-- Lemmas on the records and fields of a delimited text.
pub mod FieldLemmas
pub mod RecordLemmas
pub mod ReadLemmas
pub mod TableLemmas
pub mod AnswerLemmas
pub mod OpeningLemmas
pub mod FirstLemmas
