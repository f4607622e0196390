-- The lemmas that several proofs share.
pub mod KindLemmas
pub mod SpellingLemmas
pub mod StyleLemmas
pub mod ScriptLemmas
pub mod CommandLemmas
