-- Lemmas on the definitions, for the proofs of all crates.
pub mod Rows
pub mod PackedLemmas
pub mod EditLemmas
pub mod LawLemmas
pub mod WorkedValues
pub mod WorkedEdits
