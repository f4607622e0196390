-- Lemmas about the definitions of stores.
pub mod Lists
pub mod MapLemmas
pub mod Limits
pub mod Kept
pub mod Edited
pub mod LawLemmas
pub mod Verdicts
pub mod Changes
pub mod History
pub mod Revisions
pub mod Inputs
pub mod Openings
pub mod FeatureEdits
pub mod DataEdits
pub mod Additions
