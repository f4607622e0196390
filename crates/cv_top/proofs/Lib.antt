-- Lemmas on the words of a command, on a layer's file and on a run.
pub mod WordLemmas
pub mod QuickLemmas
pub mod RunLemmas
pub mod OpenLemmas
pub mod SessionLemmas
