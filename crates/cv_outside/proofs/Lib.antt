pub mod RiseLemmas
pub mod SeenLemmas
pub mod TakenLemmas
