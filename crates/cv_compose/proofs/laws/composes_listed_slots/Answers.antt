use Rattle.cv_compose.proofs.LawLemmas.{composes_listed_slots}
use Rattle.cv_compose.proofs.laws.composes_listed_slots.Goals as goal

pub returns : goal.returns
returns c = composes_listed_slots
