use Rattle.cv_compose.proofs.LawLemmas.{composes_all_slots}
use Rattle.cv_compose.proofs.laws.composes_all_slots.Goals as goal

pub returns : goal.returns
returns c = composes_all_slots
