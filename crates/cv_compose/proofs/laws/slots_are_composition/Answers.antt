use Rattle.cv_compose.proofs.LawLemmas.{slots_are_composition}
use Rattle.cv_compose.proofs.laws.slots_are_composition.Goals as goal

pub returns : goal.returns
returns c = slots_are_composition
