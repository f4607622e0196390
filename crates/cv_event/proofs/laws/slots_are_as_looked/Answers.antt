use Rattle.cv_event.proofs.SlotLemmas.{slots_are_as_looked}
use Rattle.cv_event.proofs.laws.slots_are_as_looked.Goals as goal

pub returns : goal.returns
returns c = slots_are_as_looked
