use Rattle.cv_event.proofs.DueLemmas.{slots_are_of_the_taken}
use Rattle.cv_event.proofs.laws.slots_are_of_the_taken.Goals as goal

pub returns : goal.returns
returns c = slots_are_of_the_taken
