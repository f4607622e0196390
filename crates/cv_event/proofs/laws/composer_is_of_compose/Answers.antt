use Rattle.cv_event.proofs.SlotLemmas.{composer_is_of_compose}
use Rattle.cv_event.proofs.laws.composer_is_of_compose.Goals as goal

pub returns : goal.returns
returns c = composer_is_of_compose
