use Rattle.cv_event.proofs.TakenLemmas.{view_is_last}
use Rattle.cv_event.proofs.laws.view_is_last.Goals as goal

pub returns : goal.returns
returns c = view_is_last
