use Rattle.cv_event.proofs.EndLemmas.{end_is_first}
use Rattle.cv_event.proofs.laws.end_is_first.Goals as goal

pub returns : goal.returns
returns c = end_is_first
