use Rattle.cv_event.proofs.TaskLemmas.{compose_is_due}
use Rattle.cv_event.proofs.laws.compose_is_due.Goals as goal

pub returns : goal.returns
returns c = compose_is_due
