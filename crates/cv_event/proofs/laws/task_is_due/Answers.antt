use Rattle.cv_event.proofs.DueLemmas.{task_is_due}
use Rattle.cv_event.proofs.laws.task_is_due.Goals as goal

pub returns : goal.returns
returns c = task_is_due
