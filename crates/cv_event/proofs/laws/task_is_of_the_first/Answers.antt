use Rattle.cv_event.proofs.TaskLemmas.{task_is_of_the_first}
use Rattle.cv_event.proofs.laws.task_is_of_the_first.Goals as goal

pub returns : goal.returns
returns c = task_is_of_the_first
