use Rattle.cv_event.proofs.TaskLemmas.{task_is_least_slot}
use Rattle.cv_event.proofs.laws.task_is_least_slot.Goals as goal

pub returns : goal.returns
returns c = task_is_least_slot
