use Rattle.cv_session.proofs.HeldLemmas.{held_tasks_are_owed}
use Rattle.cv_session.proofs.laws.held_tasks_are_owed.Goals as goal

pub returns : goal.returns
returns c = held_tasks_are_owed
