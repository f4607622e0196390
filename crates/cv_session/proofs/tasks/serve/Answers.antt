use Rattle.std.proofs.Common.{sym, subst}
use Rattle.cv_session.specs.declared.seat.HeldTask.{HeldTask}
use Rattle.cv_session.specs.Seats.{task_of}
use Rattle.cv_session.specs.Tasks.{Served}
use Rattle.cv_session.proofs.tasks.serve.Goals as goal

pub returns-in-Compose-clause-ok : goal.returns-in-Compose-clause-ok
returns-in-Compose-clause-ok c =
    subst (λ (t : HeldTask). Served c.args.desk.now c.compose_and_finish.new.desk (task_of t)) (sym c.in-Compose.is) c.compose_and_finish.ensures
