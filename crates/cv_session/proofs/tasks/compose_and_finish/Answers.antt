use Rattle.std.proofs.Common.{refl, ap, sym, ◌∙◌, is_some}
use Rattle.cv_desk.specs.Desks.{state}
use Rattle.cv_session.specs.Tasks.{is_let_go}
use Rattle.cv_session.proofs.TaskLemmas.{end_is}
use Rattle.cv_session.proofs.tasks.compose_and_finish.Goals as goal

pub returns-in-Ok-Some : goal.returns-in-Ok-Some
returns-in-Ok-Some c =
    is_let_go c.args.job refl refl
    (ap is_some (sym (end_is (state c.args.desk.now) c.args.job c.in-Ok-Some.field-0 c.in-Ok-Some.ensures.ok)) ∙ ap is_some c.in-Ok-Some.field-0-is)
