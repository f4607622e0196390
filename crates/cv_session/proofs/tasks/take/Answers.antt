use Rattle.std.proofs.Common.{ap, ◌∙◌, ◌++◌, ◌∷◌, [], List}
use Rattle.cv_session.specs.declared.seat.HeldTask.{HeldTask}
use Rattle.cv_session.specs.declared.seat.HeldTask.TheVariants as held
use Rattle.cv_session.proofs.TaskLemmas.{failed_live, takes_piece, takes_compose}
use Rattle.cv_session.proofs.tasks.take.Goals as goal

pub fail_live-requires : goal.fail_live-requires
fail_live-requires c = failed_live c.args.desk.now c.claim.new.self c.in-Err.error c.failed_job.result c.failed_job.ensures c.in-Err.ensures.answer c.in-Err.ensures.entry

pub returns-in-Ok-Paint-clause-ok : goal.returns-in-Ok-Paint-clause-ok
returns-in-Ok-Paint-clause-ok c =
    let answer = rw c.in-Ok-Paint.field-0-is at c.in-Ok-Paint.ensures.answer in
    let entry = rw c.in-Ok-Paint.field-0-is at c.in-Ok-Paint.ensures.entry in
    takes_piece c.args.desk.now c.claim.new.self c.in-Ok-Paint.piece c.args.held.now.items c.hold.new.held.items entry answer.2
    (c.hold.ensures ∙ ap (λ (ts : List HeldTask). ts ++ held.Paint c.in-Ok-Paint.piece ∷ []) c.in_ok-reserve.ensures.items)

pub returns-in-Ok-Compose-clause-ok : goal.returns-in-Ok-Compose-clause-ok
returns-in-Ok-Compose-clause-ok c =
    let answer = rw c.in-Ok-Compose.field-0-is at c.in-Ok-Compose.ensures.answer in
    let entry = rw c.in-Ok-Compose.field-0-is at c.in-Ok-Compose.ensures.entry in
    takes_compose c.args.desk.now c.claim.new.self c.in-Ok-Compose.job c.in-Ok-Compose.input c.args.held.now.items c.hold-in-Ok-Compose.new.held.items entry answer.1
    (c.hold-in-Ok-Compose.ensures ∙ ap (λ (ts : List HeldTask). ts ++ held.Compose c.in-Ok-Compose.job c.in-Ok-Compose.input ∷ []) c.in_ok-reserve.ensures.items)
