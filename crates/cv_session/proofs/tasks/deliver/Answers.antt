use Rattle.std.proofs.Common.{◌≡◌, refl, sym, subst, true, is_some}
use Rattle.std.proofs.lemmas.Result.{on_ok_weaker}
use Rattle.cv_event.specs.declared.entry.Act.TheVariants as act
use Rattle.cv_event.specs.States.{job_in}
use Rattle.cv_desk.specs.Desks.{History, state, Notes}
use Rattle.cv_session.specs.Tasks.{is_done, is_failed}
use Rattle.cv_session.proofs.TaskLemmas.{missed_there}
use Rattle.cv_session.proofs.tasks.deliver.Goals as goal
use Rattle.cv_session.proofs.tasks.deliver.Goals.{in-Ok, in-Err}

pub fail_task-requires : goal.fail_task-requires
fail_task-requires c =
    subst (λ (h : History). is_some (job_in (state h).jobs c.args.job) ≡ true) (sym c.in-Err.ensures.err)
    (missed_there c.args.desk.now c.args.job c.args.slot c.args.image c.requires)

pub returns-clause-ok : goal.returns-clause-ok
returns-clause-ok c =
    elim c.match-deliver.branch [
      | in-Ok w ↦ rw w.result-is (rw w.desk-is (is_done (act.Deliver c.args.job c.args.slot w.in-Ok.field-0) (w.in-Ok.field-0, refl) w.in-Ok.ensures.ok))
      | in-Err w ↦
          rw w.result-is
          (rw w.desk-is
          (on_ok_weaker w.fail_task.result
          (λ notes. is_failed (subst (λ (h : History). Notes h w.fail_task.new.desk 0 (act.Fail c.args.job)) w.in-Err.ensures.err notes)) w.fail_task.ensures.ok))
    ]
