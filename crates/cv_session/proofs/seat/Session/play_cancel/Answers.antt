use Rattle.std.proofs.Common.{◌∙◌, slice_get}
use Rattle.cv_event.specs.declared.refused.Reason.TheVariants as reason
use Rattle.cv_session.specs.Responses.{last_job}
use Rattle.cv_session.specs.Seats.{now}
use Rattle.cv_session.proofs.ObeyLemmas.{on_ok, last_is, last_not, cancel_no_job, cancel_unknown}
use Rattle.cv_session.proofs.MoveLemmas.{declines}
use Rattle.cv_session.proofs.seat.Session.play_cancel.Goals as goal

pub returns-in-Some-None : goal.returns-in-Some-None
returns-in-Some-None c =
    let h = last_is (slice_get (now c.args.self.now).canvases c.args.canvas) (last_job (now c.args.self.now) c.args.canvas) c.in-Some-None.field-0 c.in-Some-None.ensures in
    on_ok c.refuse.result (λ f. cancel_no_job c.args.self.now c.refuse.new.self c.args.line c.args.canvas h.0 (h.1 ∙ c.in-Some-None.field-0-is)
    (declines c.args.self.now c.refuse.new.self c.args.line reason.NoJob f)) c.refuse.ensures

pub returns-in-None : goal.returns-in-None
returns-in-None c =
    on_ok c.refuse-in-None.result (λ f. cancel_unknown c.args.self.now c.refuse-in-None.new.self c.args.line c.args.canvas (last_not _ (last_job (now c.args.self.now) c.args.canvas) c.in-None.ensures)
    (declines c.args.self.now c.refuse-in-None.new.self c.args.line reason.UnknownCanvas f)) c.refuse-in-None.ensures
