use Rattle.std.proofs.Common.{◌∙◌, slice_get}
use Rattle.std.proofs.lemmas.Result.{on_ok_weaker}
use Rattle.cv_session.specs.Responses.{last_job}
use Rattle.cv_session.specs.Seats.{now}
use Rattle.cv_session.proofs.ObeyLemmas.{last_is, last_not}
use Rattle.cv_session.proofs.ServeLemmas.{wait_no_job, wait_unknown}
use Rattle.cv_session.proofs.seat.Session.play_wait.Goals as goal

pub returns-in-Some-None : goal.returns-in-Some-None
returns-in-Some-None c =
    let h = last_is (slice_get (now c.args.self.now).canvases c.args.canvas) (last_job (now c.args.self.now) c.args.canvas) c.in-Some-None.field-0 c.in-Some-None.ensures in
    on_ok_weaker c.refuse.result (wait_no_job c.args.self.now c.refuse.new.self c.args.line c.args.canvas h.0 (h.1 ∙ c.in-Some-None.field-0-is)) c.refuse.ensures

pub returns-in-None : goal.returns-in-None
returns-in-None c =
    on_ok_weaker c.refuse-in-None.result
    (wait_unknown c.args.self.now c.refuse-in-None.new.self c.args.line c.args.canvas
    (last_not (slice_get (now c.args.self.now).canvases c.args.canvas) (last_job (now c.args.self.now) c.args.canvas) c.in-None.ensures)) c.refuse-in-None.ensures
