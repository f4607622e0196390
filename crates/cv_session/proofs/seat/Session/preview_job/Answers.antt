-- What the preview of a job leaves.
use Rattle.std.proofs.Common.{◌≡◌, ◌∙◌, subst, Err}
use Rattle.cv_model.specs.Paintings.{composed}
use Rattle.cv_model.specs.Rasters.{ppm_of}
use Rattle.cv_outside.specs.Seen.{tray_seen}
use Rattle.cv_session.specs.Outputs.{PreviewEnters, RefusedWrite}
use Rattle.cv_session.specs.Seats.{now}
use Rattle.cv_session.proofs.OutputLemmas.{preview_ends, preview_ended, last_unknown}
use Rattle.cv_session.proofs.seat.Session.preview_job.Goals as goal

pub returns-in-Err-Ended-clause-ends : goal.returns-in-Err-Ended-clause-ends
returns-in-Err-Ended-clause-ends g c =
    preview_ended c.args.self.now c.preview.new.self c.refuse_write.new.self c.args.line c.args.canvas c.args.job c.in-Err-Ended.how c.args.file.now c.refuse_write.result (tray_seen g.T.Tray c.args.tray.now)
    c.requires.there c.requires.last
    (subst (λ e. PreviewEnters c.args.self.now c.preview.new.self c.args.job (Err e)) c.in-Err-Ended.field-0-is c.in-Err-Ended.ensures.enters)
    c.in-Err-Ended.ensures.err
    (subst (λ why. RefusedWrite c.preview.new.self c.refuse_write.new.self c.args.line why c.refuse_write.result) c.ended_reason.ensures c.refuse_write.ensures.refused)

pub unreachable-requires : goal.unreachable-requires
unreachable-requires g c =
    last_unknown (now c.args.self.now) c.args.canvas c.args.job c.requires.last
    (subst (λ e. PreviewEnters c.args.self.now c.preview.new.self c.args.job (Err e)) c.in-Err-UnknownJob.field-0-is c.in-Err-UnknownJob.ensures.enters)

pub returns-clause-ends : goal.returns-clause-ends
returns-clause-ends g c =
    let bytes : c.as_slice.result.now ≡ ppm_of (composed c.in-Ok.input) = c.as_slice.ensures.value ∙ c.in-Ok-composed_bytes.ensures in
    preview_ends c.args.self.now c.preview.new.self c.args.line c.args.canvas c.args.job c.args.file.now c.as_slice.result.now c.in-Ok.input c.put.result
    (tray_seen g.T.Tray c.args.tray.now) (tray_seen g.T.Tray c.put.new.tray) c.requires.there c.requires.last c.in-Ok.ensures.enters bytes c.put.ensures.put
