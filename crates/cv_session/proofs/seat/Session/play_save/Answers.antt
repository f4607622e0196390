-- What `save` leaves.
use Rattle.std.proofs.Common.{◌≡◌, ◌∙◌, ap, subst, Err}
use Rattle.cv_model.specs.Paintings.{composed}
use Rattle.cv_model.specs.Rasters.{ppm_of}
use Rattle.cv_outside.specs.Seen.{tray_seen}
use Rattle.cv_session.specs.Outputs.{SaveEnters}
use Rattle.cv_session.proofs.OutputLemmas.{save_ends, save_no_canvas, save_nothing}
use Rattle.cv_session.proofs.seat.Session.play_save.Goals as goal

pub returns-in-Err-UnknownCanvas-clause-ends : goal.returns-in-Err-UnknownCanvas-clause-ends
returns-in-Err-UnknownCanvas-clause-ends g c =
    save_no_canvas c.args.self.now c.published.new.self c.refuse_write.new.self c.args.line c.args.canvas c.args.file.now c.refuse_write.result (tray_seen g.T.Tray c.args.tray.now)
    (subst (λ e. SaveEnters c.args.self.now c.published.new.self c.args.canvas (Err e)) c.in-Err-UnknownCanvas.field-0-is c.in-Err-UnknownCanvas.ensures.enters)
    c.in-Err-UnknownCanvas.ensures.err c.refuse_write.ensures.refused

pub returns-in-Err-Nothing-clause-ends : goal.returns-in-Err-Nothing-clause-ends
returns-in-Err-Nothing-clause-ends g c =
    save_nothing c.args.self.now c.published.new.self c.refuse_write-in-Err-Nothing.new.self c.args.line c.args.canvas c.args.file.now c.refuse_write-in-Err-Nothing.result (tray_seen g.T.Tray c.args.tray.now)
    (subst (λ e. SaveEnters c.args.self.now c.published.new.self c.args.canvas (Err e)) c.in-Err-Nothing.field-0-is c.in-Err-Nothing.ensures.enters)
    c.in-Err-Nothing.ensures.err c.refuse_write-in-Err-Nothing.ensures.refused

pub returns-clause-ends : goal.returns-clause-ends
returns-clause-ends g c =
    let bytes : c.as_slice.result.now ≡ ppm_of (composed c.in-Ok.image) = c.as_slice.ensures.value ∙ c.in-Ok-ppm.ensures ∙ ap ppm_of (c.picture.ensures ∙ ap composed c.value.ensures) in
    save_ends c.args.self.now c.published.new.self c.args.line c.args.canvas c.args.file.now c.as_slice.result.now c.in-Ok.image c.put.result
    (tray_seen g.T.Tray c.args.tray.now) (tray_seen g.T.Tray c.put.new.tray) c.in-Ok.ensures.enters bytes c.put.ensures.put
