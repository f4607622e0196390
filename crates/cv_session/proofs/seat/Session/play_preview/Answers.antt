-- What `preview` leaves.
use Rattle.std.proofs.Common.{◌∙◌, ap, sym, Some}
use Rattle.cv_outside.specs.Seen.{tray_seen}
use Rattle.cv_session.proofs.OutputLemmas.{preview_no_canvas, preview_no_job}
use Rattle.cv_session.proofs.seat.Session.play_preview.Goals as goal

pub returns-in-Some-None-clause-ends : goal.returns-in-Some-None-clause-ends
returns-in-Some-None-clause-ends g c =
    preview_no_job c.args.self.now c.refuse_write.new.self c.args.line c.args.canvas c.args.file.now c.refuse_write.result (tray_seen g.T.Tray c.args.tray.now)
    (sym c.last.ensures ∙ c.in-Some-None.is ∙ ap Some c.in-Some-None.field-0-is) c.refuse_write.ensures.refused

pub returns-in-None-clause-ends : goal.returns-in-None-clause-ends
returns-in-None-clause-ends g c =
    preview_no_canvas c.args.self.now c.refuse_write-in-None.new.self c.args.line c.args.canvas c.args.file.now c.refuse_write-in-None.result (tray_seen g.T.Tray c.args.tray.now)
    (sym c.last.ensures ∙ c.in-None.is) c.refuse_write-in-None.ensures.refused
