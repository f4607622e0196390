use Rattle.cv_session.specs.Seats.{now}
use Rattle.cv_session.proofs.ViewLemmas.{not_unknown}
use Rattle.cv_session.proofs.seat.Session.show_view.Goals as goal

pub unreachable-requires : goal.unreachable-requires
unreachable-requires c =
    let h = rw c.in-Err-UnknownCanvas.field-0-is at c.in-Err-UnknownCanvas.ensures.answer in
    not_unknown (now c.args.self.now) c.args.canvas c.args.view c.requires h
