use Rattle.std.proofs.Common.{refl, sym, ap, ◌∙◌, subst, IfOk}
use Rattle.cv_geom.specs.Views.{zoom}
use Rattle.cv_script.specs.declared.script.Command.TheVariants as command
use Rattle.cv_session.specs.Responses.{shows}
use Rattle.cv_session.specs.Seats.{now, IsOfSize}
use Rattle.cv_session.proofs.MoveLemmas.{declines, denies}
use Rattle.cv_session.proofs.ObeyLemmas.{on_ok}
use Rattle.cv_session.proofs.ViewLemmas.{zoom_of_size, shown}
use Rattle.cv_session.proofs.seat.Session.play_zoom.Goals as goal

pub show-requires : goal.show-requires
show-requires c =
    subst (λ r. IfOk r (IsOfSize (now c.args.self.now) c.args.canvas)) (sym c.zoom-made.ensures.answer)
    (zoom_of_size (now c.args.self.now) c.args.canvas c.in-Ok.view c.args.num c.args.den c.in-Ok.ensures.sized)

pub returns-in-Ok : goal.returns-in-Ok
returns-in-Ok c =
    on_ok c.show.result
    (shown c.args.self.now c.show.new.self c.args.line c.args.canvas (command.Zoom c.args.canvas c.args.num c.args.den) c.zoom-made.result
    (c.in-Ok.ensures.answer (λ view. shows c.args.canvas (zoom view c.args.num c.args.den)) ∙ ap (shows c.args.canvas) (sym c.zoom-made.ensures.answer)) refl)
    c.show.ensures

pub returns-in-Err : goal.returns-in-Err
returns-in-Err c =
    on_ok c.refuse.result
    (λ g. denies c.args.self.now c.refuse.new.self c.args.line (command.Zoom c.args.canvas c.args.num c.args.den) c.in-Err.reason
    (c.in-Err.ensures.answer (λ view. shows c.args.canvas (zoom view c.args.num c.args.den))) (declines c.args.self.now c.refuse.new.self c.args.line c.in-Err.reason g))
    c.refuse.ensures
