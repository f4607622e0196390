use Rattle.std.proofs.Common.{refl, sym, ap, ◌∙◌, subst, IfOk, w32}
use Rattle.std.proofs.lemmas.Int.{to_z-of_z}
use Rattle.cv_geom.specs.Views.{pan}
use Rattle.cv_script.specs.declared.script.Command.TheVariants as command
use Rattle.cv_session.specs.Responses.{shows}
use Rattle.cv_session.specs.Seats.{now, IsOfSize}
use Rattle.cv_session.proofs.MoveLemmas.{declines, denies}
use Rattle.cv_session.proofs.ObeyLemmas.{on_ok}
use Rattle.cv_session.proofs.ViewLemmas.{pan_of_size, shown}
use Rattle.cv_session.proofs.seat.Session.play_pan.Goals as goal

pub show-requires : goal.show-requires
show-requires c =
    let made = rw (to_z-of_z w32 c.args.dx c.ranges.dx) at (rw (to_z-of_z w32 c.args.dy c.ranges.dy) at c.pan-made.ensures.answer) in
    subst (λ r. IfOk r (IsOfSize (now c.args.self.now) c.args.canvas)) (sym made)
    (pan_of_size (now c.args.self.now) c.args.canvas c.in-Ok.view c.args.dx c.args.dy c.in-Ok.ensures.sized)

pub returns-in-Ok : goal.returns-in-Ok
returns-in-Ok c =
    let made = rw (to_z-of_z w32 c.args.dx c.ranges.dx) at (rw (to_z-of_z w32 c.args.dy c.ranges.dy) at c.pan-made.ensures.answer) in
    on_ok c.show.result
    (shown c.args.self.now c.show.new.self c.args.line c.args.canvas (command.Pan c.args.canvas c.args.dx c.args.dy) c.pan-made.result
    (c.in-Ok.ensures.answer (λ view. shows c.args.canvas (pan view c.args.dx c.args.dy)) ∙ ap (shows c.args.canvas) (sym made)) refl)
    c.show.ensures

pub returns-in-Err : goal.returns-in-Err
returns-in-Err c =
    on_ok c.refuse.result
    (λ g. denies c.args.self.now c.refuse.new.self c.args.line (command.Pan c.args.canvas c.args.dx c.args.dy) c.in-Err.reason
    (c.in-Err.ensures.answer (λ view. shows c.args.canvas (pan view c.args.dx c.args.dy))) (declines c.args.self.now c.refuse.new.self c.args.line c.in-Err.reason g))
    c.refuse.ensures
