use Rattle.std.proofs.Common.{refl, sym, ap, ◌∙◌, subst, IfOk, length}
use Rattle.cv_script.specs.declared.script.Command.TheVariants as command
use Rattle.cv_session.specs.Responses.{shows}
use Rattle.cv_session.specs.Seats.{now, tasks_of, IsOfSize}
use Rattle.cv_session.proofs.ObeyLemmas.{on_ok}
use Rattle.cv_session.proofs.ViewLemmas.{view_of_size, shown, view_response, view_unknown}
use Rattle.cv_session.proofs.seat.Session.play_view.Goals as goal

pub show-requires : goal.show-requires
show-requires c =
    subst (λ r. IfOk r (IsOfSize (now c.args.self.now) c.args.canvas)) (sym c.view_of-made.ensures.answer)
    (view_of_size (now c.args.self.now) c.args.canvas c.args.extent c.in-Some.spec c.in-Some.ensures)

pub returns-in-Some : goal.returns-in-Some
returns-in-Some c =
    on_ok c.show.result
    (shown c.args.self.now c.show.new.self c.args.line c.args.canvas (command.View c.args.canvas c.args.extent) c.view_of-made.result
    (view_response (now c.args.self.now) (length (tasks_of c.args.self.now)) c.args.canvas c.args.extent c.in-Some.spec c.in-Some.ensures ∙ ap (shows c.args.canvas) (sym c.view_of-made.ensures.answer)) refl)
    c.show.ensures

pub returns-in-None : goal.returns-in-None
returns-in-None c =
    on_ok c.refuse.result (view_unknown c.args.self.now c.refuse.new.self c.args.line c.args.canvas c.args.extent c.in-None.ensures) c.refuse.ensures
