use Rattle.std.proofs.Common.{sym, ◌∙◌, subst, [], w32, OnOk}
use Rattle.std.proofs.lemmas.Int.{to_z-of_z}
use Rattle.cv_script.specs.declared.script.Command.TheVariants as command
use Rattle.cv_session.specs.Seats.{Obeys}
use Rattle.cv_session.proofs.seat.Session.play_silent.Goals as goal

pub returns-in-Pan : goal.returns-in-Pan
returns-in-Pan c =
    let dx = to_z-of_z w32 c.step-dx.result (record { sfits = c.step-dx.type_inv }) ∙ c.step-dx.ensures in
    let dy = to_z-of_z w32 c.step-dy.result (record { sfits = c.step-dy.type_inv }) ∙ c.step-dy.ensures in
    subst (λ k. OnOk c.play_pan.result (Obeys c.args.self.now c.play_pan.new.self c.args.line k []))
    ((λ i. command.Pan c.in-Pan.canvas (dx i) (dy i)) ∙ sym c.in-Pan.is) c.play_pan.ensures
