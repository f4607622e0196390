use Rattle.std.proofs.Common.{refl}
use Rattle.cv_event.specs.declared.entry.Act.TheVariants as act
use Rattle.cv_session.proofs.SeatLemmas.{seat_answers}
use Rattle.cv_session.proofs.seat.Session.set_view.Goals as goal

pub invariant_of-self : goal.invariant_of-self
invariant_of-self c =
    seat_answers c.set_view.result (record { history = c.self.inside.desk; held = c.self.inside.held.items; specs = c.self.inside.specs.items; lasts = c.self.inside.lasts.items; refused = c.self.inside.refused })
    (record { history = c.set_view.new.self; held = c.self.inside.held.items; specs = c.self.inside.specs.items; lasts = c.self.inside.lasts.items; refused = c.self.inside.refused })
    (act.View c.args.canvas c.args.view) c.self.invariant refl refl refl refl refl refl c.set_view.ensures.ok c.set_view.ensures.err
