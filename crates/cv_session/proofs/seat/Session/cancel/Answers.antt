use Rattle.std.proofs.Common.{refl}
use Rattle.cv_event.specs.declared.entry.Act.TheVariants as act
use Rattle.cv_session.proofs.SeatLemmas.{seat_answers, on_err}
use Rattle.cv_session.proofs.seat.Session.cancel.Goals as goal

pub invariant_of-self : goal.invariant_of-self
invariant_of-self c =
    seat_answers c.cancel.result (record { history = c.self.inside.desk; held = c.self.inside.held.items; specs = c.self.inside.specs.items; lasts = c.self.inside.lasts.items; refused = c.self.inside.refused })
    (record { history = c.cancel.new.self; held = c.self.inside.held.items; specs = c.self.inside.specs.items; lasts = c.self.inside.lasts.items; refused = c.self.inside.refused })
    (act.Cancel c.args.job) c.self.invariant refl refl refl refl refl refl c.cancel.ensures.ok (on_err c.cancel.result c.self.inside.desk c.cancel.new.self c.cancel.ensures.err)
