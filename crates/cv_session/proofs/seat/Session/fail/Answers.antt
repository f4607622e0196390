use Rattle.std.proofs.Common.{refl}
use Rattle.cv_event.specs.declared.entry.Act.TheVariants as act
use Rattle.cv_session.proofs.SeatLemmas.{seat_answers, on_err}
use Rattle.cv_session.proofs.seat.Session.fail.Goals as goal

pub invariant_of-self : goal.invariant_of-self
invariant_of-self c =
    seat_answers c.fail.result (record { history = c.self.inside.desk; held = c.self.inside.held.items; specs = c.self.inside.specs.items; lasts = c.self.inside.lasts.items; refused = c.self.inside.refused })
    (record { history = c.fail.new.self; held = c.self.inside.held.items; specs = c.self.inside.specs.items; lasts = c.self.inside.lasts.items; refused = c.self.inside.refused })
    (act.Fail c.args.job) c.self.invariant refl refl refl refl refl refl c.fail.ensures.ok (on_err c.fail.result c.self.inside.desk c.fail.new.self c.fail.ensures.err)
