use Rattle.std.proofs.Common.{refl}
use Rattle.cv_session.proofs.SeatLemmas.{seat_edited}
use Rattle.cv_session.proofs.seat.Session.edit.Goals as goal

pub invariant_of-self : goal.invariant_of-self
invariant_of-self c =
    seat_edited c.edit.result (record { history = c.self.inside.desk; held = c.self.inside.held.items; specs = c.self.inside.specs.items; lasts = c.self.inside.lasts.items; refused = c.self.inside.refused })
    (record { history = c.edit.new.self; held = c.self.inside.held.items; specs = c.self.inside.specs.items; lasts = c.self.inside.lasts.items; refused = c.self.inside.refused })
    c.args.edit c.self.invariant refl refl refl c.edit.ensures.entry
