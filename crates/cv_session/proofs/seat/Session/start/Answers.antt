use Rattle.std.proofs.Common.{refl}
use Rattle.cv_session.proofs.SeatLemmas.{seat_started}
use Rattle.cv_session.proofs.seat.Session.start.Goals as goal

pub invariant_of-self : goal.invariant_of-self
invariant_of-self c =
    seat_started (record { history = c.self.inside.desk; held = c.self.inside.held.items; specs = c.self.inside.specs.items; lasts = c.self.inside.lasts.items; refused = c.self.inside.refused })
    (record { history = c.start.new.self; held = c.self.inside.held.items; specs = c.self.inside.specs.items; lasts = c.put_last.new.lasts.items; refused = c.self.inside.refused })
    c.args.canvas c.in-Ok.job c.self.invariant c.in-Ok.ensures.ok refl refl c.put_last.ensures
