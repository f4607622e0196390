-- What a save leaves.
use Rattle.std.proofs.Common.{refl, subst}
use Rattle.cv_session.specs.Outputs.{SaveEnters}
use Rattle.cv_session.specs.Seats.{Seat}
use Rattle.cv_session.proofs.OutputLemmas.{save_enters, save_seat}
use Rattle.cv_session.proofs.seat.Session.published.Goals as goal

pub invariant_of-self : goal.invariant_of-self
invariant_of-self c =
    save_seat (record { history = c.self.inside.desk; held = c.self.inside.held.items; specs = c.self.inside.specs.items; lasts = c.self.inside.lasts.items; refused = c.self.inside.refused })
    (record { history = c.published.new.self; held = c.self.inside.held.items; specs = c.self.inside.specs.items; lasts = c.self.inside.lasts.items; refused = c.self.inside.refused })
    c.args.canvas c.published.result c.self.invariant c.known.ensures c.published.ensures.answer c.published.ensures.entry refl refl refl refl

pub returns-clause-enters : goal.returns-clause-enters
returns-clause-enters c =
    let new : Seat = record { history = c.published.new.self; held = c.self.inside.held.items; specs = c.self.inside.specs.items; lasts = c.self.inside.lasts.items; refused = c.self.inside.refused } in
    subst (λ (s : Seat). SaveEnters s new c.args.canvas c.published.result) c.self.view_is
    (save_enters (record { history = c.self.inside.desk; held = c.self.inside.held.items; specs = c.self.inside.specs.items; lasts = c.self.inside.lasts.items; refused = c.self.inside.refused })
    new c.args.canvas c.published.result c.known.ensures c.published.ensures.answer c.published.ensures.entry refl refl)
