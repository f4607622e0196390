-- What a preview leaves.
use Rattle.std.proofs.Common.{refl, sym, subst}
use Rattle.cv_event.specs.TextLaws.{FitsOpening}
use Rattle.cv_session.specs.Outputs.{PreviewEnters}
use Rattle.cv_session.specs.Seats.{Seat}
use Rattle.cv_session.proofs.OutputLemmas.{preview_enters, preview_seat}
use Rattle.cv_session.proofs.seat.Session.preview.Goals as goal

pub invariant_of-self : goal.invariant_of-self
invariant_of-self c =
    preview_seat (record { history = c.self.inside.desk; held = c.self.inside.held.items; specs = c.self.inside.specs.items; lasts = c.self.inside.lasts.items; refused = c.self.inside.refused })
    (record { history = c.preview.new.self; held = c.self.inside.held.items; specs = c.self.inside.specs.items; lasts = c.self.inside.lasts.items; refused = c.self.inside.refused })
    c.args.job c.preview.result c.self.invariant c.preview.ensures.answer c.preview.ensures.ok refl refl refl c.preview.ensures.err

pub returns-clause-enters : goal.returns-clause-enters
returns-clause-enters c =
    let fits = subst (λ (s : Seat). FitsOpening s.history.opening) (sym c.self.view_is) c.requires in
    let new : Seat = record { history = c.preview.new.self; held = c.self.inside.held.items; specs = c.self.inside.specs.items; lasts = c.self.inside.lasts.items; refused = c.self.inside.refused } in
    subst (λ (s : Seat). PreviewEnters s new c.args.job c.preview.result) c.self.view_is
    (preview_enters (record { history = c.self.inside.desk; held = c.self.inside.held.items; specs = c.self.inside.specs.items; lasts = c.self.inside.lasts.items; refused = c.self.inside.refused })
    new c.args.job c.preview.result c.known.ensures fits c.preview.ensures.answer c.preview.ensures.ok refl refl)
