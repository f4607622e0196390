use Rattle.std.proofs.Common.{refl}
use Rattle.cv_session.specs.Seats.{Seat}
use Rattle.cv_session.proofs.TaskLemmas.{seat_taken_by}
use Rattle.cv_session.proofs.seat.Session.take_task.Goals as goal

pub invariant_of-self : goal.invariant_of-self
invariant_of-self c =
    let old : Seat = record {
      history = c.self.inside.desk;
      held = c.self.inside.held.items;
      specs = c.self.inside.specs.items;
      lasts = c.self.inside.lasts.items;
      refused = c.self.inside.refused;
    } in
    let new : Seat = record old { history = c.take.new.desk; held = c.take.new.held.items } in
    seat_taken_by old new c.take.result c.self.invariant c.take.ensures.ok c.take.ensures.err refl refl
