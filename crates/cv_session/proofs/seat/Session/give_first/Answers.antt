use Rattle.std.proofs.Common.{◌≡◌, ◌<◌, refl, ap, subst, ◌∷◌, map, length, drop}
use Rattle.std.proofs.lemmas.Result.{on_ok_weaker}
use Rattle.cv_session.specs.Seats.{Seat, task_of}
use Rattle.cv_session.specs.Tasks.{ServesFirst}
use Rattle.cv_session.proofs.TaskLemmas.{seat_given, first_task}
use Rattle.cv_session.proofs.seat.Session.give_first.Goals as goal

pub invariant_of-self : goal.invariant_of-self
invariant_of-self c =
    let old : Seat = record {
      history = c.self.inside.desk;
      held = c.self.inside.held.items;
      specs = c.self.inside.specs.items;
      lasts = c.self.inside.lasts.items;
      refused = c.self.inside.refused;
    } in
    let new : Seat = record old { history = c.serve.new.desk; held = c.remove-task.new.self.items } in
    let few : 0 < length old.held = rw (← c.self.view_is) at c.requires in
    let was : old.held ≡ c.remove-task.result ∷ drop 1 old.held = first_task old.held c.remove-task.result few c.remove-task.ensures.value in
    seat_given old new c.remove-task.result (drop 1 old.held) c.serve.result c.self.invariant was c.remove-task.ensures.by_index.2 refl refl c.serve.ensures.ok c.serve.ensures.err

pub returns : goal.returns
returns c =
    let old : Seat = record {
      history = c.self.inside.desk;
      held = c.self.inside.held.items;
      specs = c.self.inside.specs.items;
      lasts = c.self.inside.lasts.items;
      refused = c.self.inside.refused;
    } in
    let new : Seat = record old { history = c.serve.new.desk; held = c.remove-task.new.self.items } in
    let few : 0 < length old.held = rw (← c.self.view_is) at c.requires in
    let was : old.held ≡ c.remove-task.result ∷ drop 1 old.held = first_task old.held c.remove-task.result few c.remove-task.ensures.value in
    on_ok_weaker c.serve.result
    (λ served. subst (λ (seat : Seat). ServesFirst seat new) c.self.view_is (record {
      first = task_of c.remove-task.result;
      rest = map task_of (drop 1 old.held);
      was = ap (map task_of) was;
      becomes = ap (map task_of) c.remove-task.ensures.by_index.2;
      held = c.remove-task.ensures.by_index.2;
      served = served;
      refused = refl;
    })) c.serve.ensures.ok
