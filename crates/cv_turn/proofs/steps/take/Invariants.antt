use Rattle.std.proofs.Common.{◌≡◌}
use Rattle.cv_turn.specs.Rule.{IsSameSeat}
use Rattle.cv_turn.proofs.steps.take.Given as goal

abbrev pub invariant-loop : goal.invariant-loop
invariant-loop g l = IsSameSeat l.initial.seat l.seat × (l.seat.me ≡ l.initial.seat.me)
