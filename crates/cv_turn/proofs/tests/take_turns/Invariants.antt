use Rattle.cv_turn.specs.Pass.{IsSamePass}
use Rattle.cv_turn.proofs.tests.take_turns.Given as goal

abbrev pub invariant-loop-mark : goal.invariant-loop-mark
invariant-loop-mark g l = IsSamePass l.initial.pass l.pass
