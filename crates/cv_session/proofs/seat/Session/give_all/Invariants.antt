use Rattle.std.proofs.Common.{length}
use Rattle.cv_session.specs.Tasks.{Gives}
use Rattle.cv_session.proofs.seat.Session.give_all.Given as goal

abbrev pub invariant-loop-self : goal.invariant-loop-self
invariant-loop-self l = Gives l.fn.self l.self

abbrev pub decreases-loop-self : goal.decreases-loop-self
decreases-loop-self l = length l.self.held
