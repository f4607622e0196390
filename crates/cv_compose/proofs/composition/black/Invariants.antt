-- There are no more pixels than are wanted.
use Rattle.std.proofs.Common.{◌≤◌, ◌-◌, length}
use Rattle.cv_compose.proofs.composition.black.Given as goal

abbrev pub invariant-loop-pixels : goal.invariant-loop-pixels
invariant-loop-pixels l = length l.pixels ≤ l.size

abbrev pub decreases-loop-pixels : goal.decreases-loop-pixels
decreases-loop-pixels l = l.size - length l.pixels
