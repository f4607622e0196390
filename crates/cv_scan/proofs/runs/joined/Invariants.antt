use Rattle.std.proofs.Common.{◌≡◌, ◌++◌, length}
use Rattle.cv_scan.specs.Runs.{joined}
use Rattle.cv_scan.proofs.runs.joined.Given as goal

abbrev pub invariant-loop-rest : goal.invariant-loop-rest
invariant-loop-rest l = l.spans ++ joined l.start l.end l.rest ≡ joined l.fn.from l.fn.from l.fn.reaches

abbrev pub decreases-loop-rest : goal.decreases-loop-rest
decreases-loop-rest l = length l.rest
