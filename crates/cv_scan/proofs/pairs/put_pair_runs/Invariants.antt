use Rattle.std.proofs.Common.{◌+◌, ◌%◌, ◌==◌, nat_lt, ◌&&◌}
use Rattle.cv_geom.specs.Runs.{Adds}
use Rattle.cv_scan.specs.Pairs.{pairs_right}
use Rattle.cv_scan.proofs.pairs.put_pair_runs.Given as goal

-- the runs of the rows so far were added
abbrev pub invariant-loop-at : goal.invariant-loop-at
invariant-loop-at l =
    Adds (λ i j. nat_lt j (l.fn.first + l.at) && (pairs_right i j l.fn.first l.pairs % 2 == 1)) l.area l.fn.into l.into
