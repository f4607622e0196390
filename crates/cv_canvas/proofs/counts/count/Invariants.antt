-- The pixels so far are counted once more, and the others are as they were.
use Rattle.std.proofs.Common.{◌≡◌, ◌++◌, map, take, drop}
use Rattle.cv_canvas.specs.Counts.{once_more}
use Rattle.cv_canvas.proofs.counts.count.Given as goal

abbrev pub invariant-loop-count : goal.invariant-loop-count
invariant-loop-count l =
    l.counts ≡ map once_more (take l.count-index l.fn.counts) ++ drop l.count-index l.fn.counts
