-- The pixels so far are those of their counts, and the others are as they were.
use Rattle.std.proofs.Common.{◌≡◌, ◌++◌, map, take, drop}
use Rattle.cv_canvas.specs.Counts.{laid_times}
use Rattle.cv_canvas.proofs.counts.CountCanvas.coloured.Given as goal

abbrev pub invariant-loop-i : goal.invariant-loop-i
invariant-loop-i l = l.into ≡ map (laid_times l.self.colour) (take l.i l.counts) ++ drop l.i l.fn.into
