-- As many steps are counted as pixels so far.
use Rattle.std.proofs.Common.{◌≡◌, ◌+◌}
use Rattle.cv_paint.proofs.steps.count.Given as goal

abbrev pub invariant-loop-pixel : goal.invariant-loop-pixel
invariant-loop-pixel g l = l.steps ≡ l.fn.steps + l._pixel
