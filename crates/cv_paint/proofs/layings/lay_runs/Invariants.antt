-- What lies on the canvas with the runs that are left is what it shall have, and their steps may still be paid.
use Rattle.std.proofs.Common.{◌≡◌, ◌+◌, drop, sum_by}
use Rattle.cv_canvas.specs.Canvas.{with_runs}
use Rattle.cv_geom.specs.Runs.{length_of}
use Rattle.cv_paint.proofs.layings.lay_runs.Given as goal

abbrev pub invariant-loop-run : goal.invariant-loop-run
invariant-loop-run g l =
    (g.C.Canvas.frame l.canvas ≡ g.C.Canvas.frame l.fn.canvas)
    × (with_runs l.colour (g.C.Canvas.at l.canvas) (drop l.run-index l.runs)
    ≡ with_runs l.colour (g.C.Canvas.at l.fn.canvas) l.runs)
    × (l.steps + sum_by length_of (drop l.run-index l.runs) ≡ l.fn.steps + sum_by length_of l.runs)
