-- The rows so far stand behind the others, and the steps of those to come may still be paid.
use Rattle.std.proofs.Common.{◌≡◌, ◌≤◌, ◌+◌, ◌-◌, ◌*◌, ◌++◌, vec_len}
use Rattle.cv_model.specs.Rasters.{pixels_of}
use Rattle.cv_paint.specs.Finish.{masked}
use Rattle.cv_paint.proofs.finish.put_rows.Given as goal

abbrev pub invariant-loop-j : goal.invariant-loop-j
invariant-loop-j g l =
    (vec_len l.row ≡ l.view.w) × (g.S.Stop.yeses l.stop ≡ g.S.Stop.yeses l.fn.stop)
    × (l.pixels ≡ l.fn.pixels ++ pixels_of l.view.w l.j (masked l.mask (g.C.Canvas.at l.canvas)))
    × (l.steps + (l.view.h - l.j) * l.view.w ≤ l.fn.steps + l.view.h * l.view.w)
