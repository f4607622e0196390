-- The rows so far stand behind the others, and the steps of those to come may still be paid.
use Rattle.std.proofs.Common.{◌≡◌, ◌≤◌, ◌+◌, ◌-◌, ◌*◌, ◌++◌, vec_len}
use Rattle.cv_model.specs.Rasters.{pixels_of}
use Rattle.cv_paint.specs.Cells.{cell_pixel}
use Rattle.cv_paint.specs.Finish.{masked}
use Rattle.cv_paint.proofs.finish.put_cells.Given as goal

abbrev pub invariant-loop-j : goal.invariant-loop-j
invariant-loop-j g l =
    (vec_len l.row ≡ l.view.w) × (g.S.Stop.yeses l.stop ≡ g.S.Stop.yeses l.fn.stop)
    × (l.pixels ≡ l.fn.pixels ++ pixels_of l.view.w l.j (masked l.mask (cell_pixel l.style l.cells l.view)))
    × (l.steps + 2 * ((l.view.h - l.j) * l.view.w) ≤ l.fn.steps + 2 * (l.view.h * l.view.w))
