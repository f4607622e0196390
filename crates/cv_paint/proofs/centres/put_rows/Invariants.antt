-- The rows so far stand behind the others.
use Rattle.std.proofs.Common.{◌≡◌, ◌≤◌, ◌++◌}
use Rattle.cv_model.specs.Rasters.{pixels_of}
use Rattle.cv_model.specs.Pictures.{pixel}
use Rattle.cv_paint.proofs.centres.put_rows.Given as goal

abbrev pub invariant-loop-j : goal.invariant-loop-j
invariant-loop-j g l =
    (g.S.Stop.yeses l.stop ≡ g.S.Stop.yeses l.fn.stop)
    × (l.pixels ≡ l.fn.pixels ++ pixels_of l.view.w l.j (pixel l.input.parts l.view))
