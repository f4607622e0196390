-- The pixels so far are the old ones and the row's first ones.
use Rattle.std.proofs.Common.{◌≡◌, ◌++◌}
use Rattle.cv_model.specs.Rasters.{row_of}
use Rattle.cv_model.specs.Pictures.{pixel}
use Rattle.cv_paint.proofs.centres.put_row.Given as goal

abbrev pub invariant-loop-i : goal.invariant-loop-i
invariant-loop-i l = l.pixels ≡ l.fn.pixels ++ row_of l.i (pixel l.input.parts l.view) l.j
