-- The pixels so far are kept where they are shown.
use Rattle.std.proofs.Common.{◌≡◌, take}
use Rattle.cv_model.specs.Rasters.{row_of}
use Rattle.cv_canvas.specs.Cover.{is_covered_in}
use Rattle.cv_paint.specs.Finish.{kept}
use Rattle.cv_paint.proofs.finish.keep_shown.Given as goal

abbrev pub invariant-loop-i : goal.invariant-loop-i
invariant-loop-i l = l.row ≡ kept (take l.i (row_of l.cover.width (is_covered_in l.cover) l.j)) l.fn.row
