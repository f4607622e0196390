-- The pixels so far are those of the colour, and the others are as they were.
use Rattle.std.proofs.Common.{◌≡◌, ◌++◌, map, take, drop}
use Rattle.cv_model.specs.Rasters.{row_of}
use Rattle.cv_canvas.specs.Cover.{is_covered_in}
use Rattle.cv_canvas.specs.Opaque.{inked}
use Rattle.cv_canvas.proofs.opaque.ink.Given as goal

abbrev pub invariant-loop-i : goal.invariant-loop-i
invariant-loop-i l =
    l.into ≡ map (inked l.colour) (take l.i (row_of l.cover.width (is_covered_in l.cover) l.row)) ++ drop l.i l.fn.into
