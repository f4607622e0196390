-- The strokes of the features that are left, laid on the pixel so far, give the pixel of them all.
use Rattle.std.proofs.Common.{◌≡◌, drop}
use Rattle.std.specs.List.{flat_map}
use Rattle.cv_model.specs.Colours.{laid_on}
use Rattle.cv_model.specs.Pictures.{feature_strokes}
use Rattle.cv_paint.proofs.centres.with_rows.Given as goal

abbrev pub invariant-loop-row : goal.invariant-loop-row
invariant-loop-row l =
    laid_on l.pixel (flat_map (feature_strokes l.input.parts l.view l.p) (drop l.row-index l.rows))
    ≡ laid_on l.fn.pixel (flat_map (feature_strokes l.input.parts l.view l.p) l.rows)
