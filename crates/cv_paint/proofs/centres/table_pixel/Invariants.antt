-- The strokes of the features so far are laid.
use Rattle.std.proofs.Common.{◌≡◌, ◌≤◌, ◌-◌, take, length}
use Rattle.std.specs.List.{flat_map}
use Rattle.cv_model.specs.Colours.{laid}
use Rattle.cv_model.specs.Pictures.{feature_strokes}
use Rattle.cv_paint.proofs.centres.table_pixel.Given as goal

abbrev pub invariant-loop-at : goal.invariant-loop-at
invariant-loop-at l =
    (l.at ≤ length l.rows)
    × (l.pixel ≡ laid (flat_map (feature_strokes l.input.parts l.view l.p) (take l.at l.rows)))

abbrev pub decreases-loop-at : goal.decreases-loop-at
decreases-loop-at l = length l.rows - l.at
