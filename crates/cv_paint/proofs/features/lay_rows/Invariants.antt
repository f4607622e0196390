-- The strokes of the features so far are laid, and the steps of the others may still be paid.
use Rattle.std.proofs.Common.{◌≡◌, ◌≤◌, ◌+◌, take, drop}
use Rattle.std.specs.List.{flat_map}
use Rattle.cv_model.specs.Pictures.{feature_strokes}
use Rattle.cv_paint.specs.Layings.{Lays}
use Rattle.cv_paint.specs.Costs.{features_cost}
use Rattle.cv_paint.proofs.features.lay_rows.Given as goal

abbrev pub invariant-loop-row : goal.invariant-loop-row
invariant-loop-row g l =
    (g.C.Canvas.frame l.canvas ≡ g.C.Canvas.frame l.fn.canvas)
    × Lays l.view (λ p. flat_map (feature_strokes l.symbols l.view p) (take l.row-index l.rows))
    (g.C.Canvas.at l.fn.canvas) (g.C.Canvas.at l.canvas)
    × (l.steps + features_cost l.view (drop l.row-index l.rows) ≤ l.fn.steps + features_cost l.view l.rows)
