-- The strokes of the features so far are laid, and the steps of the others may still be paid.
use Rattle.std.proofs.Common.{◌≡◌, ◌≤◌, ◌+◌, ◌-◌, take, drop, length}
use Rattle.std.specs.List.{flat_map}
use Rattle.cv_model.specs.Pictures.{feature_strokes}
use Rattle.cv_paint.specs.Layings.{Lays}
use Rattle.cv_paint.specs.Costs.{features_cost}
use Rattle.cv_paint.proofs.features.lay_table.Given as goal

abbrev pub invariant-loop-at : goal.invariant-loop-at
invariant-loop-at g l =
    (g.C.Canvas.frame l.canvas ≡ g.C.Canvas.frame l.fn.canvas)
    × (g.S.Stop.yeses l.stop ≡ g.S.Stop.yeses l.fn.stop)
    × (l.at ≤ length l.rows)
    × Lays l.view (λ p. flat_map (feature_strokes l.symbols l.view p) (take l.at l.rows))
    (g.C.Canvas.at l.fn.canvas) (g.C.Canvas.at l.canvas)
    × (l.steps + features_cost l.view (drop l.at l.rows) ≤ l.fn.steps + features_cost l.view l.rows)

abbrev pub decreases-loop-at : goal.decreases-loop-at
decreases-loop-at g l = length l.rows - l.at
