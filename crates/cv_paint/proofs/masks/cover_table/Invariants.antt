-- The features so far are covered, and the steps of the others may still be paid.
use Rattle.std.proofs.Common.{◌≡◌, ◌≤◌, ◌+◌, ◌-◌, take, drop, length}
use Rattle.std.specs.List.{list_any}
use Rattle.cv_model.specs.Pictures.{is_feature_at}
use Rattle.cv_canvas.specs.Cover.{is_covered_in}
use Rattle.cv_paint.specs.Masks.{Covers}
use Rattle.cv_paint.specs.Costs.{features_cost}
use Rattle.cv_paint.proofs.masks.cover_table.Given as goal

abbrev pub invariant-loop-at : goal.invariant-loop-at
invariant-loop-at g l =
    (l.cover.width ≡ l.fn.cover.width) × (l.cover.height ≡ l.fn.cover.height)
    × (g.S.Stop.yeses l.stop ≡ g.S.Stop.yeses l.fn.stop)
    × (l.at ≤ length l.rows)
    × Covers l.view (λ p. list_any (is_feature_at p) (take l.at l.rows)) (is_covered_in l.fn.cover) (is_covered_in l.cover)
    × (l.steps + features_cost l.view (drop l.at l.rows) ≤ l.fn.steps + features_cost l.view l.rows)

abbrev pub decreases-loop-at : goal.decreases-loop-at
decreases-loop-at g l = length l.rows - l.at
