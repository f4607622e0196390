-- The features so far are covered, and the steps of the others may still be paid.
use Rattle.std.proofs.Common.{◌≡◌, ◌≤◌, ◌+◌, take, drop}
use Rattle.std.specs.List.{list_any}
use Rattle.cv_model.specs.Pictures.{is_feature_at}
use Rattle.cv_canvas.specs.Cover.{is_covered_in}
use Rattle.cv_paint.specs.Masks.{Covers}
use Rattle.cv_paint.specs.Costs.{features_cost}
use Rattle.cv_paint.proofs.masks.cover_rows.Given as goal

abbrev pub invariant-loop-row : goal.invariant-loop-row
invariant-loop-row g l =
    (l.cover.width ≡ l.fn.cover.width) × (l.cover.height ≡ l.fn.cover.height)
    × Covers l.view (λ p. list_any (is_feature_at p) (take l.row-index l.rows)) (is_covered_in l.fn.cover) (is_covered_in l.cover)
    × (l.steps + features_cost l.view (drop l.row-index l.rows) ≤ l.fn.steps + features_cost l.view l.rows)
