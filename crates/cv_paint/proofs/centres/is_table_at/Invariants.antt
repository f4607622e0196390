-- None of the features so far has the position inside.
use Rattle.std.proofs.Common.{◌≡◌, ◌≤◌, ◌-◌, drop, length}
use Rattle.std.specs.List.{list_any}
use Rattle.cv_model.specs.Pictures.{is_feature_at}
use Rattle.cv_paint.proofs.centres.is_table_at.Given as goal

abbrev pub invariant-loop-at : goal.invariant-loop-at
invariant-loop-at l =
    (l.at ≤ length l.rows)
    × (list_any (is_feature_at l.p) (drop l.at l.rows) ≡ list_any (is_feature_at l.p) l.rows)

abbrev pub decreases-loop-at : goal.decreases-loop-at
decreases-loop-at l = length l.rows - l.at
