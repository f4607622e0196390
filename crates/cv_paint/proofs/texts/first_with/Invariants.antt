-- The first feature with the text stands behind those so far.
use Rattle.std.proofs.Common.{◌≡◌, ◌≤◌, ◌-◌, drop, length}
use Rattle.std.specs.Prelude.{find}
use Rattle.cv_model.specs.Texts.{has_text}
use Rattle.cv_paint.proofs.texts.first_with.Given as goal

abbrev pub invariant-loop-at : goal.invariant-loop-at
invariant-loop-at l =
    (l.at ≤ length l.rows)
    × (find (has_text l.table.columns l.name l.text) (drop l.at l.rows) ≡ find (has_text l.table.columns l.name l.text) l.rows)

abbrev pub decreases-loop-at : goal.decreases-loop-at
decreases-loop-at l = length l.rows - l.at
