use Rattle.std.proofs.Common.{length, ◌≡◌, ◌≤◌, drop}
use Rattle.cv_tables.specs.Rows.{missed_in}
use Rattle.cv_tables.proofs.slots.missed.Given as goal

-- those of the slots behind
abbrev pub invariant-loop-at : goal.invariant-loop-at
invariant-loop-at l = (l.at ≤ length l.slots) × (l.count ≡ missed_in (drop l.at l.slots))

abbrev pub decreases-loop-at : goal.decreases-loop-at
decreases-loop-at l = l.at
