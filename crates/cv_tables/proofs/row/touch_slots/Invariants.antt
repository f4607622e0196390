use Rattle.std.proofs.Common.{length, ◌-◌, ◌≡◌, take, drop, ◌++◌}
use Rattle.cv_tables.specs.Rows.{slots_named}
use Rattle.cv_tables.proofs.row.touch_slots.Given as goal

-- the slots before are touched, those behind are as they were
abbrev pub invariant-loop-at : goal.invariant-loop-at
invariant-loop-at l =
    (take l.at l.slots.items ++ slots_named l.edit (drop l.at l.slots.items) (drop l.at l.inputs)
    ≡ slots_named l.edit l.initial.slots.items l.inputs) × (length l.slots.items ≡ length l.inputs)

abbrev pub decreases-loop-at : goal.decreases-loop-at
decreases-loop-at l = length l.slots.items - l.at
