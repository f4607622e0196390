use Rattle.std.proofs.Common.{length, ◌-◌, ◌≡◌, drop}
use Rattle.cv_event.specs.Legality.{open_slot}
use Rattle.cv_tables.proofs.slots.open_slot.Given as goal

-- what the rest gives
abbrev pub invariant-loop-at : goal.invariant-loop-at
invariant-loop-at l = open_slot l.at (drop l.at l.slots) ≡ open_slot 0 l.slots

abbrev pub decreases-loop-at : goal.decreases-loop-at
decreases-loop-at l = length l.slots - l.at
