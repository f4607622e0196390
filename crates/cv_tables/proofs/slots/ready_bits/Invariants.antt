use Rattle.std.proofs.Common.{length, ◌≡◌, ◌≤◌, drop}
use Rattle.cv_event.specs.Legality.{ready_bits}
use Rattle.cv_tables.proofs.slots.ready_bits.Given as goal

-- the bits of the slots behind
abbrev pub invariant-loop-at : goal.invariant-loop-at
invariant-loop-at l = (l.at ≤ length l.slots) × (l.bits ≡ ready_bits (drop l.at l.slots))

abbrev pub decreases-loop-at : goal.decreases-loop-at
decreases-loop-at l = l.at
