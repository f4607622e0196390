-- The slots so far, and those of the bits that are left, are the slots wanted.
use Rattle.std.proofs.Common.{◌≡◌, ◌++◌, ◌-◌}
use Rattle.cv_event.specs.Lines.{set_bits, listed_slots}
use Rattle.cv_event.proofs.lines.listed_slots.Given as goal

abbrev pub invariant-loop-slot : goal.invariant-loop-slot
invariant-loop-slot l = l.slots.items ++ set_bits (32 - l.slot) l.slot l.rest ≡ listed_slots l.bits
