use Rattle.std.proofs.Common.{◌≡◌, take}
use Rattle.cv_tables.proofs.holdings.copied_slots.Given as goal

abbrev pub invariant-loop-slot : goal.invariant-loop-slot
invariant-loop-slot l = l.made ≡ take l.slot-index l.slots
