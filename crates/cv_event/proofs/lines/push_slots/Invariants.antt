-- The text so far, and the slots that are left, are the text wanted.
use Rattle.std.proofs.Common.{◌≡◌, ◌++◌, ◌∷◌, drop, decimal}
use Rattle.std.specs.List.{flat_map}
use Rattle.cv_event.proofs.lines.push_slots.Given as goal

abbrev pub invariant-loop-slot : goal.invariant-loop-slot
invariant-loop-slot l =
    l.text.items ++ flat_map (λ slot. 44 ∷ decimal slot) (drop l.slot-index l.slots) ≡ l.fn.text.items ++ flat_map
    (λ slot. 44 ∷ decimal slot) l.slots
