-- The slots below a place are there, with their images.
use Rattle.cv_map.proofs.SlotLemmas.{Along}
use Rattle.cv_map.proofs.slots.paint_slots.Given as goal

abbrev pub invariant-loop-at : goal.invariant-loop-at
invariant-loop-at l = Along l.store l.view l.slots l.layers l.at

abbrev pub decreases-loop-at : goal.decreases-loop-at
decreases-loop-at l = l.at
