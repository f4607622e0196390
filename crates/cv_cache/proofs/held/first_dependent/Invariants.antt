use Rattle.std.proofs.Common.{◌≡◌, find}
use Rattle.cv_cache.proofs.HeldLemmas.{depends}
use Rattle.cv_cache.proofs.held.first_dependent.Given as goal

-- what the rest finds
abbrev pub invariant-loop-id : goal.invariant-loop-id
invariant-loop-id l =
    (goal.iterator-loop-id).can_next l.id-iterator × (goal.iterator-loop-id).is_finite l.id-iterator
    × (find (depends l.layer) l.id-iterator ≡ find (depends l.layer) l.fn.images.entries)
