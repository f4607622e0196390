use Rattle.std.proofs.Common.{◌≡◌, length}
use Rattle.std.specs.Map.{values_of}
use Rattle.cv_cache.specs.Caches.{independent, IsKeyed}
use Rattle.cv_cache.proofs.held.drop_dependents.Given as goal

-- what is independent of the layer stays
abbrev pub invariant-loop-id : goal.invariant-loop-id
invariant-loop-id l =
    (independent l.layer (values_of l.images.entries) ≡ independent l.layer (values_of l.fn.images.entries))
    × (IsKeyed l.fn.images.entries → IsKeyed l.images.entries) × (l.images.cap ≡ l.fn.images.cap)

-- each turn takes one out
abbrev pub decreases-loop-id : goal.decreases-loop-id
decreases-loop-id l = length l.images.entries
