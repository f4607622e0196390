-- The others are as they were.
use Rattle.std.proofs.Common.{◌≡◌, ◌≢◌, ℕ, length}
use Rattle.cv_model.specs.Packed.{is_among}
use Rattle.cv_layer.proofs.places.without_place.Given as goal

abbrev pub invariant-loop-k : goal.invariant-loop-k
invariant-loop-k l = (k : ℕ) → k ≢ l.at → is_among l.made k ≡ is_among l.places k

abbrev pub decreases-loop-k : goal.decreases-loop-k
decreases-loop-k l = length l.made
