-- The place isn't among those so far.
use Rattle.std.proofs.Common.{◌≡◌, false, ◌-◌, length, take}
use Rattle.cv_model.specs.Packed.{is_among}
use Rattle.cv_layer.proofs.places.find.Given as goal

abbrev pub invariant-loop-from : goal.invariant-loop-from
invariant-loop-from l = is_among (take l.from l.places) l.at ≡ false

abbrev pub decreases-loop-from : goal.decreases-loop-from
decreases-loop-from l = length l.places - l.from
