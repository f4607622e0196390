-- The elements of a list that stands in groups of chunks.
use Rattle.std.specs.Prelude.{List, [], Option, Some, None}
use Rattle.std.specs.List.{flat_map}
use Rattle.std.specs.Arc.{arc_value}
use Rattle.std.specs.declared.sync.Arc.{Arc}
use Rattle.std.specs.declared.vec.Vec.{Vec}

-- the elements of all chunks of all groups, in order; a list with no group has none
abbrev pub elements_of : {T Z A : Type 0} → Option (Arc (Vec (List (List T)) Z) A) → List T
elements_of None = []
elements_of (Some groups) = flat_map (flat_map (λ chunk. chunk)) (arc_value groups).items
