use Rattle.std.proofs.Common.{◌≡◌, length, take}
use Rattle.std.specs.List.{flat_map}
use Rattle.cv_chunks.proofs.part.total_of.Given as goal

-- the total so far is that of the parts so far
abbrev pub invariant-loop-part : goal.invariant-loop-part
invariant-loop-part g l = l.total ≡ length (flat_map g.P.Part.items (take l.part-index l.parts))
