use Rattle.std.proofs.Common.{◌≡◌, ◌<◌, ◌+◌, length, take}
use Rattle.std.specs.List.{flat_map}
use Rattle.cv_chunks.proofs.part.place_of.Given as goal

-- what stands before the next part, and the rest of the place, make the place, which isn't behind the end
abbrev pub invariant-loop-part : goal.invariant-loop-part
invariant-loop-part g l = record {
  behind : l.at ≡ length (flat_map g.P.Part.items (take l.part l.parts)) + l.within;
  before_end : l.at < length (flat_map g.P.Part.items l.parts);
}
