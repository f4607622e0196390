-- The pixels so far have the planes' colours, and those that are left give the rest.
use Rattle.std.proofs.Common.{◌≡◌, ◌++◌, take, drop}
use Rattle.cv_compose.specs.Planes.{colours}
use Rattle.cv_compose.proofs.composition.set_colours.Given as goal

abbrev pub invariant-loop-k : goal.invariant-loop-k
invariant-loop-k l =
    take l.k l.pixels ++ colours (drop l.k l.r) (drop l.k l.g) (drop l.k l.b) ≡ colours l.r l.g l.b
