use Rattle.std.proofs.Common.{◌≡◌, ◌+◌, ◌%◌, if◌then◌else◌, drop}
use Rattle.std.specs.List.{flat_map}
use Rattle.cv_model.specs.Polygons.{crossings, edges}
use Rattle.cv_geom.proofs.parity.inside.Given as goal

-- the crossings so far and those of the rings still to come are as odd as all
abbrev pub invariant-loop-ring : goal.invariant-loop-ring
invariant-loop-ring l =
    ((if l.odd then 1 else 0) + crossings l.p (flat_map edges (drop l.ring-index l.ring-items))) % 2
    ≡ crossings l.p (flat_map edges l.ring-items) % 2
