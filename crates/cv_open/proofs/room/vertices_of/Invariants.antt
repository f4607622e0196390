-- The vertices so far, with those of the features that are left, are all; and they are counted.
use Rattle.std.proofs.Common.{◌≡◌, ◌+◌, ◌≤◌, sum_by, drop}
use Rattle.cv_open.specs.Rooms.{vertices_in}
use Rattle.cv_model.specs.Geometries.{counted}
use Rattle.cv_open.proofs.room.vertices_of.Given as goal

abbrev pub invariant-loop-feature : goal.invariant-loop-feature
invariant-loop-feature l =
    (counted (l.vertices + sum_by vertices_in (drop l.feature-index l.features))
    ≡ counted (sum_by vertices_in l.features))
    × (l.vertices ≤ 18446744073709551615)
