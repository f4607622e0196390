-- The points so far, with those of the polygons that are left, are all; and they are counted.
use Rattle.std.proofs.Common.{◌≡◌, ◌+◌, ◌≤◌, sum_by, drop}
use Rattle.cv_model.specs.Geometries.{counted, points_of}
use Rattle.cv_model.proofs.geometry.points_in_rings.Given as goal

abbrev pub invariant-loop-polygon : goal.invariant-loop-polygon
invariant-loop-polygon l =
    (counted (l.points + sum_by points_of (drop l.polygon-index l.polygons)) ≡ counted (sum_by points_of
    l.polygons))
    × (l.points ≤ 18446744073709551615)
