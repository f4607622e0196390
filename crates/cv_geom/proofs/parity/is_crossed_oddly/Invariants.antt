use Rattle.std.proofs.Common.{◌≡◌, ◌+◌, ◌%◌, if◌then◌else◌, drop}
use Rattle.cv_model.specs.Positions.{doubled}
use Rattle.cv_model.specs.Polygons.{crossings, edges, edges_from, is_low}
use Rattle.cv_geom.proofs.parity.is_crossed_oddly.Given as goal

-- it is known whether the last point is low; the crossings so far and those of the edges still to come
-- are as odd as all
abbrev pub invariant-loop-point : goal.invariant-loop-point
invariant-loop-point l =
    (l.was_low ≡ is_low l.p (doubled l.before))
    × (((if l.odd then 1 else 0) + crossings l.p (edges_from l.before (drop l.point-index l.points))) % 2
    ≡ crossings l.p (edges l.points) % 2)
