-- Up to an offset the points are read, and the next point is expected.
use Rattle.std.proofs.Common.{◌-◌, length}
use Rattle.cv_wkt.specs.Short.{IsAtPoint, PointsAlong}
use Rattle.cv_wkt.proofs.reader.Reader.take_points.Given as goal

abbrev pub invariant-loop-self : goal.invariant-loop-self
invariant-loop-self l = record {
  stands : IsAtPoint l.self;
  along : PointsAlong l.text l.start l.fn.self l.at l.self;
}

abbrev pub decreases-loop-self : goal.decreases-loop-self
decreases-loop-self l = length l.text - l.at
