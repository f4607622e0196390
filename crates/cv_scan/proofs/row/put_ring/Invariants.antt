use Rattle.std.proofs.Common.{◌≡◌, ◌≤◌, ◌+◌, ◌++◌, drop, length}
use Rattle.cv_model.specs.Polygons.{edges, edges_from}
use Rattle.cv_scan.specs.Runs.{reaches_in}
use Rattle.cv_scan.proofs.row.put_ring.Given as goal

-- the reaches so far and those of the edges still to come are all, and the steps may still be paid
abbrev pub invariant-loop-point : goal.invariant-loop-point
invariant-loop-point g l = record {
  reaches :
      l.reaches.items
      ++ reaches_in l.view l.row l.columns.from l.columns.end (edges_from l.before (drop l.point-index l.points))
      ≡ l.fn.reaches.items ++ reaches_in l.view l.row l.columns.from l.columns.end (edges l.points);
  cost :
      l.steps + length (edges_from l.before (drop l.point-index l.points)) ≤ l.fn.steps + length (edges l.points);
}
