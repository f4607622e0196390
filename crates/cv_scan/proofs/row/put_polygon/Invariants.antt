use Rattle.std.proofs.Common.{◌≡◌, ◌≤◌, ◌+◌, ◌++◌, drop, length}
use Rattle.std.specs.List.{flat_map}
use Rattle.cv_model.specs.Polygons.{edges}
use Rattle.cv_scan.specs.Runs.{reaches_in}
use Rattle.cv_scan.proofs.row.put_polygon.Given as goal

-- the reaches so far and those of the rings still to come are all, and the steps may still be paid
abbrev pub invariant-loop-ring : goal.invariant-loop-ring
invariant-loop-ring g l = record {
  reaches :
      l.reaches.items ++ reaches_in l.view l.row l.columns.from l.columns.end (flat_map edges (drop l.ring-index l.ring-items))
      ≡ l.fn.reaches.items ++ reaches_in l.view l.row l.columns.from l.columns.end (flat_map edges l.ring-items);
  cost :
      l.steps + length (flat_map edges (drop l.ring-index l.ring-items))
      ≤ l.fn.steps + length (flat_map edges l.ring-items);
}
