use Rattle.std.proofs.Common.{◌≤◌, ◌+◌, ◌*◌, drop, length}
use Rattle.cv_model.specs.Positions.{doubled}
use Rattle.cv_model.specs.Polygons.{edges, edges_from, crossings, is_low}
use Rattle.cv_model.specs.Views.{centre_of}
use Rattle.cv_geom.specs.Falls.{FallsAt}
use Rattle.cv_geom.specs.Runs.{rows_of}
use Rattle.cv_scan.proofs.HeldLemmas.{StillMarks}
use Rattle.cv_scan.proofs.marks.put_ring.Given as goal

-- the edges still to come make the marks whole, and their steps may still be paid
abbrev pub invariant-loop-point : goal.invariant-loop-point
invariant-loop-point g l = record {
  falls :
      FallsAt (λ j. is_low (centre_of l.view 0 j) (doubled l.before)) l.area.rows.from l.area.rows.end l.row_before;
  marked :
      StillMarks (λ i j. crossings (centre_of l.view i j) (edges l.points))
      (λ i j. crossings (centre_of l.view i j) (edges_from l.before (drop l.point-index l.points))) l.area
      l.fn.scratch l.scratch;
  cost :
      l.steps + length (edges_from l.before (drop l.point-index l.points)) * rows_of l.area
      ≤ l.fn.steps + length (edges l.points) * rows_of l.area;
}
