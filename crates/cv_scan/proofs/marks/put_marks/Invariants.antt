use Rattle.std.proofs.Common.{◌≤◌, ◌+◌, ◌*◌, drop, length}
use Rattle.std.specs.List.{flat_map}
use Rattle.cv_model.specs.Polygons.{edges, crossings}
use Rattle.cv_model.specs.Views.{centre_of}
use Rattle.cv_geom.specs.Runs.{rows_of}
use Rattle.cv_scan.proofs.HeldLemmas.{StillMarks}
use Rattle.cv_scan.proofs.marks.put_marks.Given as goal

-- the rings still to come make the marks whole, and their steps may still be paid
abbrev pub invariant-loop-ring : goal.invariant-loop-ring
invariant-loop-ring g l = record {
  marked :
      StillMarks (λ i j. crossings (centre_of l.view i j) (flat_map edges l.ring-items))
      (λ i j. crossings (centre_of l.view i j) (flat_map edges (drop l.ring-index l.ring-items))) l.area
      l.fn.scratch l.scratch;
  cost :
      l.steps + length (flat_map edges (drop l.ring-index l.ring-items)) * rows_of l.area
      ≤ l.fn.steps + length (flat_map edges l.ring-items) * rows_of l.area;
}
