use Rattle.std.proofs.Common.{◌≤◌, ◌+◌, ◌*◌, drop, length}
use Rattle.std.specs.List.{list_any}
use Rattle.cv_model.specs.Polygons.{edges_from}
use Rattle.cv_model.specs.Pens.{is_near}
use Rattle.cv_model.specs.Pictures.{half_side}
use Rattle.cv_model.specs.Views.{centre_of}
use Rattle.cv_geom.specs.Runs.{rows_of}
use Rattle.cv_geom.proofs.RunLemmas.{StillAdds}
use Rattle.cv_pen.proofs.outlines.put_path.Given as goal

-- the segments still to come make the runs whole, and their steps may still be paid
abbrev pub invariant-loop-point : goal.invariant-loop-point
invariant-loop-point g l = record {
  added :
      StillAdds
      (λ i j. list_any (is_near (half_side l.view l.width) (centre_of l.view i j)) (edges_from l.fn.first l.points))
      (λ i j.
      list_any (is_near (half_side l.view l.width) (centre_of l.view i j))
      (edges_from l.before (drop l.point-index l.points)))
      l.area l.fn.into l.into;
  cost :
      l.steps + length (drop l.point-index l.points) * rows_of l.area
      ≤ l.fn.steps + length l.points * rows_of l.area;
}
