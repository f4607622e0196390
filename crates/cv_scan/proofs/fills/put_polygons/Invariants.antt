use Rattle.std.proofs.Common.{◌≤◌, ◌+◌, ◌*◌, drop, length}
use Rattle.std.specs.List.{list_any}
use Rattle.cv_model.specs.Polygons.{is_inside}
use Rattle.cv_model.specs.Views.{centre_of}
use Rattle.cv_geom.specs.Runs.{edges_of, rows_of}
use Rattle.cv_geom.proofs.RunLemmas.{StillAdds}
use Rattle.cv_scan.proofs.fills.put_polygons.Given as goal

-- the polygons still to come make the runs whole, and their steps may still be paid
abbrev pub invariant-loop-polygon : goal.invariant-loop-polygon
invariant-loop-polygon g l = record {
  added :
      StillAdds (λ i j. list_any (is_inside (centre_of l.view i j)) l.polygons)
      (λ i j. list_any (is_inside (centre_of l.view i j)) (drop l.polygon-index l.polygons)) l.area l.fn.into l.into;
  cost :
      l.steps + length (edges_of (drop l.polygon-index l.polygons)) * rows_of l.area
      ≤ l.fn.steps + length (edges_of l.polygons) * rows_of l.area;
}
