use Rattle.std.proofs.Common.{◌≤◌, ◌+◌, ◌*◌, drop, length}
use Rattle.std.specs.List.{list_any, flat_map}
use Rattle.cv_model.specs.Polygons.{edges}
use Rattle.cv_model.specs.Pictures.{half_side, hits_ring}
use Rattle.cv_model.specs.Views.{centre_of}
use Rattle.cv_geom.specs.Runs.{rows_of}
use Rattle.cv_geom.proofs.RunLemmas.{StillAdds}
use Rattle.cv_pen.proofs.outlines.put_rings.Given as goal

-- what is still to come makes the runs whole, and its steps may still be paid
abbrev pub invariant-loop-ring : goal.invariant-loop-ring
invariant-loop-ring g l = record {
  added :
      StillAdds (λ i j. list_any (hits_ring (half_side l.view l.width) (centre_of l.view i j)) l.rings)
      (λ i j. list_any (hits_ring (half_side l.view l.width) (centre_of l.view i j)) (drop l.ring-index l.rings)) l.area l.fn.into l.into;
  cost :
      l.steps + length (flat_map edges (drop l.ring-index l.rings)) * rows_of l.area
      ≤ l.fn.steps + length (flat_map edges l.rings) * rows_of l.area;
}
