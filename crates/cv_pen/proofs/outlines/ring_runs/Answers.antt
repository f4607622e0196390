use Rattle.std.specs.List.{list_any}
use Rattle.cv_model.specs.Pictures.{half_side, hits_ring}
use Rattle.cv_model.specs.Views.{centre_of}
use Rattle.cv_geom.proofs.RunLemmas.{adds-first}
use Rattle.cv_pen.proofs.outlines.ring_runs.Goals as goal

pub returns-clause-runs : goal.returns-clause-runs
returns-clause-runs g c =
    let v = c.args.view.now in
    let added = rw c.clear.ensures at c.in_ok-put_polygons.ensures.added in
    adds-first (λ i j. list_any (list_any (hits_ring (half_side v c.args.width) (centre_of v i j))) c.args.polygons.now) c.args.area
    c.put_polygons.new.into c.unite.new.self added c.in_ok-unite.ensures
