use Rattle.std.specs.List.{list_any}
use Rattle.cv_model.specs.Markers.{is_marked}
use Rattle.cv_model.specs.Pictures.{half_side}
use Rattle.cv_model.specs.Views.{centre_of}
use Rattle.cv_geom.proofs.RunLemmas.{adds-first}
use Rattle.cv_pen.proofs.outlines.marker_runs.Goals as goal

pub returns-clause-runs : goal.returns-clause-runs
returns-clause-runs g c =
    let v = c.args.view.now in
    let added = rw c.clear.ensures at c.in_ok-put_markers.ensures.added in
    adds-first (λ i j. list_any (is_marked c.args.shape (half_side v c.args.size) (centre_of v i j)) c.args.points.now) c.args.area
    c.put_markers.new.into c.unite.new.self added c.in_ok-unite.ensures
