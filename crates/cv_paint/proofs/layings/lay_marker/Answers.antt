use Rattle.std.proofs.Common.{ap, subst, List}
use Rattle.std.specs.List.{list_any}
use Rattle.cv_model.specs.Positions.{Position}
use Rattle.cv_model.specs.Views.{centre_of}
use Rattle.cv_model.specs.Markers.{MarkerParts, is_marked}
use Rattle.cv_model.specs.Pictures.{half_side}
use Rattle.cv_geom.specs.Runs.{AreRunsOf}
use Rattle.cv_paint.proofs.LayingLemmas.{lays_where}
use Rattle.std.proofs.Common.{length}
use Rattle.cv_paint.proofs.CostLemmas.{runs_found, runs_paid}
use Rattle.cv_paint.proofs.layings.lay_marker.Goals as goal

pub returns-clause-laid : goal.returns-clause-laid
returns-clause-laid g c =
    let are = subst (λ (ps : List Position).
    AreRunsOf (λ i j. list_any (is_marked c.marker.inside.shape (half_side c.args.view.now c.side-side.result)
    (centre_of c.args.view.now i j)) ps) c.whole_of-area.result c.marker_runs.new.into)
    c.points-points.ensures c.in_ok-marker_runs.ensures.runs in
    rw (c.in-Some.is, ← c.side-side.ensures.size, ← ap (λ (q : MarkerParts). q.shape) c.marker.view_is)
    (lays_where c.args.view.now
    (λ p. list_any (is_marked c.marker.inside.shape (half_side c.args.view.now c.side-side.result) p) c.args.geometry.now.points)
    c.marker-2.inside.colour c.in-Some.marker.colour _ _ _ _ _ (ap (λ (q : MarkerParts). q.colour) c.marker-2.view_is)
    c.whole_of-area.ensures.area c.as_slice.ensures are c.lay_runs.ensures.laid)

pub returns-in_err-marker_runs-clause-cost : goal.returns-in_err-marker_runs-clause-cost
returns-in_err-marker_runs-clause-cost g c =
    runs_found c.args.view.now c.whole_of-area.result _ _ _ _ c.whole_of-area.ensures.area
    (ap (λ (ps : List Position). length ps) c.points-points.ensures) c.marker_runs.ensures.cost

pub returns-clause-cost : goal.returns-clause-cost
returns-clause-cost g c =
    runs_paid c.args.view.now _ c.whole_of-area.result c.marker_runs.new.into _ _ _ _ _ _ c.whole_of-area.ensures.area
    c.as_slice.ensures c.in_ok-marker_runs.ensures.runs (ap (λ (ps : List Position). length ps) c.points-points.ensures)
    c.marker_runs.ensures.cost c.lay_runs.ensures.cost
