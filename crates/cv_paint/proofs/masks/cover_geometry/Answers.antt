use Rattle.std.proofs.Common.{subst, List}
use Rattle.std.specs.List.{list_any}
use Rattle.cv_model.specs.Positions.{Position}
use Rattle.cv_model.specs.Views.{centre_of}
use Rattle.cv_model.specs.Polygons.{is_inside}
use Rattle.cv_model.specs.Pictures.{is_covered}
use Rattle.cv_geom.specs.Runs.{AreRunsOf}
use Rattle.cv_paint.proofs.MaskLemmas.{covers_where}
use Rattle.std.proofs.Common.{length, ap, arith}
use Rattle.cv_geom.specs.Runs.{edges_of}
use Rattle.cv_paint.proofs.CostLemmas.{runs_found, runs_paid, fill_paid}
use Rattle.cv_paint.proofs.masks.cover_geometry.Goals as goal

pub returns-clause-covered : goal.returns-clause-covered
returns-clause-covered g c =
    let are = subst (λ (ps : List (List (List Position))).
    AreRunsOf (λ i j. list_any (is_inside (centre_of c.args.view.now i j)) ps) c.whole_of-area.result c.fill_runs.new.into)
    c.polygons-polygons.ensures c.in_ok-fill_runs.ensures.runs in
    covers_where c.args.view.now (λ p. is_covered p c.args.geometry.now) _ _ _ _ _ c.whole_of-area.ensures.area
    c.as_slice.ensures are c.cover_runs.ensures.covered

pub returns-in_err-fill_runs-clause-cost : goal.returns-in_err-fill_runs-clause-cost
returns-in_err-fill_runs-clause-cost g c =
    let found = runs_found c.args.view.now c.whole_of-area.result _ _ _ _ c.whole_of-area.ensures.area
    (ap (λ (ps : List (List (List Position))). length (edges_of ps)) c.polygons-polygons.ensures) c.fill_runs.ensures.cost in
    omega (arith, fill_paid c.args.view.now c.args.geometry.now, found)

pub returns-clause-cost : goal.returns-clause-cost
returns-clause-cost g c =
    let paid = runs_paid c.args.view.now _ c.whole_of-area.result c.fill_runs.new.into _ _ _ _ _ _ c.whole_of-area.ensures.area
    c.as_slice.ensures c.in_ok-fill_runs.ensures.runs
    (ap (λ (ps : List (List (List Position))). length (edges_of ps)) c.polygons-polygons.ensures) c.fill_runs.ensures.cost
    c.cover_runs.ensures.cost in
    omega (arith, fill_paid c.args.view.now c.args.geometry.now, paid)
