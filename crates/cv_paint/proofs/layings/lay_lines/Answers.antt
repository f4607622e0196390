use Rattle.std.proofs.Common.{ap, subst, List}
use Rattle.std.specs.List.{list_any}
use Rattle.cv_model.specs.Positions.{Position}
use Rattle.cv_model.specs.Views.{centre_of}
use Rattle.cv_model.specs.Pens.{PenParts}
use Rattle.cv_model.specs.Pictures.{half_side, hits_line, hits_lines}
use Rattle.cv_geom.specs.Runs.{AreRunsOf}
use Rattle.cv_paint.proofs.LayingLemmas.{lays_where}
use Rattle.std.proofs.Common.{length}
use Rattle.cv_geom.specs.Runs.{segments_of}
use Rattle.cv_paint.proofs.CostLemmas.{runs_found, runs_paid}
use Rattle.cv_paint.proofs.layings.lay_lines.Goals as goal

pub returns-clause-laid : goal.returns-clause-laid
returns-clause-laid g c =
    let are = subst (λ (ps : List (List Position)).
    AreRunsOf (λ i j. list_any (hits_line (half_side c.args.view.now c.side.result) (centre_of c.args.view.now i j)) ps) c.whole_of-area.result c.line_runs.new.into)
    c.lines-lines.ensures c.in_ok-line_runs.ensures.runs in
    rw (← c.side.ensures.width)
    (lays_where c.args.view.now (λ p. hits_lines (half_side c.args.view.now c.side.result) p c.args.geometry.now)
    c.pen.inside.colour c.args.pen.colour _ _ _ _ _ (ap (λ (q : PenParts). q.colour) c.pen.view_is)
    c.whole_of-area.ensures.area c.as_slice.ensures are c.lay_runs.ensures.laid)

pub returns-in_err-line_runs-clause-cost : goal.returns-in_err-line_runs-clause-cost
returns-in_err-line_runs-clause-cost g c =
    runs_found c.args.view.now c.whole_of-area.result _ _ _ _ c.whole_of-area.ensures.area
    (ap (λ (ps : List (List Position)). length (segments_of ps)) c.lines-lines.ensures) c.line_runs.ensures.cost

pub returns-clause-cost : goal.returns-clause-cost
returns-clause-cost g c =
    runs_paid c.args.view.now _ c.whole_of-area.result c.line_runs.new.into _ _ _ _ _ _ c.whole_of-area.ensures.area
    c.as_slice.ensures c.in_ok-line_runs.ensures.runs (ap (λ (ps : List (List Position)). length (segments_of ps)) c.lines-lines.ensures)
    c.line_runs.ensures.cost c.lay_runs.ensures.cost
