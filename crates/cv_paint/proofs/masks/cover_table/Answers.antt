use Rattle.std.proofs.Common.{◌∙◌, arith}
use Rattle.cv_paint.proofs.LayingLemmas.{run_within}
use Rattle.cv_paint.specs.Costs.{feature_cost}
use Rattle.cv_paint.proofs.MaskLemmas.{covers_run}
use Rattle.cv_paint.proofs.CostLemmas.{cost_run}
use Rattle.cv_paint.proofs.masks.cover_table.Goals as goal

pub loop-at-preserved : goal.loop-at-preserved
loop-at-preserved g c = (
  c.in_ok-cover_rows.ensures.width ∙ c.loop-at.invariant.0,
  c.in_ok-cover_rows.ensures.height ∙ c.loop-at.invariant.1,
  c.poll.ensures.quiet c.if-poll.false ∙ c.loop-at.invariant.2,
  run_within c.rows-rows.result.now c.run_from-run.result.now c.loop-at.at c.loop-at.invariant.3 c.run_from-run.ensures.same,
  covers_run c.args.view.now _ c.rows-rows.result.now c.run_from-run.result.now c.loop-at.at _ _ _ c.run_from-run.ensures.same
      c.loop-at.invariant.4 c.in_ok-cover_rows.ensures.covered,
  omega (
    arith,
    cost_run (feature_cost c.args.view.now) c.rows-rows.result.now c.run_from-run.result.now c.loop-at.at
        c.run_from-run.ensures.same,
    c.loop-at.invariant.5,
    c.in_ok-cover_rows.ensures.cost,
  ),
)
