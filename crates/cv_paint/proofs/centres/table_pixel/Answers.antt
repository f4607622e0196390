use Rattle.cv_model.specs.Pictures.{feature_strokes}
use Rattle.cv_paint.proofs.LayingLemmas.{run_within}
use Rattle.cv_paint.proofs.TableLemmas.{laid_run}
use Rattle.cv_paint.proofs.centres.table_pixel.Goals as goal

pub loop-at-preserved : goal.loop-at-preserved
loop-at-preserved c = (
  run_within c.rows-rows.result.now c.run_from-run.result.now c.loop-at.at c.loop-at.invariant.0 c.run_from-run.ensures.same,
  laid_run (feature_strokes c.args.input.now.parts c.args.view.now c.args.p) c.rows-rows.result.now c.run_from-run.result.now
      c.loop-at.at c.loop-at.pixel c.with_rows-pixel.result c.run_from-run.ensures.same c.loop-at.invariant.1
      c.with_rows-pixel.ensures,
)
