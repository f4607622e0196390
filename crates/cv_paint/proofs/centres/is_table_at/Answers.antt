use Rattle.std.proofs.Common.{◌∙◌, sym, ap}
use Rattle.std.specs.List.{list_any}
use Rattle.cv_model.specs.Pictures.{is_feature_at}
use Rattle.cv_paint.proofs.LayingLemmas.{run_within}
use Rattle.cv_paint.proofs.TableLemmas.{any_in, any_behind}
use Rattle.cv_paint.proofs.centres.is_table_at.Goals as goal

pub returns-then-is_some_at : goal.returns-then-is_some_at
returns-then-is_some_at c =
    let f = is_feature_at c.args.p in
    sym (any_in f c.rows-rows.result.now c.run_from-run.result.now c.loop-at.at c.run_from-run.ensures.same
    (sym c.is_some_at.ensures ∙ c.if-is_some_at.true))
    ∙ c.loop-at.invariant.1 ∙ ap (list_any f) c.rows-rows.ensures.rows

pub loop-at-preserved : goal.loop-at-preserved
loop-at-preserved c =
    let f = is_feature_at c.args.p in (
      run_within c.rows-rows.result.now c.run_from-run.result.now c.loop-at.at c.loop-at.invariant.0 c.run_from-run.ensures.same,
      any_behind f c.rows-rows.result.now c.run_from-run.result.now c.loop-at.at c.run_from-run.ensures.same
          (sym c.is_some_at.ensures ∙ c.if-is_some_at.false) ∙ c.loop-at.invariant.1,
    )
