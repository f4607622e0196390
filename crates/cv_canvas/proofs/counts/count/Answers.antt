use Rattle.cv_canvas.specs.Counts.{once_more}
use Rattle.cv_canvas.proofs.MixingLemmas.{rewritten}
use Rattle.cv_canvas.proofs.counts.count.Goals as goal

pub loop-count-preserved : goal.loop-count-preserved
loop-count-preserved c =
    rewritten once_more c.args.counts.now c.loop-count.counts c.loop-count.count-index c.saturating_add.result 0
    c.loop-count-test.true c.loop-count.invariant c.saturating_add.ensures
