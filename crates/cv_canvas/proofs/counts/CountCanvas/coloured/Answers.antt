use Rattle.cv_canvas.specs.Counts.{laid_times}
use Rattle.cv_canvas.proofs.RowLemmas.{put_next}
use Rattle.cv_canvas.proofs.counts.CountCanvas.coloured.Goals as goal

pub loop-i-preserved : goal.loop-i-preserved
loop-i-preserved c =
    put_next (laid_times c.args.self.now.colour) c.args.counts.now c.args.into.now c.loop-i.into c.loop-i.i c.times.result 0
    c.requires (rw (← c.requires) c.loop-i-test.true) c.loop-i.invariant c.times.ensures
