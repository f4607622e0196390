use Rattle.cv_canvas.specs.Mixing.{on_opaque}
use Rattle.cv_canvas.proofs.MixingLemmas.{rewritten}
use Rattle.cv_canvas.proofs.mixing.mix_opaque.Goals as goal

pub loop-pixel-preserved : goal.loop-pixel-preserved
loop-pixel-preserved c =
    rewritten (on_opaque c.args.colour) c.args.pixels.now c.loop-pixel.pixels c.loop-pixel.pixel-index c.on_opaque.result _
    c.loop-pixel-test.true c.loop-pixel.invariant c.on_opaque.ensures
