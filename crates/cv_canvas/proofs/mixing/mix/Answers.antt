use Rattle.std.proofs.Common.{◌∙◌}
use Rattle.cv_model.specs.Colours.{over}
use Rattle.cv_canvas.proofs.MixingLemmas.{rewritten}
use Rattle.cv_canvas.proofs.mixing.mix.Goals as goal

pub loop-pixel-preserved : goal.loop-pixel-preserved
loop-pixel-preserved c = record {
  alpha = c.over.ensures.alpha ∙ c.loop-pixel.invariant.alpha;
  laid =
      rewritten (over c.args.colour) c.args.pixels.now c.loop-pixel.pixels c.loop-pixel.pixel-index c.over.result _
      c.loop-pixel-test.true c.loop-pixel.invariant.laid c.over.ensures.value;
}
