use Rattle.std.proofs.Common.{ap, ◌∙◌}
use Rattle.cv_model.specs.Pictures.{pixel}
use Rattle.cv_layer.specs.Strips.{strip_pixels}
use Rattle.cv_paint.proofs.WindowLemmas.{whole_pixels}
use Rattle.cv_paint.proofs.whole.pixels_painted.Goals as goal

pub returns-clause-ok : goal.returns-clause-ok
returns-clause-ok g c =
    let f = pixel c.args.input.now.parts c.args.view.now in
    c.in_ok-pixels.ensures.ok ∙ ap (strip_pixels f) c.whole_of-whole.ensures.strips ∙ whole_pixels c.args.view.now f
