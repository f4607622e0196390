use Rattle.cv_paint.proofs.InkLemmas.{takes_layer}
use Rattle.cv_paint.proofs.painted.paint_ink.Goals as goal

pub paint_on-requires-clause-ink : goal.paint_on-requires-clause-ink
paint_on-requires-clause-ink g c =
    takes_layer c.in_ok-canvas.canvas.colour c.args.ink c.args.scene.now.symbols.now c.in_ok-canvas.ensures.colour c.requires.ink

pub paint_on-requires-else-ink-eq255-clause-ink : goal.paint_on-requires-else-ink-eq255-clause-ink
paint_on-requires-else-ink-eq255-clause-ink g c =
    takes_layer c.in_ok-canvas-2.canvas.colour c.args.ink c.args.scene.now.symbols.now c.in_ok-canvas-2.ensures.colour
    c.requires.ink
