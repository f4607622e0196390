use Rattle.std.proofs.Common.{ℕ, List, ap, ◌∙◌}
use Rattle.cv_canvas.specs.Canvas.{item_in}
use Rattle.cv_canvas.proofs.CountLemmas.{counted_nowhere, uncounted}
use Rattle.cv_canvas.proofs.counts.CountCanvas.new.Goals as goal

pub returns-clause-clear : goal.returns-clause-clear
returns-clause-clear c =
    counted_nowhere c.args.colour (item_in 0 c.args.width c.in_ok-counts.counts.items)
    (ap (λ (ns : List ℕ). item_in 0 c.args.width ns) (c.in_ok-counts.ensures.items_if_clones_equal (λ y same. same))
    ∙ uncounted _ c.args.width)
