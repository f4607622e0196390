use Rattle.cv_paint.proofs.CostLemmas.{first_paid, both_paid}
use Rattle.cv_paint.proofs.strips.strips_painted.Goals as goal

pub returns-in_err-paint_some-clause-cost : goal.returns-in_err-paint_some-clause-cost
returns-in_err-paint_some-clause-cost g c =
    first_paid c.args.input.now.parts _ c.args.strips.now _ _ _ c.in_ok-symbols.ensures.ok c.strips.view_is
    c.paint_some.ensures.cost

pub returns-in_err-paint_some-2-clause-cost : goal.returns-in_err-paint_some-2-clause-cost
returns-in_err-paint_some-2-clause-cost g c =
    both_paid c.args.input.now.parts _ c.args.strips.now _ _ _ _ c.in_ok-symbols.ensures.ok c.strips.view_is
    c.paint_some.ensures.cost c.paint_some-2.ensures.cost

pub returns-clause-cost : goal.returns-clause-cost
returns-clause-cost g c =
    both_paid c.args.input.now.parts _ c.args.strips.now _ _ _ _ c.in_ok-symbols.ensures.ok c.strips.view_is
    c.paint_some.ensures.cost c.paint_some-2.ensures.cost
