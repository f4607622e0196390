use Rattle.cv_paint.proofs.LayingLemmas.{lays_both}
use Rattle.cv_paint.proofs.layings.lay_pen.Goals as goal

pub returns-clause-laid : goal.returns-clause-laid
returns-clause-laid g c =
    rw c.in-Some.is
    (lays_both c.args.view.now _ _ _ _ _ c.in_ok-lay_rings.ensures.laid c.in_ok-lay_lines.ensures.laid)
