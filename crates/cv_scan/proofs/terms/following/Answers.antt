use Rattle.std.proofs.Common.{pos, ◌≤ℤ◌, ap}
use Rattle.cv_model.specs.Positions.{doubled}
use Rattle.cv_model.specs.Views.{PixelGrid}
use Rattle.cv_scan.proofs.terms.following.Goals as goal

pub returns-clause-place : goal.returns-clause-place
returns-clause-place c =
    let v = c.args.view.now in
    let unit : pos 1 ≤ℤ v.u = rw (ap (λ (g : PixelGrid). g.u) c.view.view_is) at c.view.invariant.unit in
    c.below.ensures.place v (doubled c.args.low) (doubled c.args.high) c.args.row unit
    (rw c.in-Some.is at c.requires.slope) c.in_ok-here.ensures.place
