use Rattle.std.proofs.Common.{pos, ◌≤ℤ◌, ap}
use Rattle.cv_model.specs.Views.{PixelGrid}
use Rattle.cv_scan.proofs.ReachLemmas.{reach-is}
use Rattle.cv_scan.proofs.reaches.reach.Goals as goal

pub returns : goal.returns
returns c =
    let v = c.args.view.now in
    let unit : pos 1 ≤ℤ v.u = rw (ap (λ (g : PixelGrid). g.u) c.view.view_is) at c.view.invariant.unit in
    let width = ap (λ (g : PixelGrid). g.w) c.view.view_is in
    reach-is v c.args.row c.reach_in.result (c.args.a, c.args.b) unit (rw width at c.reach_in.ensures)
