use Rattle.std.proofs.Common.{◌∙◌, ap, pos, ◌≤ℤ◌, ◌++◌}
use Rattle.cv_model.specs.Views.{PixelGrid}
use Rattle.cv_scan.proofs.ReachLemmas.{reach-above}
use Rattle.cv_scan.proofs.row.put_edge.Goals as goal

pub returns : goal.returns
returns c =
    let v = c.args.view.now in
    let unit : pos 1 ≤ℤ v.u = rw (ap (λ (g : PixelGrid). g.u) c.view.view_is) at c.view.invariant.unit in
    c.in_ok-put.ensures
    ∙ ap (λ ks. c.args.reaches.now.items ++ ks)
    (reach-above v c.args.row c.args.columns.from c.args.columns.end c.reach_in-column.result (c.args.a, c.args.b) unit
    c.requires.order c.requires.within c.reach_in-column.ensures)
