use Rattle.std.proofs.Common.{◌∙◌, ap, ◌==◌, ◌%◌, pos, ◌≤ℤ◌}
use Rattle.std.specs.List.{flat_map}
use Rattle.cv_model.specs.Polygons.{edges, is_inside}
use Rattle.cv_model.specs.Views.{PixelGrid, centre_of}
use Rattle.cv_scan.specs.Runs.{beyond}
use Rattle.cv_scan.proofs.RunLemmas.{reaches-within, reaches-crossings, joined-runs}
use Rattle.cv_scan.proofs.row.spans_between.Goals as goal

pub order-requires-clause-within : goal.order-requires-clause-within
order-requires-clause-within g c =
    let all = reaches-within c.args.view.now c.args.row c.args.columns.from c.args.columns.end (flat_map edges c.args.polygon.now) in
    let put = rw c.new-reaches.ensures.items at c.in_ok-put_polygon.ensures.reaches in
    rw put all

pub returns-clause-runs : goal.returns-clause-runs
returns-clause-runs g c =
    let v = c.args.view.now in
    let columns = c.args.columns in
    let es = flat_map edges c.args.polygon.now in
    let unit : pos 1 ≤ℤ v.u = rw (ap (λ (p : PixelGrid). p.u) c.view.view_is) at c.view.invariant.unit in
    let put = rw c.new-reaches.ensures.items at c.in_ok-put_polygon.ensures.reaches in
    let ks = c.order.new.reaches.items in
    let spans = rw c.deref.ensures.value at c.in_ok-spans.ensures in
    let runs = joined-runs (λ i. is_inside (centre_of v i c.args.row) c.args.polygon.now) columns.from columns.end ks
    c.requires.order c.in_ok-order.ensures.rises c.in_ok-order.ensures.paired
    (λ i below less.
    ap (λ n. n % 2 == 1)
    (c.in_ok-order.ensures.same i below ∙ ap (beyond i) put
    ∙ reaches-crossings v i c.args.row columns.from columns.end es unit below less c.requires.within)) in
    rw spans runs
