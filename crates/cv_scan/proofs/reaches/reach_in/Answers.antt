use Rattle.std.proofs.Common.{◌≡◌, ◌∙◌, sym, arith}
use Rattle.cv_model.specs.Polygons.{is_crossed}
use Rattle.cv_model.specs.Views.{centre_of}
use Rattle.cv_scan.proofs.MarkLemmas.{level-crossed}
use Rattle.cv_scan.proofs.ReachLemmas.{falls-first}
use Rattle.cv_scan.proofs.reaches.reach_in.Goals as goal

pub returns-then-low_a-is_low : goal.returns-then-low_a-is_low
returns-then-low_a-is_low c =
    let v = c.args.view.now in
    let low_a = rw c.centre-p.ensures at c.is_low-low_a.ensures in
    let low_b = rw c.centre-p.ensures at c.is_low.ensures in
    let same : c.is_low-low_a.result ≡ c.is_low.result = grind arith in
    falls-first (λ i. is_crossed (centre_of v i c.args.row) (c.args.a, c.args.b)) c.args.columns.from c.args.columns.end
    c.requires.order (λ i. level-crossed v i c.args.row c.args.a c.args.b (sym low_a ∙ same ∙ low_b))
