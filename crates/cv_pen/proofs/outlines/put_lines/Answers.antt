use Rattle.std.proofs.Common.{◌≡◌, ◌∙◌, sym, ap, ◌+◌, ◌<◌, ◌∷◌, drop, length, length-append, arith}
use Rattle.std.specs.List.{list_any}
use Rattle.std.proofs.lemmas.List.{drop_more}
use Rattle.cv_model.specs.Pens.{segments}
use Rattle.cv_model.specs.Pictures.{half_side, hits_line}
use Rattle.cv_model.specs.Views.{centre_of}
use Rattle.cv_geom.specs.Runs.{segments_of, rows_of}
use Rattle.cv_geom.proofs.RunLemmas.{still-step}
use Rattle.cv_pen.proofs.OutlineLemmas.{one-paid}
use Rattle.cv_pen.proofs.outlines.put_lines.Goals as goal

pub loop-line-preserved : goal.loop-line-preserved
loop-line-preserved g c =
    let v = c.args.view.now in
    let xs = c.args.lines.now in
    let at = c.loop-line.line-index in
    let item = c.line-item.result in
    let told = c.loop-line.invariant in
    let less : at < length xs = omega (arith, c.loop-line-test.true, c.loop-line.auto.line-index-end) in
    let is : drop at xs ≡ item ∷ drop (at + 1) xs =
    drop_more xs at item less ∙ ap (λ x. x ∷ drop (at + 1) xs) (sym c.line-item.is) in
    record {
      added =
          still-step
          (λ i j. list_any (hits_line (half_side v c.args.width) (centre_of v i j)) xs)
          (λ i j. hits_line (half_side v c.args.width) (centre_of v i j) item)
          (λ i j. list_any (hits_line (half_side v c.args.width) (centre_of v i j)) (drop at xs))
          (λ i j. list_any (hits_line (half_side v c.args.width) (centre_of v i j)) (drop (at + 1) xs)) c.args.area c.args.into.now
          c.loop-line.into c.put_line.new.into (λ i j. ap (list_any (hits_line (half_side v c.args.width) (centre_of v i j))) is) told.added
          (rw c.as_slice.ensures at c.in_ok-put_line.ensures.added);
      cost =
          one-paid c.loop-line.steps c.put_line.new.steps _ (rows_of c.args.area) (length (segments item))
          (length (segments_of (drop (at + 1) xs))) (length (segments_of (drop at xs)))
          (ap (λ all. length (segments_of all)) is ∙ length-append (segments item) (segments_of (drop (at + 1) xs))) told.cost
          (rw c.as_slice.ensures at c.in_ok-put_line.ensures.cost);
    }
