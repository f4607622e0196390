use Rattle.std.proofs.Common.{◌≡◌, ◌∙◌, sym, ap, ◌+◌, ◌<◌, ◌∷◌, drop, length, length-append, arith}
use Rattle.std.specs.List.{list_any, flat_map}
use Rattle.std.proofs.lemmas.List.{drop_more}
use Rattle.cv_model.specs.Polygons.{edges}
use Rattle.cv_model.specs.Pictures.{half_side, hits_ring}
use Rattle.cv_model.specs.Views.{centre_of}
use Rattle.cv_geom.specs.Runs.{rows_of}
use Rattle.cv_geom.proofs.RunLemmas.{still-step}
use Rattle.cv_pen.proofs.OutlineLemmas.{one-paid}
use Rattle.cv_pen.proofs.outlines.put_rings.Goals as goal

pub loop-ring-preserved : goal.loop-ring-preserved
loop-ring-preserved g c =
    let v = c.args.view.now in
    let xs = c.args.rings.now in
    let at = c.loop-ring.ring-index in
    let item = c.ring-item.result in
    let told = c.loop-ring.invariant in
    let less : at < length xs = omega (arith, c.loop-ring-test.true, c.loop-ring.auto.ring-index-end) in
    let is : drop at xs ≡ item ∷ drop (at + 1) xs =
    drop_more xs at item less ∙ ap (λ x. x ∷ drop (at + 1) xs) (sym c.ring-item.is) in
    record {
      added =
          still-step
          (λ i j. list_any (hits_ring (half_side v c.args.width) (centre_of v i j)) xs)
          (λ i j. hits_ring (half_side v c.args.width) (centre_of v i j) item)
          (λ i j. list_any (hits_ring (half_side v c.args.width) (centre_of v i j)) (drop at xs))
          (λ i j. list_any (hits_ring (half_side v c.args.width) (centre_of v i j)) (drop (at + 1) xs)) c.args.area c.args.into.now
          c.loop-ring.into c.put_ring.new.into (λ i j. ap (list_any (hits_ring (half_side v c.args.width) (centre_of v i j))) is) told.added
          (rw c.as_slice.ensures at c.in_ok-put_ring.ensures.added);
      cost =
          one-paid c.loop-ring.steps c.put_ring.new.steps _ (rows_of c.args.area) (length (edges item))
          (length (flat_map edges (drop (at + 1) xs))) (length (flat_map edges (drop at xs)))
          (ap (λ all. length (flat_map edges all)) is ∙ length-append (edges item) (flat_map edges (drop (at + 1) xs))) told.cost
          (rw c.as_slice.ensures at c.in_ok-put_ring.ensures.cost);
    }
