use Rattle.std.proofs.Common.{◌≡◌, ◌∙◌, sym, ap, ◌+◌, ◌<◌, ◌∷◌, drop, length, length-append, arith}
use Rattle.std.specs.List.{list_any, flat_map}
use Rattle.std.proofs.lemmas.List.{drop_more}
use Rattle.cv_model.specs.Polygons.{edges}
use Rattle.cv_model.specs.Pictures.{half_side, hits_ring}
use Rattle.cv_model.specs.Views.{centre_of}
use Rattle.cv_geom.specs.Runs.{edges_of, rows_of}
use Rattle.cv_geom.proofs.RunLemmas.{still-step}
use Rattle.cv_pen.proofs.OutlineLemmas.{one-paid}
use Rattle.cv_pen.proofs.outlines.put_polygons.Goals as goal

pub loop-polygon-preserved : goal.loop-polygon-preserved
loop-polygon-preserved g c =
    let v = c.args.view.now in
    let xs = c.args.polygons.now in
    let at = c.loop-polygon.polygon-index in
    let item = c.polygon-item.result in
    let told = c.loop-polygon.invariant in
    let less : at < length xs = omega (arith, c.loop-polygon-test.true, c.loop-polygon.auto.polygon-index-end) in
    let is : drop at xs ≡ item ∷ drop (at + 1) xs =
    drop_more xs at item less ∙ ap (λ x. x ∷ drop (at + 1) xs) (sym c.polygon-item.is) in
    record {
      added =
          still-step
          (λ i j. list_any (list_any (hits_ring (half_side v c.args.width) (centre_of v i j))) xs)
          (λ i j. list_any (hits_ring (half_side v c.args.width) (centre_of v i j)) item)
          (λ i j. list_any (list_any (hits_ring (half_side v c.args.width) (centre_of v i j))) (drop at xs))
          (λ i j. list_any (list_any (hits_ring (half_side v c.args.width) (centre_of v i j))) (drop (at + 1) xs)) c.args.area c.args.into.now
          c.loop-polygon.into c.put_rings.new.into (λ i j. ap (list_any (list_any (hits_ring (half_side v c.args.width) (centre_of v i j)))) is) told.added
          (rw c.as_slice.ensures at c.in_ok-put_rings.ensures.added);
      cost =
          one-paid c.loop-polygon.steps c.put_rings.new.steps _ (rows_of c.args.area) (length (flat_map edges item))
          (length (edges_of (drop (at + 1) xs))) (length (edges_of (drop at xs)))
          (ap (λ all. length (edges_of all)) is ∙ length-append (flat_map edges item) (edges_of (drop (at + 1) xs))) told.cost
          (rw c.as_slice.ensures at c.in_ok-put_rings.ensures.cost);
    }
