use Rattle.std.proofs.Common.{◌≡◌, ◌∙◌, sym, ap, ◌+◌, ◌<◌, ◌∷◌, drop, length, arith}
use Rattle.std.specs.List.{list_any}
use Rattle.std.proofs.lemmas.List.{drop_more}
use Rattle.cv_model.specs.Markers.{is_marked}
use Rattle.cv_model.specs.Pictures.{half_side}
use Rattle.cv_model.specs.Views.{centre_of}
use Rattle.cv_geom.specs.Runs.{rows_of}
use Rattle.cv_geom.proofs.RunLemmas.{still-step, adds-united}
use Rattle.cv_pen.proofs.OutlineLemmas.{one-paid}
use Rattle.cv_pen.proofs.outlines.put_markers.Goals as goal

pub loop-point-preserved : goal.loop-point-preserved
loop-point-preserved g c =
    let v = c.args.view.now in
    let xs = c.args.points.now in
    let at = c.loop-point.point-index in
    let item = c.point-item.result in
    let told = c.loop-point.invariant in
    let less : at < length xs = omega (arith, c.loop-point-test.true, c.loop-point.auto.point-index-end) in
    let is : drop at xs ≡ item ∷ drop (at + 1) xs =
    drop_more xs at item less ∙ ap (λ x. x ∷ drop (at + 1) xs) (sym c.point-item.is) in
    record {
      added =
          still-step
          (λ i j. list_any (is_marked c.args.shape (half_side v c.args.size) (centre_of v i j)) xs)
          (λ i j. is_marked c.args.shape (half_side v c.args.size) (centre_of v i j) item)
          (λ i j. list_any (is_marked c.args.shape (half_side v c.args.size) (centre_of v i j)) (drop at xs))
          (λ i j. list_any (is_marked c.args.shape (half_side v c.args.size) (centre_of v i j)) (drop (at + 1) xs)) c.args.area c.args.into.now
          c.loop-point.into c.unite_if_many.new.self (λ i j. ap (list_any (is_marked c.args.shape (half_side v c.args.size) (centre_of v i j))) is) told.added
          (adds-united _ _ _ _ _ c.in_ok-put_marker.ensures.added c.in_ok-unite_if_many.ensures);
      cost =
          one-paid c.loop-point.steps c.put_marker.new.steps _ (rows_of c.args.area) (1)
          (length (drop (at + 1) xs)) (length (drop at xs))
          (ap length is ∙ omega arith) told.cost
          (omega (arith, c.in_ok-put_marker.ensures.cost));
    }
