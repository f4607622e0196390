use Rattle.std.proofs.Common.{◌≡◌, ◌∙◌, sym, ap, cond, ◌+◌, ◌<◌, ◌∷◌, drop, length, length-append, arith}
use Rattle.std.specs.List.{flat_map}
use Rattle.std.proofs.lemmas.List.{drop_more, at_drop_all}
use Rattle.std.proofs.lemmas.List.Sums.{sum_by-append}
use Rattle.cv_model.specs.Positions.{Position}
use Rattle.cv_model.specs.Polygons.{edges, crossings, is_crossed}
use Rattle.cv_model.specs.Views.{centre_of}
use Rattle.cv_geom.specs.Runs.{rows_of}
use Rattle.cv_scan.proofs.HeldLemmas.{still-step, still-done}
use Rattle.cv_scan.proofs.MarkLemmas.{one-paid}
use Rattle.cv_scan.proofs.marks.put_marks.Goals as goal

pub loop-ring-preserved : goal.loop-ring-preserved
loop-ring-preserved g c =
    let v = c.args.view.now in
    let xs = c.as_slice-ring-items.result.now in
    let at = c.loop-ring.ring-index in
    let item = c.ring-item.result in
    let told = c.loop-ring.invariant in
    let less : at < length xs = omega (arith, c.loop-ring-test.true, c.loop-ring.auto.ring-index-end) in
    let is : drop at xs ≡ item ∷ drop (at + 1) xs =
    drop_more xs at item less ∙ ap (λ x. x ∷ drop (at + 1) xs) (sym c.ring-item.is) in
    record {
      marked =
          still-step
          (λ i j. crossings (centre_of v i j) (flat_map edges xs))
          (λ i j. crossings (centre_of v i j) (edges item))
          (λ i j. crossings (centre_of v i j) (flat_map edges (drop at xs)))
          (λ i j. crossings (centre_of v i j) (flat_map edges (drop (at + 1) xs))) c.args.area c.args.scratch.now
          c.loop-ring.scratch c.put_ring.new.scratch
          (λ i j.
          ap (λ ps. crossings (centre_of v i j) (flat_map edges ps)) is
          ∙ sum_by-append (λ (e : Position × Position). cond (is_crossed (centre_of v i j) e) 1 0) (edges item)
          (flat_map edges (drop (at + 1) xs)))
          told.marked (rw c.as_slice.ensures at c.in_ok-put_ring.ensures.marked);
      cost =
          one-paid c.loop-ring.steps c.put_ring.new.steps _ (rows_of c.args.area) (length (edges item))
          (length (flat_map edges (drop (at + 1) xs))) (length (flat_map edges (drop at xs)))
          (ap (λ ps. length (flat_map edges ps)) is ∙ length-append (edges item) (flat_map edges (drop (at + 1) xs)))
          told.cost (rw c.as_slice.ensures at c.in_ok-put_ring.ensures.cost);
    }

pub returns-clause-marked : goal.returns-clause-marked
returns-clause-marked g c =
    let v = c.args.view.now in
    let xs = c.as_slice-ring-items.result.now in
    let at = c.loop-ring.ring-index in
    let told =
    still-done (λ i j. crossings (centre_of v i j) (flat_map edges xs))
    (λ i j. crossings (centre_of v i j) (flat_map edges (drop at xs))) c.args.area c.args.scratch.now
    c.loop-ring.scratch
    (λ i j.
    at_drop_all (λ ps. crossings (centre_of v i j) (flat_map edges ps)) xs at
    (omega (arith, c.loop-ring-test.false, c.loop-ring.auto.ring-index-end)))
    c.loop-ring.invariant.marked in
    rw c.as_slice-ring-items.ensures at told
