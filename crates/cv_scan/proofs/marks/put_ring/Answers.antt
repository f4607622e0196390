use Rattle.std.proofs.Common.{◌≡◌, ◌∙◌, sym, ap, cond, ◌+◌, ◌*◌, ◌<◌, ◌∷◌, drop, length, arith}
use Rattle.std.proofs.lemmas.List.{drop_more, at_drop_all}
use Rattle.std.proofs.lemmas.List.Sums.{sum_by-cons}
use Rattle.cv_model.specs.Positions.{Position}
use Rattle.cv_model.specs.Polygons.{edges, edges_from, crossings, is_crossed}
use Rattle.cv_model.specs.Views.{centre_of}
use Rattle.cv_geom.specs.Runs.{rows_of}
use Rattle.cv_geom.proofs.CrossingLemmas.{edges-last}
use Rattle.cv_scan.proofs.HeldLemmas.{still-start, still-step, still-done}
use Rattle.cv_scan.proofs.MarkLemmas.{to_count, one-paid}
use Rattle.cv_scan.proofs.marks.put_ring.Goals as goal

pub loop-point-init : goal.loop-point-init
loop-point-init g c =
    let v = c.args.view.now in
    let xs = c.args.points.now in
    let ring = edges-last xs c.in-Some.last.now (sym c.in-Some.ensures.value) in
    let paid : length (edges xs) * rows_of c.args.area ≡ length (edges_from c.in-Some.last.now xs) * rows_of c.args.area =
    ap (λ es. length es * rows_of c.args.area) ring in
    record {
      falls = c.row_of-row_before.ensures;
      marked =
          still-start (λ i j. crossings (centre_of v i j) (edges xs))
          (λ i j. crossings (centre_of v i j) (edges_from c.in-Some.last.now xs)) c.args.area c.args.scratch.now
          c.requires.held (λ i j. ap (crossings (centre_of v i j)) (sym ring));
      cost = omega arith;
    }

pub loop-point-preserved : goal.loop-point-preserved
loop-point-preserved g c =
    let v = c.args.view.now in
    let xs = c.args.points.now in
    let at = c.loop-point.point-index in
    let item = c.point-item.result in
    let before = c.loop-point.before in
    let told = c.loop-point.invariant in
    let less : at < length xs = omega (arith, c.loop-point-test.true, c.loop-point.auto.point-index-end) in
    let is : drop at xs ≡ item ∷ drop (at + 1) xs =
    drop_more xs at item less ∙ ap (λ x. x ∷ drop (at + 1) xs) (sym c.point-item.is) in
    record {
      falls = c.row_of-row.ensures;
      marked =
          still-step
          (λ i j. crossings (centre_of v i j) (edges xs))
          (λ i j. to_count (is_crossed (centre_of v i j) (before, item)))
          (λ i j. crossings (centre_of v i j) (edges_from before (drop at xs)))
          (λ i j. crossings (centre_of v i j) (edges_from item (drop (at + 1) xs))) c.args.area c.args.scratch.now
          c.loop-point.scratch c.put_edge.new.scratch
          (λ i j.
          ap (λ ps. crossings (centre_of v i j) (edges_from before ps)) is
          ∙ sum_by-cons (λ (e : Position × Position). cond (is_crossed (centre_of v i j) e) 1 0) (before, item)
          (edges_from item (drop (at + 1) xs)))
          told.marked c.in_ok-put_edge.ensures.marked;
      cost =
          one-paid c.loop-point.steps c.put_edge.new.steps _ (rows_of c.args.area) 1
          (length (edges_from item (drop (at + 1) xs))) (length (edges_from before (drop at xs)))
          (ap (λ ps. length (edges_from before ps)) is ∙ omega arith) told.cost
          (omega (arith, c.in_ok-put_edge.ensures.cost));
    }

pub returns-clause-marked : goal.returns-clause-marked
returns-clause-marked g c =
    let v = c.args.view.now in
    let xs = c.args.points.now in
    let at = c.loop-point.point-index in
    still-done (λ i j. crossings (centre_of v i j) (edges xs))
    (λ i j. crossings (centre_of v i j) (edges_from c.loop-point.before (drop at xs))) c.args.area
    c.args.scratch.now c.loop-point.scratch
    (λ i j.
    at_drop_all (λ ps. crossings (centre_of v i j) (edges_from c.loop-point.before ps)) xs at
    (omega (arith, c.loop-point-test.false, c.loop-point.auto.point-index-end)))
    c.loop-point.invariant.marked
