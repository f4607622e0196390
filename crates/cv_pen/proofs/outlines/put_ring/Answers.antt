use Rattle.std.proofs.Common.{◌≡◌, ◌∙◌, sym, ap, ◌*◌, length, arith}
use Rattle.cv_model.specs.Polygons.{edges, edges_from}
use Rattle.cv_geom.specs.Runs.{rows_of}
use Rattle.cv_geom.proofs.CrossingLemmas.{edges-last}
use Rattle.cv_pen.proofs.OutlineLemmas.{edges_from-length}
use Rattle.cv_pen.proofs.outlines.put_ring.Goals as goal

ring : (g : _) (c : goal.After-put_path g) → edges_from c.in-Some.last.now c.args.points.now ≡ edges c.args.points.now
ring g c = sym (edges-last c.args.points.now c.in-Some.last.now (sym c.in-Some.ensures.value))

pub returns-clause-added : goal.returns-clause-added
returns-clause-added g c = rw (ring g c) at c.put_path.ensures.added

pub returns-clause-cost : goal.returns-clause-cost
returns-clause-cost g c =
    let many : length c.args.points.now ≡ length (edges c.args.points.now) =
    sym (edges_from-length c.in-Some.last.now c.args.points.now) ∙ ap length (ring g c) in
    let paid : length c.args.points.now * rows_of c.args.area ≡ length (edges c.args.points.now) * rows_of c.args.area =
    ap (λ n. n * rows_of c.args.area) many in
    omega (arith, c.put_path.ensures.cost)
