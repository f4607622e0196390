use Rattle.std.proofs.Common.{◌≡◌, ap, ◌-◌, ◌*◌, length, take, drop, arith}
use Rattle.cv_model.specs.Pens.{segments}
use Rattle.cv_geom.specs.Runs.{rows_of}
use Rattle.cv_pen.proofs.OutlineLemmas.{segments-length}
use Rattle.cv_pen.proofs.outlines.put_line.Goals as goal

pub returns-in-len1-up-clause-cost : goal.returns-in-len1-up-clause-cost
returns-in-len1-up-clause-cost g c =
    let points = c.args.points.now in
    let paid : length (take (length points - 1) (drop 1 points)) * rows_of c.args.area ≡ length (segments points) * rows_of c.args.area =
    ap (λ n. n * rows_of c.args.area) (segments-length points c.in-len1-up.len_at_least) in
    omega (arith, c.put_path.ensures.cost)
