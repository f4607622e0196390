use Rattle.std.proofs.Common.{arith, ◌*◌}
use Rattle.std.proofs.lemmas.Int.{ints}
use Rattle.cv_geom.proofs.ProductLemmas.{scaled}
use Rattle.cv_pen.proofs.strokes.half_side.Goals as goal

pub times-requires-clause-small : goal.times-requires-clause-small
times-requires-clause-small c =
    let wide = c.view.invariant.wide in
    let side = scaled 2 (2 * c.view.inside.w) c.view.inside.u (omega arith) c.view.invariant.unit in
    let left = c.view.invariant.left in
    let right = c.view.invariant.right in
    omega (arith, ints)
