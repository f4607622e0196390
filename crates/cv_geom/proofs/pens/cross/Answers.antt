use Rattle.std.proofs.Common.{◌^◌, arith}
use Rattle.std.proofs.lemmas.Int.{ints, to_z-of_z}
use Rattle.cv_geom.proofs.ProductLemmas.{abs-mul-le}
use Rattle.cv_geom.proofs.pens.cross.Goals as goal

pub overflow_sub-result : goal.overflow_sub-result
overflow_sub-result c =
    let up = abs-mul-le c.args.dx c.args.y (2 ^ 63) (2 ^ 62) (omega (arith, ints)) (omega (arith, ints)) in
    let across = abs-mul-le c.args.dy c.args.x (2 ^ 63) (2 ^ 62) (omega (arith, ints)) (omega (arith, ints)) in
    let rising = simp (to_z-of_z, c.ranges.dx, c.ranges.y) at c.product.ensures in
    let running = simp (to_z-of_z, c.ranges.dy, c.ranges.x) at c.product-2.ensures in
    omega (arith, ints)

pub returns : goal.returns
returns c =
    let fits = overflow_sub-result c in
    let rising = simp (to_z-of_z, c.ranges.dx, c.ranges.y) at c.product.ensures in
    let running = simp (to_z-of_z, c.ranges.dy, c.ranges.x) at c.product-2.ensures in
    omega (arith, ints)
