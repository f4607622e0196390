use Rattle.std.proofs.Common.{◌^◌, ◌≤◌, unsigned_abs, w64, arith}
use Rattle.std.proofs.lemmas.Int.{ints, to_z-of_z}
use Rattle.cv_geom.proofs.ProductLemmas.{abs-mul-le}
use Rattle.cv_scan.proofs.terms.part_of.Goals as goal

pub overflow_sub-result-2 : goal.overflow_sub-result-2
overflow_sub-result-2 c =
    let dx_is = to_z-of_z w64 c.args.dx c.ranges.dx in
    let side_is = to_z-of_z w64 c.args.side c.ranges.side in
    let shift_is = to_z-of_z w64 c.args.shift c.ranges.shift in
    let dy_is = to_z-of_z w64 c.args.dy c.ranges.dy in
    let fall = rw (dx_is, side_is) at c.product.ensures in
    let move = rw (shift_is, dy_is) at c.product-2.ensures in
    let far = c.ranges.shift in
    let most : unsigned_abs c.args.shift ≤ 2 ^ 63 = omega (arith, ints) in
    let first = abs-mul-le c.args.dx c.args.side (2 ^ 52) (2 ^ 53) c.requires.across c.requires.side in
    let second = abs-mul-le c.args.shift c.args.dy (2 ^ 63) (2 ^ 52) most c.requires.up in
    omega (arith, ints)

pub returns : goal.returns
returns c =
    let dx_is = to_z-of_z w64 c.args.dx c.ranges.dx in
    let side_is = to_z-of_z w64 c.args.side c.ranges.side in
    let shift_is = to_z-of_z w64 c.args.shift c.ranges.shift in
    let dy_is = to_z-of_z w64 c.args.dy c.ranges.dy in
    let fall = rw (dx_is, side_is) at c.product.ensures in
    let move = rw (shift_is, dy_is) at c.product-2.ensures in
    let far = c.ranges.shift in
    let most : unsigned_abs c.args.shift ≤ 2 ^ 63 = omega (arith, ints) in
    let first = abs-mul-le c.args.dx c.args.side (2 ^ 52) (2 ^ 53) c.requires.across c.requires.side in
    let second = abs-mul-le c.args.shift c.args.dy (2 ^ 63) (2 ^ 52) most c.requires.up in
    omega (arith, ints)
