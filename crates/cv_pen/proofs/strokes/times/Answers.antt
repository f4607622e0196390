use Rattle.std.proofs.Common.{◌≡◌, pos, ◌*ℤ◌, w64, FitsSigned, arith, rules}
use mir.Val.{to_z, of_z}
use Rattle.std.proofs.lemmas.Int.{ints, to_z-of_z}
use Rattle.cv_geom.proofs.ProductLemmas.{scaled}
use Rattle.cv_pen.proofs.strokes.times.Goals as goal

pub overflow_mul-result : goal.overflow_mul-result
overflow_mul-result c =
    let size : FitsSigned w64 c.from.result = search rules in
    let size_is = to_z-of_z w64 c.from.result size in
    let u_is = to_z-of_z w64 c.args.u c.ranges.u in
    let few = scaled c.args.size 256 c.args.u c.requires.few c.requires.side in
    let small = c.requires.small in
    let value : to_z w64 (of_z w64 c.from.result) *ℤ to_z w64 (of_z w64 c.args.u) ≡ pos c.args.size *ℤ c.args.u = cc in
    omega (arith, ints)

pub returns-clause-value : goal.returns-clause-value
returns-clause-value c =
    let size : FitsSigned w64 c.from.result = search rules in
    let size_is = to_z-of_z w64 c.from.result size in
    let u_is = to_z-of_z w64 c.args.u c.ranges.u in
    let few = scaled c.args.size 256 c.args.u c.requires.few c.requires.side in
    let small = c.requires.small in
    let value : to_z w64 (of_z w64 c.from.result) *ℤ to_z w64 (of_z w64 c.args.u) ≡ pos c.args.size *ℤ c.args.u = cc in
    omega (arith, ints)

pub returns-clause-radius : goal.returns-clause-radius
returns-clause-radius c =
    let few = scaled c.args.size 256 c.args.u c.requires.few c.requires.side in
    let small = c.requires.small in
    rw (returns-clause-value c) (few.0, omega (arith, ints))
