use Rattle.std.proofs.Common.{◌≡◌, pos, ◌*ℤ◌, w32, w64, FitsSigned, arith, rules}
use Rattle.std.proofs.lemmas.Int.{ints, to_z-of_z}
use Rattle.cv_geom.proofs.views.moved_left.Goals as goal

pub overflow_add-result : goal.overflow_add-result
overflow_add-result c =
    let bound = c.span.ensures.bound in
    omega (arith, ints)

pub returns : goal.returns
returns c =
    let edge = c.view.invariant.left in
    let bound = c.span.ensures.bound in
    let side : FitsSigned w64 c.view.inside.u = search rules in
    let u = to_z-of_z w64 c.view.inside.u side in
    let dx = to_z-of_z w32 c.args.dx c.ranges.dx in
    let wide : FitsSigned w64 c.from-2.result = search rules in
    let pixels = to_z-of_z w64 c.from-2.result wide in
    let run : c.span.result ≡ pos 2 *ℤ c.args.dx *ℤ c.view.inside.u = cc in
    rw (← c.view.view_is) (omega (arith, ints))
