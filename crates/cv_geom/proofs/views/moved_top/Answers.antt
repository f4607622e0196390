use Rattle.std.proofs.Common.{◌≡◌, pos, ◌*ℤ◌, w32, w64, FitsSigned, arith, rules}
use Rattle.std.proofs.lemmas.Int.{ints, to_z-of_z}
use Rattle.cv_geom.proofs.views.moved_top.Goals as goal

pub overflow_sub-result : goal.overflow_sub-result
overflow_sub-result c =
    let bound = c.span.ensures.bound in
    omega (arith, ints)

pub returns : goal.returns
returns c =
    let edge = c.view.invariant.top in
    let bound = c.span.ensures.bound in
    let side : FitsSigned w64 c.view.inside.u = search rules in
    let u = to_z-of_z w64 c.view.inside.u side in
    let dy = to_z-of_z w32 c.args.dy c.ranges.dy in
    let wide : FitsSigned w64 c.from-2.result = search rules in
    let pixels = to_z-of_z w64 c.from-2.result wide in
    let run : c.span.result ≡ pos 2 *ℤ c.args.dy *ℤ c.view.inside.u = cc in
    rw (← c.view.view_is) (omega (arith, ints))
