use Rattle.std.proofs.Common.{◌≡◌, pos, ◌*ℤ◌, w64, FitsSigned, arith, rules}
use Rattle.std.proofs.lemmas.Int.{ints, to_z-of_z}
use Rattle.cv_geom.proofs.views.resized_left.Goals as goal

pub overflow_sub-result : goal.overflow_sub-result
overflow_sub-result c =
    let edge = c.view.invariant.left in
    let bound = c.half_span.ensures.bound in
    let bound_2 = c.half_span-2.ensures.bound in
    omega (arith, ints)

pub returns : goal.returns
returns c =
    let edge = c.view.invariant.left in
    let bound = c.half_span.ensures.bound in
    let bound_2 = c.half_span-2.ensures.bound in
    let side : FitsSigned w64 c.view.inside.u = search rules in
    let old = to_z-of_z w64 c.view.inside.u side in
    let new = to_z-of_z w64 c.args.u c.ranges.u in
    let run : c.half_span.result ≡ pos c.view.inside.w *ℤ c.view.inside.u = cc in
    let run_2 : c.half_span-2.result ≡ pos c.view.inside.w *ℤ c.args.u = cc in
    rw (← c.view.view_is) (omega (arith, ints))
