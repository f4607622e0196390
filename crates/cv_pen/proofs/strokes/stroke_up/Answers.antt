use Rattle.std.proofs.Common.{◌≡◌, pos, ◌≤ℤ◌, ap, w64, arith, rules, of_calls}
use mir.Val.{to_z, of_z}
use Rattle.std.proofs.lemmas.Int.{ints, to_z-of_z}
use Rattle.cv_model.specs.Positions.{doubled}
use Rattle.cv_model.specs.Views.{PixelGrid, centre_of}
use Rattle.cv_pen.specs.Strokes.{is_before, is_reached}
use Rattle.cv_pen.proofs.SideLemmas.{before-falls, reached-falls}
use Rattle.cv_pen.proofs.strokes.stroke_up.Goals as goal

pub overflow_sub-least : goal.overflow_sub-least
overflow_sub-least c =
    let rise = c.rise_at-rise.ensures.bound in
    let way = c.corner_way-way.ensures.bound in
    omega (arith, ints)

pub overflow_add-most : goal.overflow_add-most
overflow_add-most c =
    let rise = c.rise_at-rise.ensures.bound in
    let way = c.corner_way-way.ensures.bound in
    omega (arith, ints)

pub returns : goal.returns
returns c =
    let v = c.args.view.now in
    let a = doubled c.args.low in
    let b = doubled c.args.high in
    let columns = c.args.columns in
    let unit : pos 1 ≤ℤ v.u = rw (ap (λ (g : PixelGrid). g.u) c.view.view_is) at c.view.invariant.unit in
    let rises : a.y ≤ℤ b.y = omega (arith, ints) in
    let r_is = to_z-of_z w64 c.args.r c.ranges.r in
    c.run_between.ensures
    (λ i. is_before c.args.r (centre_of v i c.args.row) a b) (λ i. is_reached c.args.r (centre_of v i c.args.row) a b)
    (λ k r from below call.
    let told : r ≡ is_before (to_z w64 (of_z w64 c.args.r)) (centre_of v k c.args.row) a b = search (rules, of_calls) in
    rw r_is at told)
    (λ k r from below call.
    let told : r ≡ is_reached (to_z w64 (of_z w64 c.args.r)) (centre_of v k c.args.row) a b = search (rules, of_calls) in
    rw r_is at told)
    (before-falls v c.args.row columns.from columns.end c.args.r a b unit rises)
    (reached-falls v c.args.row columns.from columns.end c.args.r a b unit rises)
