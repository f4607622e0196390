use Rattle.std.proofs.Common.{◌≡◌, not, ◌&&◌, pos, ◌≤ℤ◌, ap, w64, rules, of_calls}
use mir.Val.{to_z, of_z}
use Rattle.std.proofs.lemmas.Int.{to_z-of_z}
use Rattle.cv_model.specs.Views.{PixelGrid, centre_of}
use Rattle.cv_model.specs.Markers.{is_marked}
use Rattle.cv_pen.specs.Dots.{is_before, is_reached}
use Rattle.cv_pen.proofs.BetweenLemmas.{runs-alike}
use Rattle.cv_pen.proofs.DotLemmas.{before-falls, reached-falls, marked-between}
use Rattle.cv_pen.proofs.dots.marker_between.Goals as goal

pub returns : goal.returns
returns c =
    let v = c.args.view.now in
    let r = c.args.r in
    let at = c.args.at in
    let shape = c.args.shape in
    let columns = c.args.columns in
    let unit : pos 1 ≤ℤ v.u = rw (ap (λ (g : PixelGrid). g.u) c.view.view_is) at c.view.invariant.unit in
    let r_is = to_z-of_z w64 c.args.r c.ranges.r in
    let runs = c.run_between.ensures
    (λ i. is_before shape r (centre_of v i c.args.row) at) (λ i. is_reached shape r (centre_of v i c.args.row) at)
    (λ k a from below call.
    let told : a ≡ is_before shape (to_z w64 (of_z w64 r)) (centre_of v k c.args.row) at = search (rules, of_calls) in
    rw r_is at told)
    (λ k a from below call.
    let told : a ≡ is_reached shape (to_z w64 (of_z w64 r)) (centre_of v k c.args.row) at = search (rules, of_calls) in
    rw r_is at told)
    (before-falls v c.args.row columns.from columns.end shape r at unit)
    (reached-falls v c.args.row columns.from columns.end shape r at unit) in
    runs-alike
    (λ i. not (is_before shape r (centre_of v i c.args.row) at) && is_reached shape r (centre_of v i c.args.row) at)
    (λ i. is_marked shape r (centre_of v i c.args.row) at) columns.from columns.end _
    (λ i. marked-between shape r (centre_of v i c.args.row) at) runs
