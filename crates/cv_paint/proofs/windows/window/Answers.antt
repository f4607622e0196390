use Rattle.std.proofs.Common.{ap, sym, subst, w64, FitsSigned, rules}
use Rattle.std.proofs.lemmas.Int.{to_z-of_z}
use Rattle.cv_model.specs.Views.{PixelGrid, IsView}
use Rattle.cv_paint.proofs.WindowLemmas.{window_is, window_made}
use Rattle.cv_paint.proofs.windows.window.Goals as goal

pub invariant_of-result : goal.invariant_of-result
invariant_of-result c =
    let left_fits : FitsSigned w64 c.left_of.result = search rules in
    let top_fits : FitsSigned w64 c.top_of.result = search rules in
    let unit_fits : FitsSigned w64 c.view.inside.u = search rules in
    rw (to_z-of_z w64 c.left_of.result left_fits, to_z-of_z w64 c.top_of.result top_fits, to_z-of_z w64 c.view.inside.u unit_fits)
    (subst IsView
    (sym (window_made c.args.view.now c.args.r _ _ _ c.left_of.ensures.value c.top_of.ensures.value
    (ap (λ (v : PixelGrid). v.u) c.view.view_is)))
    (window_is c.args.view.now c.args.r (subst IsView c.view.view_is c.view.invariant) c.requires.within
    c.requires.wide c.requires.high))

pub returns : goal.returns
returns c =
    let left_fits : FitsSigned w64 c.left_of.result = search rules in
    let top_fits : FitsSigned w64 c.top_of.result = search rules in
    let unit_fits : FitsSigned w64 c.view.inside.u = search rules in
    rw (to_z-of_z w64 c.left_of.result left_fits, to_z-of_z w64 c.top_of.result top_fits, to_z-of_z w64 c.view.inside.u unit_fits)
    (window_made c.args.view.now c.args.r _ _ _ c.left_of.ensures.value c.top_of.ensures.value
    (ap (λ (v : PixelGrid). v.u) c.view.view_is))
