use Rattle.std.proofs.Common.{◌≡◌, ◌≤◌, ◌+◌, ◌*◌, ◌++◌, List, refl, ap, sym, subst, ◌∙◌, arith}
use Rattle.std.proofs.lemmas.List.{append-nil}
use Rattle.cv_model.specs.declared.colour.Rgba.{Rgba}
use Rattle.cv_model.specs.Views.{PixelGrid}
use Rattle.cv_model.specs.Pictures.{pixel}
use Rattle.cv_model.specs.Rasters.{pixels_of}
use Rattle.cv_paint.specs.Costs.{view_cost}
use Rattle.cv_paint.specs.Windows.{window_of}
use Rattle.cv_paint.proofs.CostLemmas.{rect_paid}
use Rattle.cv_paint.proofs.WindowLemmas.{rect_none, window_pixels}
use Rattle.cv_paint.proofs.strips.paint_rect.Goals as goal

pub returns-then-not-has_pixels-clause-ok : goal.returns-then-not-has_pixels-clause-ok
returns-then-not-has_pixels-clause-ok g c =
    let none : c.args.rect.w * c.args.rect.h ≡ 0 = c.if-not-has_pixels.ensures.none refl in
    sym (ap (λ (ps : List Rgba). c.args.pixels.now ++ ps)
    (rect_none (pixel c.args.symbols.now c.args.view.now) c.args.rect none)
    ∙ append-nil c.args.pixels.now)

pub returns-in_err-paint_view-clause-cost : goal.returns-in_err-paint_view-clause-cost
returns-in_err-paint_view-clause-cost g c =
    let parts = c.args.symbols.now in
    let paid : c.paint_view.new.steps ≤ c.args.steps.now + view_cost (window_of c.args.view.now c.args.rect) parts =
    subst (λ (v : PixelGrid). c.paint_view.new.steps ≤ c.args.steps.now + view_cost v parts) c.window-part.ensures
    c.paint_view.ensures.cost in
    omega (arith, paid, rect_paid parts c.args.view.now c.args.rect)

pub returns-clause-ok : goal.returns-clause-ok
returns-clause-ok g c =
    let parts = c.args.symbols.now in
    c.in_ok-paint_view.ensures.ok
    ∙ ap (λ (ps : List Rgba). c.args.pixels.now ++ ps)
    (ap (λ (v : PixelGrid). pixels_of v.w v.h (pixel parts v)) c.window-part.ensures
    ∙ window_pixels parts c.args.view.now c.args.rect)

pub returns-clause-cost : goal.returns-clause-cost
returns-clause-cost g c =
    let parts = c.args.symbols.now in
    let paid : c.paint_view.new.steps ≤ c.args.steps.now + view_cost (window_of c.args.view.now c.args.rect) parts =
    subst (λ (v : PixelGrid). c.paint_view.new.steps ≤ c.args.steps.now + view_cost v parts) c.window-part.ensures
    c.paint_view.ensures.cost in
    omega (arith, paid, rect_paid parts c.args.view.now c.args.rect)
