use Rattle.std.proofs.Common.{◌≡◌, ◌∙◌, ap, sym, subst, Some}
use Rattle.std.specs.Prelude.{position, slice_get}
use Rattle.cv_model.specs.Edits.{fits}
use Rattle.cv_layer.specs.Layers.{RevisedCore}
use Rattle.cv_store.specs.Stores.{has_id}
use Rattle.cv_store.proofs.Changes.{unknown, known}
use Rattle.cv_store.proofs.Edited.{contents_here}
use Rattle.cv_store.proofs.store.Store.styled_place.Goals as goal

pub returns-in-None : goal.returns-in-None
returns-in-None c = unknown c.args.self.now c.args.layer c.layers.result.now c.layers.ensures.layers (sym
    c.find.ensures ∙ c.in-None.is)

pub returns-then-not-fits : goal.returns-then-not-fits
returns-then-not-fits c =
    let place = ap (position (has_id c.args.layer)) (sym c.layers.ensures.layers) ∙ sym c.in-Some.ensures in
    let here = subst (λ l. slice_get l c.in-Some.at ≡ Some c.row.result.now) c.layers-2.ensures.layers c.row.ensures in
    let fit = ap (fits c.args.style.now) (contents_here c.args.self.now c.args.layer c.in-Some.at c.row.result.now
    c.layers.ensures.kept place here
    ∙ sym (c.contents.ensures.contents ∙ ap (λ (l : RevisedCore). l.core.contents) (c.value.ensures
    ∙ c.layer.ensures))) ∙ sym c.if-not-fits.ensures in
    (known c.args.self.now c.args.layer c.in-Some.at c.layers.ensures.kept place, fit)

pub returns-then-is_spent : goal.returns-then-is_spent
returns-then-is_spent c =
    let place = ap (position (has_id c.args.layer)) (sym c.layers.ensures.layers) ∙ sym c.in-Some.ensures in
    let here = subst (λ l. slice_get l c.in-Some.at ≡ Some c.row.result.now) c.layers-2.ensures.layers c.row.ensures in
    let fit = ap (fits c.args.style.now) (contents_here c.args.self.now c.args.layer c.in-Some.at c.row.result.now
    c.layers.ensures.kept place here
    ∙ sym (c.contents.ensures.contents ∙ ap (λ (l : RevisedCore). l.core.contents) (c.value.ensures
    ∙ c.layer.ensures))) ∙ sym c.if-not-fits.ensures in
    (known c.args.self.now c.args.layer c.in-Some.at c.layers.ensures.kept place, fit, sym c.if-is_spent.ensures.spent)

pub returns : goal.returns
returns c =
    let place = ap (position (has_id c.args.layer)) (sym c.layers.ensures.layers) ∙ sym c.in-Some.ensures in
    let here = subst (λ l. slice_get l c.in-Some.at ≡ Some c.row.result.now) c.layers-2.ensures.layers c.row.ensures in
    let fit = ap (fits c.args.style.now) (contents_here c.args.self.now c.args.layer c.in-Some.at c.row.result.now
    c.layers.ensures.kept place here
    ∙ sym (c.contents.ensures.contents ∙ ap (λ (l : RevisedCore). l.core.contents) (c.value.ensures
    ∙ c.layer.ensures))) ∙ sym c.if-not-fits.ensures in
    (place, fit, sym c.if-is_spent.ensures.spent)
