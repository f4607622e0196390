use Rattle.std.proofs.Common.{◌≡◌, ◌∙◌, sym, ap, refl, length, List}
use Rattle.std.specs.Prelude.{is_some}
use Rattle.std.specs.List.{list_any}
use Rattle.cv_store.specs.Stores.{RevisedLayer, has_id}
use Rattle.cv_store.proofs.Additions.{any_place, add_by, calm_with, small_with}
use Rattle.cv_store.proofs.FeatureEdits.{above, not_above}
use Rattle.cv_store.proofs.store.Store.may_add.Goals as goal

pub returns-then-not-fits-clause-answer : goal.returns-then-not-fits-clause-answer
returns-then-not-fits-clause-answer c =
    let s = c.args.self.now in
    let new = c.args.layer.now in
    let was = c.layers-layers.ensures.kept in
    let fit = sym c.if-not-fits.ensures in
    add_by s c.args.place new was fit refl refl refl

pub returns-then-is_some-clause-answer : goal.returns-then-is_some-clause-answer
returns-then-is_some-clause-answer c =
    let s = c.args.self.now in
    let new = c.args.layer.now in
    let was = c.layers-layers.ensures.kept in
    let fit = sym c.if-not-fits.ensures in
    let taken = ap (λ (l : List RevisedLayer). list_any (has_id new.id) l) (sym c.layers-layers.ensures.layers)
    ∙ any_place new.id c.layers-layers.result.now ∙ ap is_some (sym c.find.ensures) ∙ sym c.if-is_some.ensures in
    add_by s c.args.place new was fit taken refl refl

pub returns-then-is_over_with-clause-answer : goal.returns-then-is_over_with-clause-answer
returns-then-is_over_with-clause-answer c =
    let s = c.args.self.now in
    let new = c.args.layer.now in
    let was = c.layers-layers.ensures.kept in
    let fit = sym c.if-not-fits.ensures in
    let taken = ap (λ (l : List RevisedLayer). list_any (has_id new.id) l) (sym c.layers-layers.ensures.layers)
    ∙ any_place new.id c.layers-layers.result.now ∙ ap is_some (sym c.find.ensures) ∙ sym c.if-is_some.ensures in
    let over = sym c.if-is_over_with.ensures in
    add_by s c.args.place new was fit taken over refl

pub returns-then-place-len-clause-answer : goal.returns-then-place-len-clause-answer
returns-then-place-len-clause-answer c =
    let s = c.args.self.now in
    let new = c.args.layer.now in
    let was = c.layers-layers.ensures.kept in
    let fit = sym c.if-not-fits.ensures in
    let taken = ap (λ (l : List RevisedLayer). list_any (has_id new.id) l) (sym c.layers-layers.ensures.layers)
    ∙ any_place new.id c.layers-layers.result.now ∙ ap is_some (sym c.find.ensures) ∙ sym c.if-is_some.ensures in
    let over = sym c.if-is_over_with.ensures in
    let long : c.len.result ≡ length s.layers = c.len.ensures ∙ ap length c.layers-layers.ensures.layers in
    add_by s c.args.place new was fit taken over
    (above (length s.layers) c.args.place (rw long at c.if-place-len.true))

pub returns-clause-answer : goal.returns-clause-answer
returns-clause-answer c =
    let s = c.args.self.now in
    let new = c.args.layer.now in
    let was = c.layers-layers.ensures.kept in
    let fit = sym c.if-not-fits.ensures in
    let taken = ap (λ (l : List RevisedLayer). list_any (has_id new.id) l) (sym c.layers-layers.ensures.layers)
    ∙ any_place new.id c.layers-layers.result.now ∙ ap is_some (sym c.find.ensures) ∙ sym c.if-is_some.ensures in
    let over = sym c.if-is_over_with.ensures in
    let long : c.len.result ≡ length s.layers = c.len.ensures ∙ ap length c.layers-layers.ensures.layers in
    add_by s c.args.place new was fit taken over
    (not_above (length s.layers) c.args.place (rw long at c.if-place-len.false))

pub returns-clause-can : goal.returns-clause-can
returns-clause-can c =
    let s = c.args.self.now in
    let new = c.args.layer.now in
    let was = c.layers-layers.ensures.kept in
    let fit = sym c.if-not-fits.ensures in
    let taken = ap (λ (l : List RevisedLayer). list_any (has_id new.id) l) (sym c.layers-layers.ensures.layers)
    ∙ any_place new.id c.layers-layers.result.now ∙ ap is_some (sym c.find.ensures) ∙ sym c.if-is_some.ensures in
    let over = sym c.if-is_over_with.ensures in
    let long : c.len.result ≡ length s.layers = c.len.ensures ∙ ap length c.layers-layers.ensures.layers in
    record {
      calm = calm_with s c.args.place new was over;
      fresh = taken;
      fitting = fit;
      small = small_with s c.args.place new was over;
      within = rw long at c.if-place-len.false;
    }
