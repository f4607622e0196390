use Rattle.std.proofs.Common.{◌∙◌, sym, ap, subst, refl, ℕ, suc}
use Rattle.std.specs.Prelude.{insert}
use Rattle.cv_model.specs.declared.edit.Edit.TheVariants.{AddLayer}
use Rattle.cv_model.specs.Layers.{layer_of_new}
use Rattle.cv_store.specs.Stores.{StoreParts, RevisedLayer}
use Rattle.cv_store.specs.Answers.{IsEdited}
use Rattle.cv_store.proofs.Edited.{added_edited, with_rows}
use Rattle.cv_store.proofs.store.Store.add_layer.Goals as goal

pub returns-in-Ok-put_in-clause-ok : goal.returns-in-Ok-put_in-clause-ok
returns-in-Ok-put_in-clause-ok c =
    let s = c.args.self.now in
    let e = AddLayer c.args.place c.args.layer.now in
    let row_at : ℕ → RevisedLayer = λ revision. record {
      layer = layer_of_new c.args.layer.now;
      revision = revision;
    } in
    let is = c.in-Ok-row_copy.ensures ∙ ap row_at c.next.ensures in
    let made = c.in-Ok-put_in.ensures.made
    ∙ ap (λ (row : RevisedLayer). with_rows s (insert s.layers c.args.place row)) is in
    subst (λ (t : StoreParts). IsEdited s e t) (sym made)
    (added_edited s e c.args.place (row_at (suc s.version)) c.in-Ok.ensures.can.fresh refl refl refl refl)
