use Rattle.std.proofs.Common.{◌≡◌, ◌∙◌, ap, subst, refl, Some, map, suc}
use Rattle.std.specs.Prelude.{slice_get}
use Rattle.cv_model.specs.declared.edit.Edit.TheVariants.{SetMask}
use Rattle.cv_model.specs.Layers.{Core}
use Rattle.cv_layer.specs.Layers.{RevisedCore}
use Rattle.cv_store.specs.Stores.{layer_of}
use Rattle.cv_store.specs.Answers.{IsChange}
use Rattle.cv_store.proofs.MapLemmas.{layer_at}
use Rattle.cv_store.proofs.Kept.{over_set}
use Rattle.cv_store.proofs.Changes.{core_none, core_change, core_ok, if_ok, got_ok}
use Rattle.cv_store.proofs.Verdicts.{place_refused, answered, on_ok}
use Rattle.cv_store.proofs.store.Store.set_mask.Goals as goal

pub returns-in-Err-clause-answer : goal.returns-in-Err-clause-answer
returns-in-Err-clause-answer c =
    place_refused c.args.self.now (SetMask c.args.layer c.args.mask) c.args.layer c.in-Err.error refl refl refl refl c.in-Err.ensures

pub put-requires-clause-change : goal.put-requires-clause-change
put-requires-clause-change c =
    let s = c.args.self.now in
    let e = SetMask c.args.layer c.args.mask in
    let f : Core → Core = λ core. record core { mask = c.args.mask } in
    let row = c.row.result.now in
    let here = subst (λ l. slice_get l c.in-Ok.at ≡ Some row) c.layers.ensures.layers c.row.ensures in
    let small = over_set (map layer_of s.layers) c.in-Ok.at row.layer (record row.layer { core = f row.layer.core })
    c.layers.ensures.kept.within (layer_at s.layers c.in-Ok.at row here) refl in
    let P : RevisedCore → Type 0 = λ made. made ≡ record {
      core = record c.value-was.result.now.core { mask = c.args.mask };
      revision = c.next.result;
    } in
    let eq : ◌≡◌ {A = RevisedCore} (record {
      core = record c.value-was.result.now.core { mask = c.args.mask };
      revision = c.next.result;
    }) (record { core = f row.layer.core; revision = suc s.version }) = λ i. record {
      core = f (ap (λ (l : RevisedCore). l.core) (c.value-was.ensures ∙ c.layer.ensures) i);
      revision = c.next.ensures i;
    } in
    if_ok c.with_mask-made.result P (IsChange s c.in-Ok.at)
    (λ made is h. core_change s e c.args.layer c.in-Ok.at c.layers.ensures.kept c.in-Ok.ensures.0 f row here refl small
    made (h ∙ eq)) c.with_mask-made.ensures

pub returns-clause-answer : goal.returns-clause-answer
returns-clause-answer c =
    let s = c.args.self.now in
    let e = SetMask c.args.layer c.args.mask in
    let f : Core → Core = λ core. record core { mask = c.args.mask } in
    let row = c.row.result.now in
    let here = subst (λ l. slice_get l c.in-Ok.at ≡ Some row) c.layers.ensures.layers c.row.ensures in
    let small = over_set (map layer_of s.layers) c.in-Ok.at row.layer (record row.layer { core = f row.layer.core })
    c.layers.ensures.kept.within (layer_at s.layers c.in-Ok.at row here) refl in
    answered s e c.put.result (core_none s e c.args.layer c.in-Ok.at c.layers.ensures.kept c.in-Ok.ensures.0 f row here
    c.in-Ok.ensures.1 small refl refl refl refl refl refl refl) c.put.ensures.version

pub returns-clause-ok : goal.returns-clause-ok
returns-clause-ok c =
    let s = c.args.self.now in
    let e = SetMask c.args.layer c.args.mask in
    let f : Core → Core = λ core. record core { mask = c.args.mask } in
    let row = c.row.result.now in
    let here = subst (λ l. slice_get l c.in-Ok.at ≡ Some row) c.layers.ensures.layers c.row.ensures in
    let P : RevisedCore → Type 0 = λ made. made ≡ record {
      core = record c.value-was.result.now.core { mask = c.args.mask };
      revision = c.next.result;
    } in
    let eq : ◌≡◌ {A = RevisedCore} (record {
      core = record c.value-was.result.now.core { mask = c.args.mask };
      revision = c.next.result;
    }) (record { core = f row.layer.core; revision = suc s.version }) = λ i. record {
      core = f (ap (λ (l : RevisedCore). l.core) (c.value-was.ensures ∙ c.layer.ensures) i);
      revision = c.next.ensures i;
    } in
    on_ok c.put.result _ _ (λ put. core_ok s e c.args.layer c.in-Ok.at c.layers.ensures.kept c.in-Ok.ensures.0 f row here
    (λ core. refl) refl refl refl put.0 (got_ok c.with_mask-made.result P put.0 put.1 c.with_mask-made.ensures ∙ eq) c.put.new.self
    put.2) c.put.ensures.made
