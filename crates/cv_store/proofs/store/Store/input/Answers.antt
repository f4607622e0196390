use Rattle.std.proofs.Common.{◌∙◌, ap, sym, subst, Some, Option}
use Rattle.std.specs.Prelude.{option_and_then}
use Rattle.cv_model.specs.declared.layer.Join.{Join}
use Rattle.cv_layer.specs.Layers.{RevisedCore}
use Rattle.cv_layer.specs.Inputs.{input_of, IsInput}
use Rattle.cv_store.specs.Stores.{core_found}
use Rattle.cv_store.proofs.Inputs.{core_none, input_is, is_input}
use Rattle.cv_store.proofs.store.Store.input.Goals as goal

pub returns-in-None : goal.returns-in-None
returns-in-None c = sym (core_none c.args.self.now c.args.layer (sym c.in_ok-own.ensures ∙ c.in-None.is))

pub of-requires : goal.of-requires
of-requires c =
    let s = c.args.self.now in
    let own = c.in-Some.own in
    let m = c.in_ok-mask.ensures ∙ ap (λ (l : RevisedCore). option_and_then (core_found s) l.core.mask) c.value.ensures in
    let j = c.in_ok-join.ensures ∙ ap (λ (l : RevisedCore). option_and_then (λ (join : Join). core_found s join.layer)
    l.core.join) c.value-2.ensures in
    subst (λ (p : Option RevisedCore × Option RevisedCore). IsInput (input_of own p.0 p.1)) (λ i. (sym m i, sym j i))
    (is_input s own)

pub returns-in-Ok : goal.returns-in-Ok
returns-in-Ok c =
    let s = c.args.self.now in
    let own = c.in-Some.own in
    let m = c.in_ok-mask.ensures ∙ ap (λ (l : RevisedCore). option_and_then (core_found s) l.core.mask) c.value.ensures in
    let j = c.in_ok-join.ensures ∙ ap (λ (l : RevisedCore). option_and_then (λ (join : Join). core_found s join.layer)
    l.core.join) c.value-2.ensures in
    ap Some (c.in-Ok.ensures.ok ∙ c.of.ensures ∙ (λ i. input_of own (m i) (j i)))
    ∙ sym (input_is s own c.args.layer (sym c.in_ok-own.ensures ∙ c.in-Some.is))
