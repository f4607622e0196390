use Rattle.std.proofs.Common.{◌∙◌, ap, sym, Some, Option}
use Rattle.std.specs.Prelude.{option_map}
use Rattle.cv_layer.specs.Layers.{RevisedCore}
use Rattle.cv_store.specs.Stores.{core_stamps}
use Rattle.cv_store.proofs.Inputs.{core_row}
use Rattle.cv_store.proofs.store.Store.stamps.Goals as goal

pub returns-in-Some : goal.returns-in-Some
returns-in-Some c =
    let s = c.args.self.now in
    ap Some (c.stamps_of.ensures ∙ ap (λ (l : RevisedCore). core_stamps s l.core) c.value.ensures)
    ∙ ap (λ (o : Option RevisedCore). option_map (core_stamps s) (option_map (λ (l : RevisedCore). l.core) o))
    c.in-Some.ensures
    ∙ sym (ap (option_map (core_stamps s)) (core_row c.args.layer s.layers))

pub returns-in-None : goal.returns-in-None
returns-in-None c =
    let s = c.args.self.now in
    ap (λ (o : Option RevisedCore). option_map (core_stamps s) (option_map (λ (l : RevisedCore). l.core) o))
    c.in-None.ensures
    ∙ sym (ap (option_map (core_stamps s)) (core_row c.args.layer s.layers))
