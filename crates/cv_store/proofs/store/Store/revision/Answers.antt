use Rattle.std.proofs.Common.{◌∙◌, ap, sym}
use Rattle.cv_layer.specs.Layers.{RevisedCore}
use Rattle.cv_layer.specs.Inputs.{revision_of}
use Rattle.cv_store.proofs.Inputs.{revision_found}
use Rattle.cv_store.proofs.store.Store.revision.Goals as goal

pub returns-in-Some : goal.returns-in-Some
returns-in-Some c =
    c.revision.ensures ∙ ap (λ (l : RevisedCore). l.revision) c.value.ensures
    ∙ ap revision_of c.in-Some.ensures ∙ sym (revision_found c.args.self.now c.args.id)

pub returns-in-None : goal.returns-in-None
returns-in-None c = ap revision_of c.in-None.ensures ∙ sym (revision_found c.args.self.now c.args.id)
