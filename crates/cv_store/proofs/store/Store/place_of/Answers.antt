use Rattle.std.proofs.Common.{◌∙◌, ap, sym}
use Rattle.std.specs.Prelude.{position}
use Rattle.cv_store.specs.Stores.{has_id}
use Rattle.cv_store.proofs.Changes.{unknown, known}
use Rattle.cv_store.proofs.store.Store.place_of.Goals as goal

pub returns-in-None : goal.returns-in-None
returns-in-None c = unknown c.args.self.now c.args.layer c.layers.result.now c.layers.ensures.layers (sym
    c.find.ensures ∙ c.in-None.is)

pub returns-then-is_spent : goal.returns-then-is_spent
returns-then-is_spent c =
    let place = ap (position (has_id c.args.layer)) (sym c.layers.ensures.layers) ∙ sym c.in-Some.ensures in
    (known c.args.self.now c.args.layer c.in-Some.at c.layers.ensures.kept place, sym c.if-is_spent.ensures.spent)

pub returns : goal.returns
returns c =
    let place = ap (position (has_id c.args.layer)) (sym c.layers.ensures.layers) ∙ sym c.in-Some.ensures in
    (place, sym c.if-is_spent.ensures.spent)
