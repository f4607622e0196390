use Rattle.std.proofs.Common.{ap, length, sym, ◌∙◌, ◌-◌, ◌++◌, ◌∷◌, [], subst, arith, take, drop}
use Rattle.std.proofs.lemmas.List.{length-map}
use Rattle.cv_model.specs.declared.feature.Feature.{Feature}
use Rattle.cv_model.specs.Features.{ids_of}
use Rattle.cv_layer.specs.Stretches.{AreStretches}
use Rattle.cv_layer.proofs.StretchLemmas.{with_one}
use Rattle.cv_layer.proofs.table.Table.stretches_with.Goals as goal

pub returns : goal.returns
returns c =
    let ids = ids_of c.args.self.now.features in
    let long = length-map c.args.self.now.features (λ (f : Feature). f.id) in
    let count = c.len.ensures ∙ ap (λ t. length t.features) c.self.view_is in
    let first = c.in_ok-put_range.ensures []
    (subst (λ l. AreStretches l []) (sym c.new-made.ensures.items) (λ i. [])) in
    let more = c.in_ok-put.ensures ([] ++ take (c.args.at - 0) (drop 0 ids)) (c.args.id ∷ []) first c.of.ensures in
    let all = c.in_ok-put_range-2.ensures (([] ++ take (c.args.at - 0) (drop 0 ids)) ++ c.args.id ∷ []) more in
    subst (AreStretches c.put_range-2.new.made.items)
    (with_one ids c.args.at c.len.result c.args.id (omega (arith, c.requires, long)) (omega (arith, count, long))) all
