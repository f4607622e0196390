use Rattle.std.proofs.Common.{◌≡◌, ◌∙◌, ap, sym, subst, Some, set, map}
use Rattle.std.specs.Prelude.{slice_get}
use Rattle.indexmap.specs.IndexMap.{set_value_at}
use Rattle.cv_layer.specs.Layers.{RevisedCore}
use Rattle.cv_store.specs.Stores.{layer_of, with_core}
use Rattle.cv_store.specs.Tallies.{tally_of, IsPartOf, IsExchanged}
use Rattle.cv_store.specs.Maps.{rows_of, IsLayerMap}
use Rattle.cv_store.proofs.Lists.{one_at}
use Rattle.cv_store.proofs.MapLemmas.{map_set, rows_set, part_of, layer_at}
use Rattle.cv_store.proofs.layers.LayerMap.set_layer.Goals as goal

pub exchanged-requires : goal.exchanged-requires
exchanged-requires c =
    let es = c.self.inside.rows.entries in
    let here = subst (λ l. slice_get l c.args.at ≡ Some c.row.result.now) (sym c.self.view_is) c.row.ensures in
    let is : c.tally_of-was.result ≡ tally_of c.row.result.now.layer.core.contents = c.tally_of-was.ensures
    ∙ ap tally_of (c.contents.ensures.contents ∙ ap (λ (l : RevisedCore). l.core.contents) (c.value.ensures
    ∙ c.layer.ensures)) in
    subst (λ t. IsPartOf t c.self.inside.sums) (sym is)
    (part_of c.self.inside.sums (map layer_of (rows_of es)) c.args.at c.row.result.now.layer
    c.self.invariant.counted (layer_at (rows_of es) c.args.at c.row.result.now here))

pub invariant_of-self : goal.invariant_of-self
invariant_of-self c =
    let es = c.self.inside.rows.entries in
    let here = subst (λ l. slice_get l c.args.at ≡ Some c.row.result.now) (sym c.self.view_is) c.row.ensures in
    let is : c.tally_of-was.result ≡ tally_of c.row.result.now.layer.core.contents = c.tally_of-was.ensures
    ∙ ap tally_of (c.contents.ensures.contents ∙ ap (λ (l : RevisedCore). l.core.contents) (c.value.ensures
    ∙ c.layer.ensures)) in
    let old = c.row.result.now in
    let sums = c.self.inside.sums in
    let same = one_at (rows_of es) c.args.at c.in-Some.row.now old (sym c.in-Some.ensures.value) here in
    let made : c.tally_of.result ≡ tally_of c.args.layer.core.contents = c.tally_of.ensures
    ∙ ap tally_of (c.contents-2.ensures.contents ∙ ap (λ (l : RevisedCore). l.core.contents) c.value-2.ensures) in
    let exchanged = subst (λ t. IsExchanged sums t c.tally_of.result c.in_ok-sums.sums) is c.in_ok-sums.ensures in
    let swapped = subst (λ t. IsExchanged sums (tally_of old.layer.core.contents) t c.in_ok-sums.sums) made exchanged
    in
    subst (λ w. IsLayerMap (set_value_at es c.args.at w) c.in_ok-sums.sums) (sym (c.set_layer.ensures
    ∙ ap (with_core c.args.layer) same))
    (map_set es sums c.in_ok-sums.sums c.args.at old (with_core c.args.layer old) c.self.invariant here
    (c.requires.same old c.row.ensures) swapped)

pub returns-clause-ok : goal.returns-clause-ok
returns-clause-ok c = λ row at.
    let es = c.self.inside.rows.entries in
    let here = subst (λ l. slice_get l c.args.at ≡ Some row) (sym c.self.view_is) at in
    let same = one_at (rows_of es) c.args.at c.in-Some.row.now row (sym c.in-Some.ensures.value) here in
    rows_set es c.args.at c.set_layer.new.self
    ∙ (λ i. set (c.self.view_is i) c.args.at ((c.set_layer.ensures ∙ ap (with_core c.args.layer) same) i))
