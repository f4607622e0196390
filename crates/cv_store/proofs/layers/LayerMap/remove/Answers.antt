use Rattle.std.proofs.Common.{◌≡◌, ◌∙◌, ap, sym, subst, Some, map}
use Rattle.std.specs.Prelude.{remove, slice_get}
use Rattle.cv_layer.specs.Layers.{RevisedCore}
use Rattle.cv_store.specs.Stores.{layer_of}
use Rattle.cv_store.specs.Tallies.{tally_of, IsPartOf, IsExchanged}
use Rattle.cv_store.specs.Maps.{rows_of, IsLayerMap}
use Rattle.cv_store.proofs.MapLemmas.{map_remove, rows_remove, part_of, layer_at, none}
use Rattle.cv_store.proofs.layers.LayerMap.remove.Goals as goal

pub less-sums-requires : goal.less-sums-requires
less-sums-requires c =
    let es = c.self.inside.rows.entries in
    let here = subst (λ l. slice_get l c.args.at ≡ Some c.row.result.now) (sym c.self.view_is) c.row.ensures in
    let is : c.tally_of-was.result ≡ tally_of c.row.result.now.layer.core.contents = c.tally_of-was.ensures
    ∙ ap tally_of (c.contents.ensures.contents ∙ ap (λ (l : RevisedCore). l.core.contents) (c.value.ensures
    ∙ c.layer.ensures)) in
    subst (λ t. IsPartOf t c.self.inside.sums) (sym is)
    (part_of c.self.inside.sums (map layer_of (rows_of es)) c.args.at c.row.result.now.layer
    c.self.invariant.counted (layer_at (rows_of es) c.args.at c.row.result.now here))

pub invariant_of-self : goal.invariant_of-self
invariant_of-self c =
    let es = c.self.inside.rows.entries in
    let here = subst (λ l. slice_get l c.args.at ≡ Some c.row.result.now) (sym c.self.view_is) c.row.ensures in
    let is : c.tally_of-was.result ≡ tally_of c.row.result.now.layer.core.contents = c.tally_of-was.ensures
    ∙ ap tally_of (c.contents.ensures.contents ∙ ap (λ (l : RevisedCore). l.core.contents) (c.value.ensures
    ∙ c.layer.ensures)) in
    subst (λ l. IsLayerMap l c.less-sums.result) (sym c.shift_remove_index.ensures.entries)
    (map_remove es c.self.inside.sums c.less-sums.result c.args.at c.row.result.now c.self.invariant here
    (subst (λ t. IsExchanged c.self.inside.sums t none c.less-sums.result) is c.less-sums.ensures))

pub returns : goal.returns
returns c =
    ap rows_of c.shift_remove_index.ensures.entries ∙ rows_remove c.self.inside.rows.entries c.args.at
    ∙ ap (λ l. remove l c.args.at) c.self.view_is
