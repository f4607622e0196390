use Rattle.std.proofs.Common.{◌≡◌, ◌∙◌, ap, sym, subst, refl, Some, set}
use Rattle.std.specs.Prelude.{slice_get}
use Rattle.indexmap.specs.IndexMap.{set_value_at}
use Rattle.cv_store.specs.Stores.{with_frame}
use Rattle.cv_store.specs.Tallies.{tally_of}
use Rattle.cv_store.specs.Maps.{rows_of, IsLayerMap}
use Rattle.cv_store.proofs.Lists.{one_at}
use Rattle.cv_store.proofs.MapLemmas.{map_set, rows_set, same_counts}
use Rattle.cv_store.proofs.layers.LayerMap.set_frame.Goals as goal

pub invariant_of-self : goal.invariant_of-self
invariant_of-self c =
    let es = c.self.inside.rows.entries in
    let sums = c.self.inside.sums in
    let old = c.in-Some.row.now in
    subst (λ w. IsLayerMap (set_value_at es c.args.at w) sums) (sym c.set_frame.ensures)
    (map_set es sums sums c.args.at old (with_frame c.args.frame old) c.self.invariant
    (sym c.in-Some.ensures.value) refl (same_counts sums (tally_of old.layer.core.contents)))

pub returns : goal.returns
returns c = λ row at.
    let es = c.self.inside.rows.entries in
    let here = subst (λ l. slice_get l c.args.at ≡ Some row) (sym c.self.view_is) at in
    let same = one_at (rows_of es) c.args.at c.in-Some.row.now row (sym c.in-Some.ensures.value) here in
    rows_set es c.args.at c.set_frame.new.self
    ∙ (λ i. set (c.self.view_is i) c.args.at ((c.set_frame.ensures ∙ ap (with_frame c.args.frame) same) i))
