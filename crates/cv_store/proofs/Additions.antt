-- A layer put into a store: the limits, and the verdict.
use Rattle.std.proofs.Common.{◌≡◌, ◌∙◌, sym, ap, refl, ℕ, suc, ◌+◌, ◌-◌, ◌||◌, Bool, true, false, not, List, length}
use Rattle.std.proofs.Common.{Option, Some, None, arith, map, nat_lt, nat_le}
use Rattle.std.specs.Prelude.{insert, position, is_some}
use Rattle.std.specs.List.{list_any}
use Rattle.std.proofs.lemmas.Bool.Decides.{nat_tests}
use Rattle.cv_model.specs.declared.edit.Edit.TheVariants.{AddLayer}
use Rattle.cv_model.specs.declared.layer.NewLayer.{NewLayer}
use Rattle.cv_model.specs.Edits.{fits, is_over, cells_of, columns_of, has_long_names, passes_limit}
use Rattle.cv_model.specs.Layers.{Layer, contents_of, layer_of_new}
use Rattle.cv_store.specs.declared.tally.Tally.{Tally}
use Rattle.cv_store.specs.Stores.{StoreParts, RevisedLayer, layer_of, id_of, has_id, accepted, IsStore}
use Rattle.cv_store.specs.Tallies.{tally_of, totals_of, data_tally, exchange, passes, no_tally}
use Rattle.cv_store.specs.Answers.{verdict_in, is_spent}
use Rattle.cv_store.specs.Adding.{is_over_with}
use Rattle.cv_store.proofs.Lists.{any_lacks, lacks_position, at_position, at_within, got, any_found, find_at}
use Rattle.cv_store.proofs.MapLemmas.{counts_insert}
use Rattle.cv_store.proofs.Kept.{length_insert}
use Rattle.cv_store.proofs.Limits.{over_is, within, large_insert, or_left, or_right}
use Rattle.cv_store.proofs.Edited.{any_rows}
use Rattle.cv_store.proofs.Changes.{length_layers}
use Rattle.cv_store.proofs.FeatureEdits.{passes_alike, vertices_above, values_above}
use Rattle.cv_store.proofs.Verdicts.{verdict_is, tests}

put_sum : (s u : ℕ) → (s - 0 + u) + 0 ≡ s + u
put_sum s u = omega arith

many : (n : ℕ) → nat_lt 32 (suc n) ≡ nat_le 32 n
many n = by (nat_le 32 n) refl
  where
    by : (b : Bool) → nat_le 32 n ≡ b → nat_lt 32 (suc n) ≡ nat_le 32 n
    by true h = let more : nat_lt 32 (suc n) ≡ true = grind (arith, nat_tests, h) in more ∙ sym h
    by false h = let less : nat_lt 32 (suc n) ≡ false = grind (arith, nat_tests, h) in less ∙ sym h

shuffle : (a f p l n : Bool) → (a || ((f || (p || l)) || n)) ≡ ((a || p) || (f || (l || n)))
shuffle true f p l n = refl
shuffle false true true l n = refl
shuffle false true false l n = refl
shuffle false false true l n = refl
shuffle false false false l n = refl

pub any_place : (q : ℕ) (rows : List RevisedLayer) → list_any (has_id q) rows ≡ is_some (position (has_id q) rows)
any_place q rows = by (position (has_id q) rows) refl
  where
    by : (o : Option ℕ) → position (has_id q) rows ≡ o → list_any (has_id q) rows ≡ is_some (position (has_id q) rows)
    by None h = any_lacks id_of q rows (lacks_position id_of q rows h) ∙ sym (ap is_some h)
    by (Some n) h =
        let at = at_position id_of q rows n h in
        let found = got rows n (at_within id_of q rows n at) in
        any_found id_of q rows ∙ ap is_some (find_at id_of q rows n found.0 at found.1) ∙ sym (ap is_some h)

module _ (s : StoreParts) (place : ℕ) (new : NewLayer) (was : IsStore s) where
  abbrev layers : List Layer
  layers = map layer_of s.layers

  abbrev sums : Tally
  sums = totals_of (map layer_of s.layers)

  counts_with : passes (totals_of (insert layers place (layer_of_new new)))
      ≡ passes (exchange sums no_tally (data_tally (contents_of new.contents)))
  counts_with =
      let t = tally_of (contents_of new.contents) in
      let d = data_tally (contents_of new.contents) in
      let is = counts_insert sums (exchange sums no_tally t) layers place (layer_of_new new) refl (record {
        features = put_sum sums.features t.features;
        vertices = put_sum sums.vertices t.vertices;
        values = put_sum sums.values t.values;
        cells = put_sum sums.cells t.cells;
      }) in
      ap passes (sym is)
      ∙ passes_alike (exchange sums no_tally t) (exchange sums no_tally d) refl
      (sym (vertices_above (sums.vertices - 0) t.vertices)) (sym (values_above (sums.values - 0) t.values)) refl

  over_with : is_over (insert layers place (layer_of_new new))
      ≡ (nat_le 32 (length s.layers)
      || (passes (exchange sums no_tally (data_tally (contents_of new.contents)))
      || nat_lt 16000000 (cells_of (contents_of new.contents))))
  over_with =
      let few = ap (nat_lt 32) (length_insert layers place (layer_of_new new) ∙ ap suc (length_layers s.layers))
      ∙ many (length s.layers) in
      let large = large_insert layers place (layer_of_new new) (within layers was.within).grids in
      over_is (insert layers place (layer_of_new new)) ∙ (λ i. few i || (counts_with i || large i))

  pub limit_with : passes_limit (map layer_of s.layers) (accepted s) (AddLayer place new) ≡ is_over_with s new
  limit_with =
      let names = has_long_names new.name (columns_of (contents_of new.contents)) in
      ap (λ b. is_spent s || (b || names)) over_with
      ∙ shuffle (is_spent s) (nat_le 32 (length s.layers))
      (passes (exchange sums no_tally (data_tally (contents_of new.contents))))
      (nat_lt 16000000 (cells_of (contents_of new.contents))) names

  -- where no limit is passed
  pub calm_with : is_over_with s new ≡ false → is_spent s ≡ false
  calm_with h =
      or_left (is_spent s) (is_over (insert layers place (layer_of_new new))
      || has_long_names new.name (columns_of (contents_of new.contents))) (limit_with ∙ h)

  pub small_with : is_over_with s new ≡ false
      → is_over (insert (map layer_of s.layers) place (layer_of_new new)) ≡ false
  small_with h =
      or_left (is_over (insert layers place (layer_of_new new)))
      (has_long_names new.name (columns_of (contents_of new.contents))) (or_right (is_spent s)
      (is_over (insert layers place (layer_of_new new)) || has_long_names new.name (columns_of (contents_of
      new.contents))) (limit_with ∙ h))

  -- the verdict, test by test
  pub add_by : {c d l p : Bool} → fits new.style (contents_of new.contents) ≡ c
      → list_any (has_id new.id) s.layers ≡ d → is_over_with s new ≡ l → nat_lt (length s.layers) place ≡ p
      → verdict_in s (AddLayer place new) ≡ tests false false (not c) d l p
  add_by c d l p =
      verdict_is s (AddLayer place new) refl refl (ap not c) (any_rows new.id s.layers ∙ d) (limit_with ∙ l)
      (ap (λ n. nat_lt n place) (length_layers s.layers) ∙ p)
