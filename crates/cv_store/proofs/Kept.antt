-- What a store keeps behind a change of its layers.
use Rattle.std.proofs.Common.{◌≡◌, ◌∙◌, sym, ap, subst, refl, ℕ, zero, suc, ◌+◌, ◌-◌, ◌≤◌, false, List}
use Rattle.std.proofs.Common.{[], ◌∷◌, length, Some, arith, set, map, nat_lt}
use Rattle.std.specs.Prelude.{insert, remove, slice_get, nat_eq}
use Rattle.std.specs.List.{AllByRecursion, IsDistinct}
use Rattle.std.proofs.lemmas.List.{map-set, length-set}
use Rattle.std.proofs.lemmas.Bool.Decides.{nat_tests}
use Rattle.indexmap.proofs.SetLemmas.{map-insert, map-remove}
use Rattle.cv_model.specs.declared.colour.Rgb.{Rgb}
use Rattle.cv_model.specs.Layers.{Layer}
use Rattle.cv_model.specs.Edits.{is_over}
use Rattle.cv_store.specs.declared.tally.Tally.{Tally}
use Rattle.cv_store.specs.Stores.{StoreParts, RevisedLayer, layer_of, id_of, IsStore}
use Rattle.cv_store.specs.Tallies.{tally_of, totals_of, IsPartOf}
use Rattle.cv_store.proofs.Lists.{Lacks, keys_set, distinct_insert, distinct_remove, lacks_key}
use Rattle.cv_store.proofs.MapLemmas.{layer_at, counts_set, counts_remove, counts_insert, part_of}
use Rattle.cv_store.proofs.Limits.{within, from_within, part_passes, large_set, large_remove, large_at}
use Rattle.cv_store.proofs.Limits.{large_insert}

-- a revision from 1 to a version
abbrev pub IsRevised : ℕ → RevisedLayer → Type 0
IsRevised version row = (1 ≤ row.revision) × (row.revision ≤ version)

revised_later : (v : ℕ) (rows : List RevisedLayer) → AllByRecursion (IsRevised v) rows
    → AllByRecursion (IsRevised (suc v)) rows
revised_later v [] h = tt
revised_later v (row ∷ rows) h =
    let below = h.0.1 in ((h.0.0, omega (arith, below)), revised_later v rows h.1)

module _ {X : Type 0} (P : X → Type 0) where
  pub all_set : (xs : List X) (n : ℕ) (x : X) → AllByRecursion P xs → P x → AllByRecursion P (set xs n x)
  all_set [] zero x h g = tt
  all_set [] (suc n) x h g = tt
  all_set (y ∷ xs) zero x h g = (g, h.1)
  all_set (y ∷ xs) (suc n) x h g = (h.0, all_set xs n x h.1 g)

  pub all_insert : (xs : List X) (n : ℕ) (x : X) → AllByRecursion P xs → P x → AllByRecursion P (insert xs n x)
  all_insert xs zero x h g = (g, h)
  all_insert [] (suc n) x h g = (g, tt)
  all_insert (y ∷ xs) (suc n) x h g = (h.0, all_insert xs n x h.1 g)

  pub all_remove : (xs : List X) (n : ℕ) → AllByRecursion P xs → AllByRecursion P (remove xs n)
  all_remove [] zero h = tt
  all_remove [] (suc n) h = tt
  all_remove (y ∷ xs) zero h = h.1
  all_remove (y ∷ xs) (suc n) h = (h.0, all_remove xs n h.1)

  pub all_at : (xs : List X) (n : ℕ) (x : X) → AllByRecursion P xs → slice_get xs n ≡ Some x → P x
  all_at [] n x h e = absurd cc
  all_at (y ∷ xs) zero x h e = let is : y ≡ x = cc in subst P is h.0
  all_at (y ∷ xs) (suc n) x h e = all_at xs n x h.1 e

-- ---- the limits behind a change

-- a layer that holds no more in the place of another
pub over_set : (layers : List Layer) (n : ℕ) (old new : Layer) → is_over layers ≡ false
    → slice_get layers n ≡ Some old → tally_of new.core.contents ≡ tally_of old.core.contents
    → is_over (set layers n new) ≡ false
over_set layers n old new h at same =
    let was = within layers h in
    let totals = counts_set (totals_of layers) (totals_of layers) layers n old new refl at (record {
      features = ap (λ k. (totals_of layers).features + k) (sym (ap (λ (t : Tally). t.features) same));
      vertices = ap (λ k. (totals_of layers).vertices + k) (sym (ap (λ (t : Tally). t.vertices) same));
      values = ap (λ k. (totals_of layers).values + k) (sym (ap (λ (t : Tally). t.values) same));
      cells = ap (λ k. (totals_of layers).cells + k) (sym (ap (λ (t : Tally). t.cells) same));
    }) in
    from_within (set layers n new) (record {
      few = ap (nat_lt 32) (length-set layers n new) ∙ was.few;
      counts = part_passes _ (totals_of layers) (subst (λ t. IsPartOf t (totals_of layers)) totals (record {
        features = omega arith;
        vertices = omega arith;
        values = omega arith;
        cells = omega arith;
      })) was.counts;
      grids = large_set layers n new was.grids (ap (λ (t : Tally). nat_lt 16000000 t.cells) same
          ∙ large_at layers n old was.grids at);
    })

less_of : (layers : List Layer) (n : ℕ) (old : Layer) → slice_get layers n ≡ Some old
    → IsPartOf (totals_of (remove layers n)) (totals_of layers)
less_of layers n old at =
    let t = tally_of old.core.contents in
    let sums = totals_of layers in
    let part = part_of sums layers n old refl at in
    let less : Tally = record {
      features = sums.features - t.features;
      vertices = sums.vertices - t.vertices;
      values = sums.values - t.values;
      cells = sums.cells - t.cells;
    } in
    let is = counts_remove sums less layers n old refl at (record {
      features = omega (arith, part.features);
      vertices = omega (arith, part.vertices);
      values = omega (arith, part.values);
      cells = omega (arith, part.cells);
    }) in
    subst (λ t. IsPartOf t sums) is (record {
      features = omega arith;
      vertices = omega arith;
      values = omega arith;
      cells = omega arith;
    })

length_remove : {X : Type 0} (xs : List X) (n : ℕ) → length (remove xs n) ≤ length xs
length_remove [] zero = omega arith
length_remove [] (suc n) = omega arith
length_remove (x ∷ xs) zero = omega arith
length_remove (x ∷ xs) (suc n) = let more = length_remove xs n in omega arith

length_less : {X : Type 0} (xs : List X) (n : ℕ) (x : X) → slice_get xs n ≡ Some x
    → suc (length (remove xs n)) ≡ length xs
length_less [] n x h = absurd cc
length_less (y ∷ xs) zero x h = refl
length_less (y ∷ xs) (suc n) x h = ap suc (length_less xs n x h)

pub length_insert : {X : Type 0} (xs : List X) (n : ℕ) (x : X) → length (insert xs n x) ≡ suc (length xs)
length_insert xs zero x = refl
length_insert [] (suc n) x = refl
length_insert (y ∷ xs) (suc n) x = ap suc (length_insert xs n x)

few_less : (a b : ℕ) → a ≤ b → nat_lt 32 b ≡ false → nat_lt 32 a ≡ false
few_less a b h g = grind (arith, nat_tests, h, g)

pub over_remove : (layers : List Layer) (n : ℕ) (old : Layer) → is_over layers ≡ false
    → slice_get layers n ≡ Some old → is_over (remove layers n) ≡ false
over_remove layers n old h at =
    let was = within layers h in
    from_within (remove layers n) (record {
      few = few_less _ _ (length_remove layers n) was.few;
      counts = part_passes _ (totals_of layers) (less_of layers n old at) was.counts;
      grids = large_remove layers n was.grids;
    })

pub over_move : (layers : List Layer) (from to : ℕ) (old : Layer) → is_over layers ≡ false
    → slice_get layers from ≡ Some old → is_over (insert (remove layers from) to old) ≡ false
over_move layers from to old h at =
    let was = within layers h in
    let t = tally_of old.core.contents in
    let sums = totals_of layers in
    let part = part_of sums layers from old refl at in
    let less : Tally = record {
      features = sums.features - t.features;
      vertices = sums.vertices - t.vertices;
      values = sums.values - t.values;
      cells = sums.cells - t.cells;
    } in
    let out = counts_remove sums less layers from old refl at (record {
      features = omega (arith, part.features);
      vertices = omega (arith, part.vertices);
      values = omega (arith, part.values);
      cells = omega (arith, part.cells);
    }) in
    let back = counts_insert less sums (remove layers from) to old out (record {
      features = omega (arith, part.features);
      vertices = omega (arith, part.vertices);
      values = omega (arith, part.values);
      cells = omega (arith, part.cells);
    }) in
    from_within (insert (remove layers from) to old) (record {
      few = ap (nat_lt 32) (length_insert (remove layers from) to old ∙ length_less layers from old at) ∙ was.few;
      counts = part_passes _ sums (subst (λ t. IsPartOf t sums) back (record {
        features = omega arith;
        vertices = omega arith;
        values = omega arith;
        cells = omega arith;
      })) was.counts;
      grids = large_insert (remove layers from) to old (large_remove layers from was.grids)
          ∙ large_at layers from old was.grids at;
    })

-- ---- the store behind a change

module _ (s : StoreParts) (background : Rgb) (later : ℕ) (was : IsStore s) (next : later ≡ suc s.version) where
  opened_later : 1 ≤ later
  opened_later = omega (arith, next)

  revised_all : AllByRecursion (IsRevised later) s.layers
  revised_all = subst (λ v. AllByRecursion (IsRevised v) s.layers) (sym next) (revised_later s.version s.layers
      was.revised)

  pub kept_set : (n : ℕ) (old new : RevisedLayer) → slice_get s.layers n ≡ Some old → id_of new ≡ id_of old
      → IsRevised later new → is_over (set (map layer_of s.layers) n new.layer) ≡ false
      → IsStore (record { background = background; layers = (set s.layers n new); version = later })
  kept_set n old new at same revised small = record {
    distinct = subst (IsDistinct nat_eq) (sym (keys_set id_of s.layers n old new at same)) was.distinct;
    within = ap is_over (map-set layer_of s.layers n new) ∙ small;
    opened = opened_later;
    revised = all_set (IsRevised later) s.layers n new revised_all revised;
  }

  pub kept_insert : (n : ℕ) (new : RevisedLayer) → Lacks id_of (id_of new) s.layers → IsRevised later new
      → is_over (insert (map layer_of s.layers) n new.layer) ≡ false
      → IsStore (record { background = background; layers = (insert s.layers n new); version = later })
  kept_insert n new fresh revised small = record {
    distinct = distinct_insert id_of s.layers n new was.distinct fresh;
    within = ap is_over (map-insert layer_of s.layers n new) ∙ small;
    opened = opened_later;
    revised = all_insert (IsRevised later) s.layers n new revised_all revised;
  }

  pub kept_remove : (n : ℕ) (old : RevisedLayer) → slice_get s.layers n ≡ Some old
      → IsStore (record { background = background; layers = (remove s.layers n); version = later })
  kept_remove n old at = record {
    distinct = distinct_remove id_of s.layers n was.distinct;
    within = ap is_over (map-remove layer_of s.layers n) ∙ over_remove (map layer_of s.layers) n old.layer
        was.within (layer_at s.layers n old at);
    opened = opened_later;
    revised = all_remove (IsRevised later) s.layers n revised_all;
  }

  pub kept_move : (from to : ℕ) (old : RevisedLayer) → slice_get s.layers from ≡ Some old
      → IsStore (record { background = background; layers = (insert (remove s.layers from) to old); version = later })
  kept_move from to old at = record {
    distinct = distinct_insert id_of (remove s.layers from) to old (distinct_remove id_of s.layers from was.distinct)
        (lacks_key id_of s.layers from old was.distinct at);
    within = ap is_over (map-insert layer_of (remove s.layers from) to old
        ∙ ap (λ l. insert l to old.layer) (map-remove layer_of s.layers from))
        ∙ over_move (map layer_of s.layers) from to old.layer was.within (layer_at s.layers from old at);
    opened = opened_later;
    revised = all_insert (IsRevised later) (remove s.layers from) to old (all_remove (IsRevised later) s.layers from
        revised_all) (all_at (IsRevised later) s.layers from old revised_all at);
  }

-- a store of no layers
pub empty : (background : Rgb) → IsStore (record { background = background; layers = []; version = 1 })
unfolding IsDistinct is_over
empty background = record { distinct = tt; within = refl; opened = omega arith; revised = tt }
