-- The limits, from the counts.
use Rattle.std.proofs.Common.{◌≡◌, ◌∙◌, sym, ap, refl, ℕ, zero, suc, ◌≤◌, Bool, true, false, List, []}
use Rattle.std.proofs.Common.{◌∷◌, length, Some, arith, set, nat_lt, ◌||◌}
use Rattle.std.specs.Prelude.{insert, remove, slice_get}
use Rattle.std.proofs.lemmas.Bool.{false≢true}
use Rattle.std.proofs.lemmas.Bool.Decides.{nat_tests}
use Rattle.cv_model.specs.Layers.{Layer}
use Rattle.cv_model.specs.Edits.{is_over, cells_of}
use Rattle.cv_store.specs.declared.tally.Tally.{Tally}
use Rattle.cv_store.specs.Tallies.{totals_of, passes, has_large, IsPartOf}

pub or_left : (a b : Bool) → (a || b) ≡ false → a ≡ false
or_left true b h = h
or_left false b h = refl

pub or_right : (a b : Bool) → (a || b) ≡ false → b ≡ false
or_right true b h = absurd (false≢true (sym h))
or_right false b h = h

pub or_both : (a b : Bool) → a ≡ false → b ≡ false → (a || b) ≡ false
or_both a b h g = ap (λ x. x || b) h ∙ g

or_assoc : (a b c : Bool) → (a || (b || c)) ≡ ((a || b) || c)
or_assoc true b c = refl
or_assoc false b c = refl

-- the limits are the number of layers, the counts of all, and the cells of one
abbrev pub over_by : ℕ → Tally → Bool → Bool
over_by count totals large = nat_lt 32 count || (passes totals || large)

pub over_is : (layers : List Layer) → is_over layers ≡ over_by (length layers) (totals_of layers) (has_large layers)
unfolding is_over
over_is layers =
    let t = totals_of layers in
    let b = nat_lt 1000000 t.features in
    let c = nat_lt 4000000 t.vertices in
    let d = nat_lt 16000000 t.values in
    let e = nat_lt 64000000 t.cells in
    let f = has_large layers in
    ap (λ x. nat_lt 32 (length layers) || x)
    (ap (λ x. b || (c || x)) (or_assoc d e f)
    ∙ ap (λ x. b || x) (or_assoc c (d || e) f)
    ∙ or_assoc b (c || (d || e)) f)

pub record IsWithin (layers : List Layer) : Type 0 where
  pub few : nat_lt 32 (length layers) ≡ false
  pub counts : passes (totals_of layers) ≡ false
  pub grids : has_large layers ≡ false

pub within : (layers : List Layer) → is_over layers ≡ false → IsWithin layers
within layers h =
    let g = sym (over_is layers) ∙ h in
    let rest = or_right (nat_lt 32 (length layers)) _ g in
    record {
      few = or_left _ _ g;
      counts = or_left (passes (totals_of layers)) _ rest;
      grids = or_right (passes (totals_of layers)) _ rest;
    }

pub from_within : (layers : List Layer) → IsWithin layers → is_over layers ≡ false
from_within layers h = over_is layers ∙ or_both _ _ h.few (or_both _ _ h.counts h.grids)

-- the bounds, as numbers
pub record IsInLimits (t : Tally) : Type 0 where
  pub features : t.features ≤ 1000000
  pub vertices : t.vertices ≤ 4000000
  pub values : t.values ≤ 16000000
  pub cells : t.cells ≤ 64000000

not_above : (most n : ℕ) → nat_lt most n ≡ false → n ≤ most
not_above most n h = grind (arith, nat_tests, h)

at_most : (most n : ℕ) → n ≤ most → nat_lt most n ≡ false
at_most most n h = grind (arith, nat_tests, h)

pub in_limits : (t : Tally) → passes t ≡ false → IsInLimits t
in_limits t h =
    let a = or_right (nat_lt 1000000 t.features) _ h in
    let b = or_right (nat_lt 4000000 t.vertices) _ a in
    record {
      features = not_above 1000000 t.features (or_left _ _ h);
      vertices = not_above 4000000 t.vertices (or_left _ _ a);
      values = not_above 16000000 t.values (or_left _ _ b);
      cells = not_above 64000000 t.cells (or_right (nat_lt 16000000 t.values) _ b);
    }

pub limits_pass : (t : Tally) → IsInLimits t → passes t ≡ false
limits_pass t h =
    or_both _ _ (at_most 1000000 t.features h.features) (or_both _ _ (at_most 4000000 t.vertices h.vertices)
    (or_both _ _ (at_most 16000000 t.values h.values) (at_most 64000000 t.cells h.cells)))

pub part_passes : (part whole : Tally) → IsPartOf part whole → passes whole ≡ false → passes part ≡ false
part_passes part whole h g =
    let bound = in_limits whole g in
    limits_pass part (record {
      features = omega (arith, h.features, bound.features);
      vertices = omega (arith, h.vertices, bound.vertices);
      values = omega (arith, h.values, bound.values);
      cells = omega (arith, h.cells, bound.cells);
    })

-- ---- one grid of too many cells

abbrev pub is_large : Layer → Bool
is_large layer = nat_lt 16000000 (cells_of layer.core.contents)

pub large_set : (layers : List Layer) (n : ℕ) (new : Layer) → has_large layers ≡ false → is_large new ≡ false
    → has_large (set layers n new) ≡ false
large_set [] zero new h g = refl
large_set [] (suc n) new h g = refl
large_set (l ∷ layers) zero new h g = or_both _ _ g (or_right (is_large l) _ h)
large_set (l ∷ layers) (suc n) new h g =
    or_both _ _ (or_left (is_large l) _ h) (large_set layers n new (or_right (is_large l) _ h) g)

pub large_remove : (layers : List Layer) (n : ℕ) → has_large layers ≡ false → has_large (remove layers n) ≡ false
large_remove [] zero h = refl
large_remove [] (suc n) h = refl
large_remove (l ∷ layers) zero h = or_right (is_large l) _ h
large_remove (l ∷ layers) (suc n) h =
    or_both _ _ (or_left (is_large l) _ h) (large_remove layers n (or_right (is_large l) _ h))

pub large_insert : (layers : List Layer) (n : ℕ) (new : Layer) → has_large layers ≡ false
    → has_large (insert layers n new) ≡ is_large new
large_insert layers zero new h = ap (λ b. is_large new || b) h ∙ last (is_large new)
  where
    last : (b : Bool) → (b || false) ≡ b
    last true = refl
    last false = refl
large_insert [] (suc n) new h = last (is_large new)
  where
    last : (b : Bool) → (b || false) ≡ b
    last true = refl
    last false = refl
large_insert (l ∷ layers) (suc n) new h =
    ap (λ b. b || has_large (insert layers n new)) (or_left (is_large l) _ h)
    ∙ large_insert layers n new (or_right (is_large l) _ h)

pub large_at : (layers : List Layer) (n : ℕ) (old : Layer) → has_large layers ≡ false
    → slice_get layers n ≡ Some old → is_large old ≡ false
large_at [] n old h at = absurd cc
large_at (l ∷ layers) zero old h at = let is : l ≡ old = cc in ap is_large (sym is) ∙ or_left (is_large l) _ h
large_at (l ∷ layers) (suc n) old h at = large_at layers n old (or_right (is_large l) _ h) at
