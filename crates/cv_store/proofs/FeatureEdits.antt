-- Edits of what a layer holds: the limits, and the first cause that stands against one.
use Rattle.std.proofs.Common.{◌≡◌, ◌∙◌, sym, ap, subst, refl, ℕ, suc, ◌+◌, ◌-◌, ◌<◌, ◌≤◌, ◌||◌, Bool, true, false, not}
use Rattle.std.proofs.Common.{List, [], ◌∷◌, length, Option, Some, None, arith, map, nat_lt, nat_le, nat_eq, cond, set}
use Rattle.std.specs.Prelude.{insert, position, slice_get, sum_by, filter, is_some, min, bytes_eq, is_none}
use Rattle.std.specs.Prelude.{if◌then◌else◌}
use Rattle.std.specs.List.{list_any, IsDistinct}
use Rattle.std.specs.Option.{option_map_or}
use Rattle.std.proofs.Math.Nat.{min-eq_left, min-eq_right}
use Rattle.std.proofs.lemmas.Bool.Decides.{nat_tests}
use Rattle.std.proofs.lemmas.List.{length-map, length-set}
use Rattle.std.proofs.lemmas.List.Sums.{sum_by-insert, sum_by-set, get_or-le-sum_by, sum_by-cons}
use Rattle.std.proofs.lemmas.Option.{slice_get_within, get_or_from_slice_get}
use Rattle.cv_model.specs.declared.feature.Feature.{Feature}
use Rattle.cv_model.specs.declared.grid.Cell.{Cell}
use Rattle.cv_model.specs.Edits.{is_feature, has_feature, without_feature, change_feature, feature_vertices}
use Rattle.cv_model.specs.Edits.{with_text, with_attribute, is_uneven, count_vertices}
use Rattle.cv_model.specs.Edits.{count_values}
use Rattle.cv_model.specs.Geometries.{GeometryLists, counted, vertices_of}
use Rattle.cv_model.specs.Grids.{CellGrid}
use Rattle.cv_model.specs.Layers.{Contents, Features, Cells}
use Rattle.cv_store.specs.declared.room.Room.{Room}
use Rattle.cv_store.specs.declared.tally.Tally.{Tally}
use Rattle.cv_store.specs.Tallies.{tally_of, passes, exchange, IsPartOf, no_tally, vertex_tally, feature_tally}
use Rattle.cv_model.specs.declared.edit.Edit.TheVariants.{AddFeature, InsertFeature, RemoveFeature}
use Rattle.cv_model.specs.declared.edit.Edit.TheVariants.{SetGeometry, SetAttribute}
use Rattle.cv_store.specs.Data.{cause, is_full, HasRoom, answer_to}
use Rattle.cv_store.proofs.Openings.{insert_end}
use Rattle.cv_store.proofs.Lists.{got, at_position, at_within, lacks_position, any_lacks, any_found, find_at, change_at}
use Rattle.cv_store.proofs.Kept.{length_insert}
use Rattle.cv_store.proofs.Limits.{part_passes, in_limits}

abbrev pub feature_id : Feature → ℕ
feature_id feature = feature.id

abbrev pub value_count : Feature → ℕ
value_count feature = length feature.values

-- ---- tests

or_same : (a b : Bool) → b ≡ false → (a || b) ≡ a
or_same true b h = refl
or_same false b h = h

-- ---- counts

shrunk : (s t u : ℕ) → t ≤ s → u ≤ t → s - t + u ≤ s
shrunk s t u h g = omega (arith, h, g)

grown : (s t u n : ℕ) → t ≤ s → u ≡ t + n → s - t + u ≡ s - 0 + n
grown s t u n h g = omega (arith, h, g)

turned : (s t u m n : ℕ) → t ≤ s → m ≤ t → u + m ≡ t + n → s - t + u ≡ s - m + n
turned s t u m n h k g = omega (arith, h, k, g)

same_count : (s t u : ℕ) → t ≤ s → u ≡ t → s - t + u ≡ s - 0 + 0
same_count s t u h g = omega (arith, h, g)

-- a count that stops at a bound passes a lesser one where the count itself does
held_above : (most bound a n : ℕ) → most < bound → nat_lt most (a + min n bound) ≡ nat_lt most (a + n)
held_above most bound a n h = by (nat_le n bound) refl
  where
    by : (b : Bool) → nat_le n bound ≡ b → nat_lt most (a + min n bound) ≡ nat_lt most (a + n)
    by true e =
        let le : n ≤ bound = grind (arith, nat_tests, e) in ap (λ k. nat_lt most (a + k)) (min-eq_left le)
    by false e =
        let le : bound ≤ n = grind (arith, nat_tests, e) in
        let l : nat_lt most (a + bound) ≡ true = grind (arith, nat_tests, h) in
        let r : nat_lt most (a + n) ≡ true = grind (arith, nat_tests, h, le) in
        ap (λ k. nat_lt most (a + k)) (min-eq_right le) ∙ l ∙ sym r

pub vertices_above : (a n : ℕ) → nat_lt 4000000 (a + counted n) ≡ nat_lt 4000000 (a + n)
vertices_above a n = held_above 4000000 18446744073709551615 a n (omega arith)

pub values_above : (a n : ℕ) → nat_lt 16000000 (a + counted n) ≡ nat_lt 16000000 (a + n)
values_above a n = held_above 16000000 18446744073709551615 a n (omega arith)

pub passes_alike : (a b : Tally) → a.features ≡ b.features → nat_lt 4000000 a.vertices ≡ nat_lt 4000000 b.vertices
    → nat_lt 16000000 a.values ≡ nat_lt 16000000 b.values → a.cells ≡ b.cells → passes a ≡ passes b
passes_alike a b f v w c =
    λ i. nat_lt 1000000 (f i) || (v i || (w i || nat_lt 64000000 (c i)))

-- contents that count no more pass no limit
pub no_more : (room : Room) (held later : Contents) → HasRoom room held
    → IsPartOf (tally_of later) (tally_of held) → is_full room held later ≡ room.spent
no_more room held later room_is less =
    let s = room.sums in
    let t = tally_of held in
    let u = tally_of later in
    or_same room.spent _ (part_passes (exchange s t u) s (record {
      features = shrunk s.features t.features u.features room_is.part.features less.features;
      vertices = shrunk s.vertices t.vertices u.vertices room_is.part.vertices less.vertices;
      values = shrunk s.values t.values u.values room_is.part.values less.values;
      cells = shrunk s.cells t.cells u.cells room_is.part.cells less.cells;
    }) room_is.within)

-- ---- features by their ids

module _ (columns : List (List ℕ)) (features : List Feature) (id : ℕ) where
  pub unknown_feature : position (is_feature id) features ≡ None → list_any (is_feature id) features ≡ false
  unknown_feature h = any_lacks feature_id id features (lacks_position feature_id id features h)

  pub known_feature : (n : ℕ) → position (is_feature id) features ≡ Some n
      → list_any (is_feature id) features ≡ true
  known_feature n h =
      let at = at_position feature_id id features n h in
      let found = got features n (at_within feature_id id features n at) in
      any_found feature_id id features ∙ ap is_some (find_at feature_id id features n found.0 at found.1)

  pub feature_within : (n : ℕ) → position (is_feature id) features ≡ Some n → n < length features
  feature_within n h = at_within feature_id id features n (at_position feature_id id features n h)

  pub any_position : list_any (is_feature id) features ≡ is_some (position (is_feature id) features)
  any_position = by (position (is_feature id) features) refl
    where
      by : (o : Option ℕ) → position (is_feature id) features ≡ o
          → list_any (is_feature id) features ≡ is_some (position (is_feature id) features)
      by None h = unknown_feature h ∙ sym (ap is_some h)
      by (Some n) h = known_feature n h ∙ sym (ap is_some h)

  -- what a change of one feature that keeps a count keeps
  pub sum_kept : (count : Feature → ℕ) (f : Feature → Feature) → ((x : Feature) → count (f x) ≡ count x)
      → sum_by count (change_feature id f features) ≡ sum_by count features
  sum_kept count f keeps = over features
    where
      one : (b : Bool) (x : Feature) → count (if b then f x else x) ≡ count x
      one true x = keeps x
      one false x = refl

      over : (xs : List Feature) → sum_by count (change_feature id f xs) ≡ sum_by count xs
      over [] = refl
      over (x ∷ xs) =
          sum_by-cons count (if is_feature id x then f x else x) (change_feature id f xs)
          ∙ (λ i. one (is_feature id x) x i + over xs i)
          ∙ sym (sum_by-cons count x xs)

-- ---- numbers that are equal, or aren't

pub differ : (a b : ℕ) → (a ≡ b → ⊥) → nat_eq a b ≡ false
differ a b h = by (nat_eq a b) refl
  where
    by : (t : Bool) → nat_eq a b ≡ t → nat_eq a b ≡ false
    by true e = absurd (h (grind (arith, nat_tests, e)))
    by false e = e

pub alike : (a b : ℕ) → a ≡ b → nat_eq a b ≡ true
alike a b h = grind (arith, nat_tests, h)

pub above : (a b : ℕ) → a < b → nat_lt a b ≡ true
above a b h = grind (arith, nat_tests, h)

pub not_above : (a b : ℕ) → b ≤ a → nat_lt a b ≡ false
not_above a b h = grind (arith, nat_tests, h)

-- ---- the room that each edit needs

one_more : {X : Type 0} (count : X → ℕ) (x : X) (ys xs : List X) → sum_by count ys ≤ sum_by count xs
    → sum_by count (x ∷ ys) ≤ sum_by count (x ∷ xs)
one_more count x ys xs h =
    let a = sum_by-cons count x ys in
    let b = sum_by-cons count x xs in
    omega (arith, a, b, h)

one_less : {X : Type 0} (count : X → ℕ) (x : X) (ys xs : List X) → sum_by count ys ≤ sum_by count xs
    → sum_by count ys ≤ sum_by count (x ∷ xs)
one_less count x ys xs h = let b = sum_by-cons count x xs in omega (arith, b, h)

filter_less : {X : Type 0} (p : X → Bool) (count : X → ℕ) (xs : List X)
    → sum_by count (filter p xs) ≤ sum_by count xs
filter_less p count [] = omega arith
filter_less p count (x ∷ xs) = by (p x) (filter_less p count xs)
  where
    by : (b : Bool) → sum_by count (filter p xs) ≤ sum_by count xs
        → sum_by count (cond b (x ∷ filter p xs) (filter p xs)) ≤ sum_by count (x ∷ xs)
    by true h = one_more count x (filter p xs) xs h
    by false h = one_less count x (filter p xs) xs h

filter_short : {X : Type 0} (p : X → Bool) (xs : List X) → length (filter p xs) ≤ length xs
filter_short p [] = omega arith
filter_short p (x ∷ xs) = by (p x) (filter_short p xs)
  where
    by : (b : Bool) → length (filter p xs) ≤ length xs
        → length (cond b (x ∷ filter p xs) (filter p xs)) ≤ suc (length xs)
    by true h = omega (arith, h)
    by false h = omega (arith, h)

from_eq : (a b : ℕ) → a ≡ b → a ≤ b
from_eq a b h = omega (arith, h)

module _ (room : Room) (columns : List (List ℕ)) (features : List Feature)
    (room_is : HasRoom room (Features columns features)) where
  abbrev held : Contents
  held = Features columns features

  pub inserted_full : (place : ℕ) (feature : Feature)
      → is_full room held (Features columns (insert features place feature))
      ≡ (room.spent || passes (exchange room.sums no_tally (feature_tally feature)))
  inserted_full place feature =
      let s = room.sums in
      let later = tally_of (Features columns (insert features place feature)) in
      let long : later.features ≡ length features + 1 =
      let l = length_insert features place feature in omega (arith, l) in
      let v = feature_vertices feature in
      let grows = grown s.vertices (count_vertices held) later.vertices v room_is.part.vertices
      (sum_by-insert feature_vertices features place feature) in
      ap (λ b. room.spent || b) (passes_alike (exchange s (tally_of held) later)
      (exchange s no_tally (feature_tally feature))
      (grown s.features (length features) later.features 1 room_is.part.features long)
      (ap (nat_lt 4000000) grows ∙ sym (vertices_above (s.vertices - 0) v))
      (ap (nat_lt 16000000) (grown s.values (count_values held) later.values (length feature.values) room_is.part.values
      (sum_by-insert value_count features place feature)))
      refl)

  pub removed_full : (id : ℕ) → is_full room held (Features columns (without_feature id features)) ≡ room.spent
  removed_full id = no_more room held (Features columns (without_feature id features)) room_is (record {
    features = filter_short _ features;
    vertices = filter_less _ feature_vertices features;
    values = filter_less _ value_count features;
    cells = omega arith;
  })

  pub attribute_full : (id : ℕ) (column value : List ℕ)
      → is_full room held (with_attribute id column value held) ≡ room.spent
  attribute_full id column value =
      let f : Feature → Feature = λ feature. record feature {
        values = (with_text columns column value feature.values);
      } in
      let keeps : (x : Feature) → value_count (f x) ≡ value_count x = λ x. text_count (position (bytes_eq column) columns)
      x.values in
      no_more room held (with_attribute id column value held) room_is (record {
        features = from_eq _ _ (length-map features _);
        vertices = from_eq _ _ (sum_kept columns features id feature_vertices f (λ x. refl));
        values = from_eq _ _ (sum_kept columns features id value_count f keeps);
        cells = omega arith;
      })
    where
      text_count : (o : Option ℕ) (values : List (List ℕ))
          → length (option_map_or (λ k. set values k value) o values) ≡ length values
      text_count None values = refl
      text_count (Some k) values = length-set values k value

  -- the answers, test by test
  pub inserted_by : (place : ℕ) (feature : Feature) {d l p : Bool} → list_any (is_feature feature.id) features ≡ d
      → is_full room held (Features columns (insert features place feature)) ≡ l
      → (nat_lt (length features) place || is_uneven feature held) ≡ p
      → answer_to room held (InsertFeature 0 place feature) ≡ cause false false d l p
  inserted_by place feature d l p = λ i. cause false false (d i) (l i) (p i)

  pub added_as : (place : ℕ) (feature : Feature) → place ≡ length features
      → answer_to room held (InsertFeature 0 place feature) ≡ answer_to room held (AddFeature 0 feature)
  added_as place feature h =
      ap (λ n. answer_to room held (InsertFeature 0 n feature)) h
      ∙ (λ i. cause false false (has_feature feature.id held)
      (is_full room held (Features columns (insert_end features feature i)))
      (not_below (length features) i || is_uneven feature held))
    where
      not_below : (n : ℕ) → nat_lt n n ≡ false
      not_below n = grind (arith, nat_tests)

  pub removed_by : (id : ℕ) {b l : Bool} → list_any (is_feature id) features ≡ b
      → is_full room held (Features columns (without_feature id features)) ≡ l
      → answer_to room held (RemoveFeature 0 id) ≡ cause (not b) false false l false
  removed_by id b l = λ i. cause (not (b i)) false false (l i) false

  pub geometry_by : (id : ℕ) (geometry : Option GeometryLists) {b l : Bool}
      → list_any (is_feature id) features ≡ b
      → is_full room held (Features columns (change_feature id (λ feature. record feature { geometry = geometry })
      features)) ≡ l
      → answer_to room held (SetGeometry 0 id geometry) ≡ cause (not b) false false l false
  geometry_by id geometry b l = λ i. cause (not (b i)) false false (l i) false

  pub attribute_by : (id : ℕ) (column value : List ℕ) {b l p : Bool} → list_any (is_feature id) features ≡ b
      → is_full room held (with_attribute id column value held) ≡ l
      → is_none (position (bytes_eq column) columns) ≡ p
      → answer_to room held (SetAttribute 0 id column value) ≡ cause (not b) false false l p
  attribute_by id column value b l p = λ i. cause (not (b i)) false false (l i) (p i)

  -- one feature's geometry
  module _ (id n : ℕ) (row : Feature) (place : position (is_feature id) features ≡ Some n)
      (here : slice_get features n ≡ Some row) (distinct : IsDistinct nat_eq (map feature_id features)) where
    old_part : feature_vertices row ≤ sum_by feature_vertices features
    old_part = rw (get_or_from_slice_get features n row row here) at
        (get_or-le-sum_by feature_vertices features n row (slice_get_within features n row here))

    old_bound : feature_vertices row ≤ 4000000
    old_bound =
        let a = old_part in
        let b = room_is.part.vertices in
        let c = (in_limits room.sums room_is.within).vertices in
        chain (feature_vertices row) (sum_by feature_vertices features) room.sums.vertices 4000000 a b c
      where
        chain : (a b c d : ℕ) → a ≤ b → b ≤ c → c ≤ d → a ≤ d
        chain a b c d h k l = omega (arith, h, k, l)

    exact : counted (feature_vertices row) ≡ feature_vertices row
    exact = min-eq_left (let b = old_bound in small (feature_vertices row) 4000000 18446744073709551615 b (omega arith))
      where
        small : (a b c : ℕ) → a ≤ b → b ≤ c → a ≤ c
        small a b c h k = omega (arith, h, k)

    pub geometry_part : IsPartOf (vertex_tally (feature_vertices row)) room.sums
    geometry_part = record {
      features = omega arith;
      vertices = subst (λ k. k ≤ room.sums.vertices) (sym exact) (both _ _ _ old_part room_is.part.vertices);
      values = omega arith;
      cells = omega arith;
    }
      where
        both : (a b c : ℕ) → a ≤ b → b ≤ c → a ≤ c
        both a b c h k = omega (arith, h, k)

    pub geometry_full : (geometry : Option GeometryLists)
        → is_full room held (Features columns (change_feature id (λ feature. record feature { geometry = geometry }) features))
        ≡ (room.spent || passes (exchange room.sums (vertex_tally (feature_vertices row))
        (vertex_tally (option_map_or vertices_of geometry 0))))
    geometry_full geometry =
        let s = room.sums in
        let f : Feature → Feature = λ feature. record feature { geometry = geometry } in
        let later = tally_of (Features columns (change_feature id f features)) in
        let v = option_map_or vertices_of geometry 0 in
        let within = slice_get_within features n row here in
        let new = ap (sum_by feature_vertices) (change_at feature_id id f features n row distinct
        (at_position feature_id id features n place) here) in
        let swapped = sum_by-set feature_vertices features n (f row) row within in
        let old = ap feature_vertices (get_or_from_slice_get features n row row here) in
        let turn : later.vertices + feature_vertices row ≡ sum_by feature_vertices features + v =
        omega (arith, new, swapped, old) in
        let moves = turned s.vertices (count_vertices held) later.vertices (feature_vertices row) v
        room_is.part.vertices old_part turn in
        ap (λ b. room.spent || b) (passes_alike (exchange s (tally_of held) later)
        (exchange s (vertex_tally (feature_vertices row)) (vertex_tally v))
        (same_count s.features (length features) later.features room_is.part.features (length-map features _))
        (ap (nat_lt 4000000) (moves ∙ ap (λ k. s.vertices - k + v) (sym exact))
        ∙ sym (vertices_above (s.vertices - counted (feature_vertices row)) v))
        (ap (nat_lt 16000000) (same_count s.values (count_values held) later.values room_is.part.values
        (sum_kept columns features id value_count f (λ x. refl))))
        refl)

pub cell_full : (room : Room) (grid : CellGrid) (place : ℕ) (cell : Cell) → HasRoom room (Cells grid)
    → is_full room (Cells grid) (Cells (record grid { cells = (set grid.cells place cell) })) ≡ room.spent
cell_full room grid place cell room_is = no_more room (Cells grid) (Cells (record grid {
  cells = (set grid.cells place cell);
})) room_is (record {
  features = omega arith;
  vertices = omega arith;
  values = omega arith;
  cells = from_eq _ _ (length-set grid.cells place cell);
})
