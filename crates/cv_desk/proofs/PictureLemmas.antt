-- What is composed of a job is the picture of its project.
use Rattle.std.proofs.Common.{◌≡◌, ◌∙◌, sym, ap, refl, subst, ℕ, zero, suc, ◌+◌, ◌<◌, ◌==◌, nat_eq, Bool, true, false, cond, ◌||◌}
use Rattle.std.proofs.Common.{List, [], ◌∷◌, map, filter, find, reverse, Option, Some, None, option_map, slice_get, IsSomeAnd, length, arith, if◌then◌else◌}
use Rattle.std.specs.List.{AllByRecursion, IsDistinct, list_any, range_with_len}
use Rattle.std.proofs.lemmas.Bool.Decides.{nat_tests}
use Rattle.std.proofs.lemmas.List.{reverse-append}
use Rattle.cv_model.specs.Layers.{Layer, is_layer, is_slot, parts, parts_among, slots}
use Rattle.cv_model.specs.Paintings.{Painting, composed}
use Rattle.cv_model.specs.Pictures.{picture, picture_with}
use Rattle.cv_model.specs.Views.{PixelGrid}
use Rattle.cv_compose.specs.Laws.{IsPlaceOf, ArePlacesOf}
use Rattle.cv_compose.proofs.LawLemmas.{composes_listed_slots, composes_all_slots}
use Rattle.cv_store.specs.Stores.{StoreParts, RevisedLayer, layer_of, id_of, project_of, input_from, input_in}
use Rattle.cv_event.specs.declared.slot.Slot.{Slot}
use Rattle.cv_event.specs.Legality.{is_ready, ready_from}
use Rattle.cv_event.proofs.PresentLemmas.{all_more, all_filter}
use Rattle.cv_tables.specs.Rows.{Row, slot_layer, layer_id, painting_from, painting_of, painting_shown, compose_of, whole_of}
use Rattle.cv_desk.specs.Desks.{IsWhole}
use Rattle.cv_desk.specs.Laws.{IsSlotOf}

-- ---- a layer is found by its id

same_id : (n : ℕ) → (n == n) ≡ true
same_id n = grind (arith, nat_tests)

other_id : (a b : ℕ) → nat_eq a b ≡ false → (a == b) ≡ false
other_id a b h = grind (arith, nat_tests)

-- a layer is found among these layers by its id
abbrev IsFound : List Layer → Layer → Type 0
IsFound layers l = find (is_layer l.core.id) layers ≡ Some l

-- so it is behind a layer of another id
behind_other : (r : RevisedLayer) (layers : List Layer) (rest : List RevisedLayer)
    → AllByRecursion (λ k. nat_eq (id_of r) k ≡ false) (map id_of rest) → AllByRecursion (IsFound layers) (map layer_of rest)
    → AllByRecursion (IsFound (r.layer ∷ layers)) (map layer_of rest)
behind_other r layers [] other h = tt
behind_other r layers (x ∷ xs) other h = (
  ap (λ b. cond b (Some r.layer) (find (is_layer (id_of x)) layers)) (other_id (id_of r) (id_of x) other.0) ∙ h.0,
  behind_other r layers xs other.1 h.1,
)

each_found : (rows : List RevisedLayer) → IsDistinct nat_eq (map id_of rows) → AllByRecursion (IsFound (map layer_of rows)) (map layer_of rows)
unfolding IsDistinct
each_found [] apart = tt
each_found (r ∷ rest) apart = (
  ap (λ b. cond b (Some r.layer) (find (is_layer (id_of r)) (map layer_of rest))) (same_id (id_of r)),
  behind_other r (map layer_of rest) rest apart.0 (each_found rest apart.1),
)

all_reversed : {A : Type 0} (P : A → Type 0) (xs : List A) → AllByRecursion P xs → AllByRecursion P (reverse xs)
all_reversed P [] h = tt
all_reversed P (x ∷ xs) h =
    subst (AllByRecursion P) (sym (reverse-append (x ∷ []) xs))
    (all_more P (reverse xs) (x ∷ []) (all_reversed P xs h.1) (h.0, tt))

-- so each slot of a project is
slots_found : (store : StoreParts) (view : PixelGrid) → IsDistinct nat_eq (map id_of store.layers)
    → AllByRecursion (IsFound (project_of store).layers) (slots (project_of store) view)
slots_found store view apart =
    all_reversed (IsFound (project_of store).layers) (filter (is_slot view) (project_of store).layers)
    (all_filter (IsFound (project_of store).layers) (IsFound (project_of store).layers) (is_slot view) (λ l test h. h)
    (project_of store).layers (each_found store.layers apart))

-- ---- a slot's place

-- what a slot of this layer is painted from
abbrev painting_at : StoreParts → PixelGrid → Layer → Painting
painting_at store view l = painting_from view (input_from store (parts_among (project_of store).layers l.core))

slot_painting : (store : StoreParts) (view : PixelGrid) (l : Layer) (x : Slot) → x.layer ≡ l.core.id → IsFound (project_of store).layers l
    → painting_of store view x ≡ Some (painting_at store view l)
slot_painting store view l x same found =
    ap (λ id. option_map (painting_from view) (input_in store id)) same
    ∙ ap (λ (o : Option Layer). option_map (painting_from view) (option_map (input_from store)
    (option_map (parts_among (project_of store).layers) (option_map (λ (k : Layer). k.core) o)))) found

place_is : (store : StoreParts) (view : PixelGrid) (l : Layer) (x : Slot) (b : Bool) → x.layer ≡ l.core.id
    → IsFound (project_of store).layers l
    → IsPlaceOf (project_of store) view l b (if b then painting_of store view x else None)
place_is store view l x true same found =
    subst (λ o. IsPlaceOf (project_of store) view l true o) (sym (slot_painting store view l x same found)) (refl, refl)
place_is store view l x false same found = tt

first_of : (a b : ℕ) (xs ys : List ℕ) → a ∷ xs ≡ b ∷ ys → a ≡ b
first_of a b xs ys h = cc

rest_of : (a b : ℕ) (xs ys : List ℕ) → a ∷ xs ≡ b ∷ ys → xs ≡ ys
rest_of a b xs ys h = cc

places_shown : (store : StoreParts) (view : PixelGrid) (there : ℕ → Bool) (k : ℕ) (layers : List Layer) (xs : List Slot)
    → map slot_layer xs ≡ map layer_id layers → AllByRecursion (IsFound (project_of store).layers) layers
    → ((i : ℕ) (x : Slot) → slice_get xs i ≡ Some x → there (k + i) ≡ is_ready x.standing)
    → ArePlacesOf (project_of store) view there k layers (map (painting_shown store view) xs)
places_shown store view there k [] [] same found each = tt
places_shown store view there k [] (x ∷ xs) same found each = absurd cc
places_shown store view there k (l ∷ ls) [] same found each = absurd cc
places_shown store view there k (l ∷ ls) (x ∷ xs) same found each = (
  subst (λ b. IsPlaceOf (project_of store) view l b (painting_shown store view x)) (sym (ap there (none k) ∙ each zero x refl))
      (place_is store view l x (is_ready x.standing) (first_of x.layer l.core.id (map slot_layer xs) (map layer_id ls) same) found.0),
  places_shown store view there (k + 1) ls xs (rest_of x.layer l.core.id (map slot_layer xs) (map layer_id ls) same) found.1
      (λ i y is. ap there (moved k i) ∙ each (suc i) y is),
)
  where
    none : (k : ℕ) → k ≡ k + 0
    none k = omega arith

    moved : (k i : ℕ) → (k + 1) + i ≡ k + suc i
    moved k i = omega arith

places_whole : (store : StoreParts) (view : PixelGrid) (k : ℕ) (layers : List Layer) (xs : List Slot)
    → map slot_layer xs ≡ map layer_id layers → AllByRecursion (IsFound (project_of store).layers) layers
    → ArePlacesOf (project_of store) view (λ n. true) k layers (map (painting_of store view) xs)
places_whole store view k [] [] same found = tt
places_whole store view k [] (x ∷ xs) same found = absurd cc
places_whole store view k (l ∷ ls) [] same found = absurd cc
places_whole store view k (l ∷ ls) (x ∷ xs) same found = (
  place_is store view l x true (first_of x.layer l.core.id (map slot_layer xs) (map layer_id ls) same) found.0,
  places_whole store view (k + 1) ls xs (rest_of x.layer l.core.id (map slot_layer xs) (map layer_id ls) same) found.1,
)

-- ---- the ready slots are those listed

below_all : (n m : ℕ) (xs : List Slot) → n < m → list_any (nat_eq n) (ready_from m xs) ≡ false
below_all n m [] less = refl
below_all n m (x ∷ xs) less = by (is_ready x.standing) (below_all n (suc m) xs (omega (arith, less)))
  where
    apart : (a b : ℕ) → a < b → nat_eq a b ≡ false
    apart a b h = grind (arith, nat_tests)

    by : (b : Bool) → list_any (nat_eq n) (ready_from (suc m) xs) ≡ false
        → list_any (nat_eq n) (if b then m ∷ ready_from (suc m) xs else ready_from (suc m) xs) ≡ false
    by true rest = ap (λ b. b || list_any (nat_eq n) (ready_from (suc m) xs)) (apart n m less) ∙ rest
    by false rest = rest

equal_id : (n : ℕ) → nat_eq n n ≡ true
equal_id n = grind (arith, nat_tests)

is_listed : (xs : List Slot) (k i : ℕ) (x : Slot) → slice_get xs i ≡ Some x → list_any (nat_eq (k + i)) (ready_from k xs) ≡ is_ready x.standing
is_listed [] k i x is = absurd cc
is_listed (y ∷ ys) k zero x is =
    let same : y ≡ x = cc in
    ap (λ n. list_any (nat_eq n) (ready_from k (y ∷ ys))) (none k) ∙ by (is_ready y.standing) refl ∙ ap (λ (s : Slot). is_ready s.standing) same
  where
    none : (k : ℕ) → k + 0 ≡ k
    none k = omega arith

    by : (b : Bool) → is_ready y.standing ≡ b
        → list_any (nat_eq k) (if b then k ∷ ready_from (suc k) ys else ready_from (suc k) ys) ≡ b
    by true is = ap (λ b. b || list_any (nat_eq k) (ready_from (suc k) ys)) (equal_id k)
    by false is = below_all k (suc k) ys (omega arith)
is_listed (y ∷ ys) k (suc i) x is =
    ap (λ n. list_any (nat_eq n) (ready_from k (y ∷ ys))) (moved k i)
    ∙ by (is_ready y.standing)
    ∙ is_listed ys (suc k) i x is
  where
    moved : (k i : ℕ) → k + suc i ≡ suc k + i
    moved k i = omega arith

    apart : (k i : ℕ) → nat_eq (suc k + i) k ≡ false
    apart k i = grind (arith, nat_tests)

    by : (b : Bool) → list_any (nat_eq (suc k + i)) (if b then k ∷ ready_from (suc k) ys else ready_from (suc k) ys)
        ≡ list_any (nat_eq (suc k + i)) (ready_from (suc k) ys)
    by true = ap (λ b. b || list_any (nat_eq (suc k + i)) (ready_from (suc k) ys)) (apart k i)
    by false = refl

from_zero : (i : ℕ) → 0 + i ≡ i
from_zero i = omega arith

-- all slots are listed
all_listed : (xs : List Slot) (k i : ℕ) (x : Slot) → slice_get xs i ≡ Some x
    → list_any (nat_eq (k + i)) (range_with_len k (length xs)) ≡ true
all_listed [] k i x is = absurd cc
all_listed (y ∷ ys) k zero x is = ap (λ b. b || list_any (nat_eq (k + 0)) (range_with_len (k + 1) (length ys))) (same k)
  where
    same : (k : ℕ) → nat_eq (k + 0) k ≡ true
    same k = grind (arith, nat_tests)
all_listed (y ∷ ys) k (suc i) x is =
    ap (λ n. list_any (nat_eq n) (range_with_len k (length (y ∷ ys)))) (moved k i)
    ∙ later (nat_eq (k + 1 + i) k) (all_listed ys (k + 1) i x is)
  where
    moved : (k i : ℕ) → k + suc i ≡ k + 1 + i
    moved k i = omega arith

    later : (b : Bool) → list_any (nat_eq (k + 1 + i)) (range_with_len (k + 1) (length ys)) ≡ true
        → (b || list_any (nat_eq (k + 1 + i)) (range_with_len (k + 1) (length ys))) ≡ true
    later true h = refl
    later false h = h

places_listed : (store : StoreParts) (view : PixelGrid) (there : ℕ → Bool) (k : ℕ) (layers : List Layer) (xs : List Slot)
    → map slot_layer xs ≡ map layer_id layers → AllByRecursion (IsFound (project_of store).layers) layers
    → ((i : ℕ) (x : Slot) → slice_get xs i ≡ Some x → there (k + i) ≡ true)
    → ArePlacesOf (project_of store) view there k layers (map (painting_of store view) xs)
places_listed store view there k [] [] same found each = tt
places_listed store view there k [] (x ∷ xs) same found each = absurd cc
places_listed store view there k (l ∷ ls) [] same found each = absurd cc
places_listed store view there k (l ∷ ls) (x ∷ xs) same found each = (
  subst (λ b. IsPlaceOf (project_of store) view l b (painting_of store view x)) (sym (ap there (none k) ∙ each zero x refl))
      (place_is store view l x true (first_of x.layer l.core.id (map slot_layer xs) (map layer_id ls) same) found.0),
  places_listed store view there (k + 1) ls xs (rest_of x.layer l.core.id (map slot_layer xs) (map layer_id ls) same) found.1
      (λ i y is. ap there (moved k i) ∙ each (suc i) y is),
)
  where
    none : (k : ℕ) → k ≡ k + 0
    none k = omega arith

    moved : (k i : ℕ) → k + 1 + i ≡ k + suc i
    moved k i = omega arith

-- ---- what is composed

pub ready_picture : (row : Row) → IsWhole row
    → composed (compose_of row) ≡ picture_with (project_of row.store) row.view (ready_from 0 row.slots)
ready_picture row whole =
    composes_listed_slots (project_of row.store) row.view (ready_from 0 row.slots) (map (painting_shown row.store row.view) row.slots)
    (places_shown row.store row.view (λ n. list_any (nat_eq n) (ready_from 0 row.slots)) 0 (slots (project_of row.store) row.view) row.slots
    whole.layers (slots_found row.store row.view whole.apart) (λ i x is. is_listed row.slots 0 i x is))

pub whole_picture : (row : Row) → IsWhole row → composed (whole_of row) ≡ picture (project_of row.store) row.view
whole_picture row whole =
    composes_all_slots (project_of row.store) row.view (map (painting_of row.store row.view) row.slots)
    (places_whole row.store row.view 0 (slots (project_of row.store) row.view) row.slots whole.layers
    (slots_found row.store row.view whole.apart))

pub listed_picture : (row : Row) → IsWhole row
    → composed (whole_of row) ≡ picture_with (project_of row.store) row.view (range_with_len 0 (length row.slots))
listed_picture row whole =
    composes_listed_slots (project_of row.store) row.view (range_with_len 0 (length row.slots)) (map (painting_of row.store row.view) row.slots)
    (places_listed row.store row.view (λ n. list_any (nat_eq n) (range_with_len 0 (length row.slots))) 0
    (slots (project_of row.store) row.view) row.slots whole.layers (slots_found row.store row.view whole.apart)
    (λ i x is. all_listed row.slots 0 i x is))

-- ---- each slot

each_slot : (row : Row) (layers : List Layer) (xs : List Slot) → map slot_layer xs ≡ map layer_id layers
    → AllByRecursion (IsFound (project_of row.store).layers) layers → AllByRecursion (IsSlotOf row) xs
each_slot row [] [] same found = tt
each_slot row [] (x ∷ xs) same found = absurd cc
each_slot row (l ∷ ls) [] same found = tt
each_slot row (l ∷ ls) (x ∷ xs) same found =
    let id = first_of x.layer l.core.id (map slot_layer xs) (map layer_id ls) same in
    let is = slot_painting row.store row.view l x id found.0 in
    let there : parts (project_of row.store) x.layer ≡ Some (parts_among (project_of row.store).layers l.core) =
    ap (parts (project_of row.store)) id
    ∙ ap (λ (o : Option Layer). option_map (parts_among (project_of row.store).layers) (option_map (λ (k : Layer). k.core) o)) found.0 in (
      subst (λ o. IsSomeAnd o (λ (p : Painting). (parts (project_of row.store) x.layer ≡ Some p.input.parts) × (p.view ≡ row.view))) (sym is) (there, refl),
      each_slot row ls xs (rest_of x.layer l.core.id (map slot_layer xs) (map layer_id ls) same) found.1,
    )

pub slots_are : (row : Row) → IsWhole row → AllByRecursion (IsSlotOf row) row.slots
slots_are row whole =
    each_slot row (slots (project_of row.store) row.view) row.slots whole.layers (slots_found row.store row.view whole.apart)
