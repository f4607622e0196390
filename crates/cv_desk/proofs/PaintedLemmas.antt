-- The painted layers in a canvas's cache, and those that a job's slots are painted from.
use Rattle.std.proofs.Common.{◌≡◌, ◌∙◌, sym, ap, refl, subst, ℕ, zero, suc, ◌==◌, nat_eq, Bool, true, false, ◌&&◌, ◌||◌}
use Rattle.std.proofs.Common.{cond, List, [], ◌∷◌, ◌++◌, map, find, take, Option, Some, None, slice_get, option_map, arith}
use Rattle.std.proofs.Common.{option_to_list, if◌then◌else◌}
use Rattle.std.specs.List.{AllByRecursion, IsDistinct, list_any}
use Rattle.std.specs.Option.{option_map_or}
use Rattle.std.proofs.lemmas.Bool.Decides.{nat_tests, Decides-int_eq}
use Rattle.std.proofs.lemmas.Bool.{eqb-true, false≢true}
use Rattle.cv_model.specs.Paintings.{Input, Painting, Stamp}
use Rattle.cv_model.specs.Views.{PixelGrid}
use Rattle.cv_store.specs.Stores.{StoreParts, input_in}
use Rattle.cv_cache.specs.Caches.{painted_id, is_of as is_painting, drop_first as drop_painting}
use Rattle.cv_cache.specs.Caches.{Serves}
use Rattle.cv_event.specs.declared.slot.Slot.{Slot}
use Rattle.cv_event.specs.States.{Canvas}
use Rattle.cv_event.specs.Legality.{is_view, is_image}
use Rattle.cv_event.specs.Histories.{cached}
use Rattle.cv_event.specs.ViewLaws.{layer_of}
use Rattle.cv_event.proofs.DistinctLemmas.{cached_layers_are_distinct}
use Rattle.cv_event.proofs.PanLemmas.{view_same}
use Rattle.cv_event.proofs.PresentLemmas.{all_at}
use Rattle.cv_tables.specs.Rows.{Row, row_in, input_of, painting_from, painting_of, WhileLive}
use Rattle.cv_tables.specs.Tabs.{Tab, Tables, cached_of, canvas_of, cache_of, tab_served, tab_stored}
use Rattle.cv_tables.proofs.RowLemmas.{input_id}
use Rattle.cv_desk.proofs.KeepingLemmas.{row_kept}
use Rattle.cv_desk.specs.Desks.{History, IsPresent, IsCurrent, IsFresh, AreFresh, Holds, IsDesk}

-- ---- lists

all_dropped : (P : Painting → Type 0) (test : Painting → Bool) (ps : List Painting) → AllByRecursion P ps
    → AllByRecursion P (drop_painting test ps)
all_dropped P test [] h = tt
all_dropped P test (p ∷ ps) h = by (test p) (all_dropped P test ps h.1)
  where
    by : (b : Bool) → AllByRecursion P (drop_painting test ps) → AllByRecursion P (if b then ps else p ∷ drop_painting test ps)
    by true rest = h.1
    by false rest = (h.0, rest)

all_taken : (P : Painting → Type 0) (n : ℕ) (ps : List Painting) → AllByRecursion P ps → AllByRecursion P (take n ps)
all_taken P zero ps h = tt
all_taken P (suc n) [] h = tt
all_taken P (suc n) (p ∷ ps) h = (h.0, all_taken P n ps h.1)

-- what is found passes the test, and has what all have
found_all : (P : Painting → Type 0) (test : Painting → Bool) (ps : List Painting) (p : Painting) → AllByRecursion P ps
    → find test ps ≡ Some p → P p × (test p ≡ true)
found_all P test [] p h is = absurd cc
found_all P test (x ∷ xs) p h is = by (test x) refl is (found_all P test xs p h.1)
  where
    by : (b : Bool) → test x ≡ b → cond b (Some x) (find test xs) ≡ Some p
        → (find test xs ≡ Some p → P p × (test p ≡ true)) → P p × (test p ≡ true)
    by true passes is rest =
        let same : x ≡ p = cc in
        (subst P same h.0, ap test (sym same) ∙ passes)
    by false passes is rest = rest is

-- ---- what a cache keeps

stored_current : (store : StoreParts) (p : Painting) (tab : Tab) → IsPresent store p → IsCurrent store tab
    → IsCurrent store (tab_stored p tab)
stored_current store p tab is was = record {
  present =
      all_taken (IsPresent store) tab.spec.capacity (p ∷ drop_painting (is_painting (painted_id p)) tab.paintings)
      (is, all_dropped (IsPresent store) (is_painting (painted_id p)) tab.paintings was.present);
  published = was.published;
}

pub stored_kept : (store : StoreParts) (p : Painting) → IsPresent store p → (tab : Tab) → IsCurrent store tab
    → IsCurrent store (tab_stored p tab)
stored_kept store p is tab was = stored_current store p tab is was

pub served_kept : (store : StoreParts) (layer : ℕ) (tab : Tab) → IsCurrent store tab → IsCurrent store (tab_served layer tab)
served_kept store layer tab was = record { present = by (find (is_painting layer) tab.paintings) refl; published = was.published }
  where
    rest : AllByRecursion (IsPresent store) (drop_painting (is_painting layer) tab.paintings)
    rest = all_dropped (IsPresent store) (is_painting layer) tab.paintings was.present

    by : (o : Option Painting) → find (is_painting layer) tab.paintings ≡ o
        → AllByRecursion (IsPresent store) (option_to_list o ++ drop_painting (is_painting layer) tab.paintings)
    by None is = rest
    by (Some p) is = ((found_all (IsPresent store) (is_painting layer) tab.paintings p was.present is).0, rest)

-- ---- a slot's painting

-- a slot of a job is painted so
pub record IsPainted (r : Row) (x : Slot) (p : Painting) : Type 0 where
  pub input : input_of r.store x ≡ Some p.input
  pub layer : painted_id p ≡ x.layer
  pub view : p.view ≡ r.view

pub painted : (r : Row) (x : Slot) (p : Painting) → painting_of r.store r.view x ≡ Some p → IsPainted r x p
painted r x p is = by (input_of r.store x) refl is
  where
    by : (o : Option Input) → input_of r.store x ≡ o → option_map (painting_from r.view) o ≡ Some p → IsPainted r x p
    by None there h = absurd cc
    by (Some i) there h =
        let same : painting_from r.view i ≡ p = cc in record {
          input = there ∙ ap (λ (q : Painting). Some q.input) same;
          layer = ap painted_id (sym same) ∙ input_id r.store x.layer i there;
          view = ap (λ (q : Painting). q.view) (sym same);
        }

-- the slot of a job without end is fresh
pub slot_fresh : (t : Tables) (spare j at : ℕ) (r : Row) (x : Slot) → Holds t spare → row_in t.rows j ≡ Some r → r.ended ≡ None
    → slice_get r.slots at ≡ Some x → IsFresh t.store r x
slot_fresh t spare j at r x kept there live is =
    let fresh = row_kept (AreFresh t.store) j t.rows r kept.slots there in
    all_at (IsFresh t.store r) r.slots at x (subst (λ o. WhileLive o (AllByRecursion (IsFresh t.store r) r.slots)) live fresh) is

-- the painting of an untouched slot is of the present project
pub painted_present : (store : StoreParts) (r : Row) (x : Slot) (p : Painting) → IsPainted r x p → IsFresh store r x
    → x.touched ≡ false → IsPresent store p
painted_present store r x p is fresh untouched = ap (input_in store) is.layer ∙ fresh untouched ∙ is.input

-- ---- what a look finds

-- what is found for an untouched slot is painted from the slot's input
pub found_input : (store : StoreParts) (r : Row) (x : Slot) (tab : Tab) (p : Painting) → IsCurrent store tab → IsFresh store r x
    → x.touched ≡ false → find (is_painting x.layer) tab.paintings ≡ Some p → input_of r.store x ≡ Some p.input
found_input store r x tab p current fresh untouched is =
    let q = found_all (IsPresent store) (is_painting x.layer) tab.paintings p current.present is in
    let layer : painted_id p ≡ x.layer = eqb-true (painted_id p) x.layer q.1 in
    sym (fresh untouched) ∙ ap (input_in store) (sym layer) ∙ q.0

-- and at the slot's view it is the slot's own painting
pub served_painting : (store : StoreParts) (r : Row) (x : Slot) (tab : Tab) (stamps : List Stamp) (p : Painting) → IsCurrent store tab
    → IsFresh store r x → x.touched ≡ false → Serves (cache_of tab) x.layer stamps r.view p
    → painting_of r.store r.view x ≡ Some p
served_painting store r x tab stamps p current fresh untouched serves =
    ap (option_map (painting_from r.view)) (found_input store r x tab p current fresh untouched serves.0)
    ∙ ap (λ v. Some (painting_from v p.input)) (sym serves.1.1)

view_itself : (v : PixelGrid) → is_view v v ≡ true
view_itself v =
    let u = (Decides-int_eq v.u v.u).1 refl in
    let left = (Decides-int_eq v.lx2 v.lx2).1 refl in
    let top = (Decides-int_eq v.ty2 v.ty2).1 refl in
    let w = nat_itself v.w in
    let h = nat_itself v.h in λ i. (u i && (w i && h i)) && (left i && top i)
  where
    nat_itself : (n : ℕ) → (n == n) ≡ true
    nat_itself n = grind (arith, nat_tests)

-- a painting of a layer at a view is found
pub found_any : (layer : ℕ) (view : PixelGrid) (ps : List Painting) (p : Painting) → find (is_painting layer) ps ≡ Some p
    → p.view ≡ view → list_any (is_image layer view) (map cached_of ps) ≡ true
found_any layer view [] p is same = absurd cc
found_any layer view (x ∷ xs) p is same = by (is_painting layer x) refl is (found_any layer view xs p)
  where
    either : (b : Bool) → (b || true) ≡ true
    either true = refl
    either false = refl

    by : (b : Bool) → is_painting layer x ≡ b → cond b (Some x) (find (is_painting layer) xs) ≡ Some p
        → (find (is_painting layer) xs ≡ Some p → p.view ≡ view → list_any (is_image layer view) (map cached_of xs) ≡ true)
        → ((is_painting layer x && is_view view x.view) || list_any (is_image layer view) (map cached_of xs)) ≡ true
    by true passes is rest =
        let here : x ≡ p = cc in
        let seen : is_view view x.view ≡ true = ap (is_view view) (ap (λ (q : Painting). q.view) here ∙ same) ∙ view_itself view in
        λ i. (passes i && seen i) || list_any (is_image layer view) (map cached_of xs)
    by false passes is rest =
        ap (λ b. (is_painting layer x && is_view view x.view) || b) (rest is same) ∙ either (is_painting layer x && is_view view x.view)

-- where no other painting is of a layer, none is at a view
other_none : (layer : ℕ) (view : PixelGrid) (ps : List Painting)
    → AllByRecursion (λ (id : ℕ). nat_eq layer id ≡ false) (map layer_of (map cached_of ps))
    → list_any (is_image layer view) (map cached_of ps) ≡ false
other_none layer view [] h = refl
other_none layer view (x ∷ xs) h =
    let other = differs layer (painted_id x) h.0 in
    ap (λ b. (b && is_view view x.view) || list_any (is_image layer view) (map cached_of xs)) other ∙ other_none layer view xs h.1
  where
    differs : (a b : ℕ) → nat_eq a b ≡ false → (b == a) ≡ false
    differs a b h = grind (arith, nat_tests)

-- the painting of a layer at a view is the first of that layer, where no two are of one
pub first_is : (layer : ℕ) (view : PixelGrid) (ps : List Painting) → IsDistinct nat_eq (map layer_of (map cached_of ps))
    → list_any (is_image layer view) (map cached_of ps) ≡ true
    → (p : Painting) × (find (is_painting layer) ps ≡ Some p) × (p.view ≡ view)
unfolding IsDistinct
first_is layer view [] apart any = absurd (false≢true any)
first_is layer view (x ∷ xs) apart any =
    by (is_painting layer x) refl (is_view view x.view) refl any (first_is layer view xs apart.1)
  where
    by : (b : Bool) → is_painting layer x ≡ b → (v : Bool) → is_view view x.view ≡ v
        → ((b && v) || list_any (is_image layer view) (map cached_of xs)) ≡ true
        → (list_any (is_image layer view) (map cached_of xs) ≡ true
        → (p : Painting) × (find (is_painting layer) xs ≡ Some p) × (p.view ≡ view))
        → (p : Painting) × (cond b (Some x) (find (is_painting layer) xs) ≡ Some p) × (p.view ≡ view)
    by true passes true seen any rest = (x, refl, sym (view_same view x.view seen))
    by true passes false seen any rest =
        let layer_is : painted_id x ≡ layer = eqb-true (painted_id x) layer passes in
        let none = other_none layer view xs (subst (λ n. AllByRecursion (λ (id : ℕ). nat_eq n id ≡ false) (map layer_of (map cached_of xs))) layer_is apart.0) in
        absurd (false≢true (sym none ∙ any))
    by false passes v seen any rest = rest any

-- no two paintings in a canvas's cache are of one layer
pub layers_apart : (h : History) (c : ℕ) (tab : Tab) → IsDesk h → slice_get h.tables.tabs c ≡ Some tab
    → IsDistinct nat_eq (map layer_of (map cached_of tab.paintings))
layers_apart h c tab kept there =
    let all = (cached_layers_are_distinct h.opening h.journal c).0 in
    let here = subst (λ s. IsDistinct nat_eq (map layer_of (cached s c))) kept.shows all in
    subst (λ (o : Option Canvas). IsDistinct nat_eq (map layer_of (option_map_or (λ (k : Canvas). k.cache) o [])))
    (seen h.tables.tabs c ∙ ap (option_map canvas_of) there) here
  where
    seen : (tabs : List Tab) (c : ℕ) → slice_get (map canvas_of tabs) c ≡ option_map canvas_of (slice_get tabs c)
    seen [] c = refl
    seen (x ∷ xs) zero = refl
    seen (x ∷ xs) (suc c) = seen xs c
