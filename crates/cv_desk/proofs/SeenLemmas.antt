-- What a change of a table is in the state that is computed of it.
use Rattle.std.proofs.Common.{◌≡◌, ◌∙◌, sym, ap, refl, ℕ, zero, suc, ◌==◌, Bool, true, false, List, [], ◌∷◌, ◌++◌, map, find, take}
use Rattle.std.proofs.Common.{Option, Some, None, option_map, option_to_list, slice_get, is_some, if◌then◌else◌, cond}
use Rattle.std.proofs.Common.{subst, ◌&&◌, IsSomeAnd, arith}
use Rattle.std.proofs.lemmas.Bool.Decides.{nat_tests}
use Rattle.std.proofs.lemmas.List.{map-append}
use Rattle.std.proofs.lemmas.Option.{slice_get-map}
use Rattle.cv_model.specs.declared.edit.Edit.{Edit}
use Rattle.cv_model.specs.Paintings.{Painting}
use Rattle.cv_model.specs.Views.{PixelGrid, IsView}
use Rattle.cv_store.specs.Stores.{StoreParts, project_of}
use Rattle.cv_cache.specs.Caches.{painted_id, is_of as is_painting, drop_first as drop_painting, to_front as paintings_front, put_front as paintings_put}
use Rattle.cv_event.specs.declared.entry.How.{How}
use Rattle.cv_event.specs.declared.entry.How.TheVariants.{Cancelled}
use Rattle.cv_event.specs.declared.slot.Standing.{Standing}
use Rattle.cv_event.specs.States.{Job, Cached, Canvas, change_at, job_in, change_job, is_of, drop_first, to_front, put_front}
use Rattle.cv_event.specs.States.{job_edited, slot_edited, with_end, cancelled_on, new_job, stands_at, composed_by, canvas_viewed, keeps_cache}
use Rattle.cv_event.specs.States.{with_cache, served, stored, publishes}
use Rattle.cv_tables.specs.Rows.{Row, job_of, row_in, change_row, row_stands, row_composed, row_ended, row_cancelled}
use Rattle.cv_tables.specs.Rows.{row_edited, slots_edited, new_row}
use Rattle.cv_tables.specs.Tabs.{Tab, cached_of, canvas_of, tab_viewed, tab_served, tab_stored, tab_publishes}

-- ---- jobs

-- a change of one item, seen
pub map_changed : {A B : Type 0} (g : A → B) (f : A → A) (h : B → B) → ((x : A) → g (f x) ≡ h (g x)) → (xs : List A) (i : ℕ)
    → map g (change_at i f xs) ≡ change_at i h (map g xs)
map_changed g f h same [] i = refl
map_changed g f h same (x ∷ xs) zero = ap (λ y. y ∷ map g xs) (same x)
map_changed g f h same (x ∷ xs) (suc i) = ap (λ l. g x ∷ l) (map_changed g f h same xs i)

pub map_all : {A B : Type 0} (g : A → B) (f : A → A) (h : B → B) → ((x : A) → g (f x) ≡ h (g x)) → (xs : List A)
    → map g (map f xs) ≡ map h (map g xs)
map_all g f h same [] = refl
map_all g f h same (x ∷ xs) = λ i. same x i ∷ map_all g f h same xs i

pub jobs_changed : (f : Row → Row) (h : Job → Job) → ((row : Row) → job_of (f row) ≡ h (job_of row)) → (rows : List Row) (j : ℕ)
    → map job_of (change_row j f rows) ≡ change_job j h (map job_of rows)
jobs_changed f h same rows zero = refl
jobs_changed f h same rows (suc at) = map_changed job_of f h same rows at

pub jobs_ended : (how : How) (rows : List Row) (j : ℕ)
    → map job_of (change_row j (row_ended how) rows) ≡ change_job j (with_end how) (map job_of rows)
jobs_ended how rows j = jobs_changed (row_ended how) (with_end how) (λ row. refl) rows j

pub jobs_composed : (who : ℕ) (rows : List Row) (j : ℕ)
    → map job_of (change_row j (row_composed who) rows) ≡ change_job j (composed_by who) (map job_of rows)
jobs_composed who rows j = jobs_changed (row_composed who) (composed_by who) (λ row. refl) rows j

pub jobs_stand : (at : ℕ) (standing : Standing) (rows : List Row) (j : ℕ)
    → map job_of (change_row j (row_stands at standing) rows) ≡ change_job j (stands_at at standing) (map job_of rows)
jobs_stand at standing rows j = jobs_changed (row_stands at standing) (stands_at at standing) (λ row. refl) rows j

job_edited_seen : (e : Edit) (row : Row) → job_of (row_edited e row) ≡ job_edited e (job_of row)
job_edited_seen e row = by row.ended
  where
    by : (o : Option How) → job_of (if is_some o then row else record row { slots = (slots_edited row.store e row.slots) })
        ≡ (if is_some o then job_of row else record (job_of row) { slots = (map (slot_edited (project_of row.store) e) row.slots) })
    by None = refl
    by (Some how) = refl

pub jobs_edited : (e : Edit) (rows : List Row) → map job_of (map (row_edited e) rows) ≡ map (job_edited e) (map job_of rows)
jobs_edited e rows = map_all job_of (row_edited e) (job_edited e) (job_edited_seen e) rows

cancelled_seen : (c : ℕ) (row : Row) → job_of (row_cancelled c row) ≡ cancelled_on c (job_of row)
cancelled_seen c row = by (row.canvas == c)
  where
    by : (b : Bool) → job_of (if b then row_ended Cancelled row else row) ≡ (if b then with_end Cancelled (job_of row) else job_of row)
    by true = refl
    by false = refl

pub jobs_started : (c : ℕ) (store : StoreParts) (view : PixelGrid) (rows : List Row)
    → map job_of (map (row_cancelled c) rows ++ new_row c store view ∷ [])
    ≡ map (cancelled_on c) (map job_of rows) ++ new_job c (project_of store) view ∷ []
jobs_started c store view rows =
    map-append job_of (map (row_cancelled c) rows) (new_row c store view ∷ [])
    ∙ ap (λ l. l ++ new_job c (project_of store) view ∷ []) (map_all job_of (row_cancelled c) (cancelled_on c) (cancelled_seen c) rows)

pub job_seen : (rows : List Row) (j : ℕ) → job_in (map job_of rows) j ≡ option_map job_of (row_in rows j)
job_seen rows zero = refl
job_seen rows (suc at) = by rows at
  where
    by : (rows : List Row) (at : ℕ) → slice_get (map job_of rows) at ≡ option_map job_of (slice_get rows at)
    by [] at = refl
    by (x ∷ xs) zero = refl
    by (x ∷ xs) (suc at) = by xs at

-- ---- canvases

found_seen : (layer : ℕ) (ps : List Painting) → find (is_of layer) (map cached_of ps) ≡ option_map cached_of (find (is_painting
    layer) ps)
found_seen layer [] = refl
found_seen layer (p ∷ ps) = by (is_painting layer p) (found_seen layer ps)
  where
    by : (b : Bool) → find (is_of layer) (map cached_of ps) ≡ option_map cached_of (find (is_painting layer) ps)
        → cond b (Some (cached_of p)) (find (is_of layer) (map cached_of ps)) ≡ option_map cached_of (cond b (Some p) (find
        (is_painting layer) ps))
    by true rest = refl
    by false rest = rest

dropped_seen : (layer : ℕ) (ps : List Painting) → drop_first (is_of layer) (map cached_of ps) ≡ map cached_of (drop_painting
    (is_painting layer) ps)
dropped_seen layer [] = refl
dropped_seen layer (p ∷ ps) = by (is_painting layer p) (dropped_seen layer ps)
  where
    by : (b : Bool) → drop_first (is_of layer) (map cached_of ps) ≡ map cached_of (drop_painting (is_painting layer) ps)
        → (if b then map cached_of ps else cached_of p ∷ drop_first (is_of layer) (map cached_of ps))
        ≡ map cached_of (if b then ps else p ∷ drop_painting (is_painting layer) ps)
    by true rest = refl
    by false rest = ap (λ l. cached_of p ∷ l) rest

listed_seen : (o : Option Painting) → map cached_of (option_to_list o) ≡ option_to_list (option_map cached_of o)
listed_seen None = refl
listed_seen (Some p) = refl

front_seen : (layer : ℕ) (ps : List Painting) → map cached_of (paintings_front layer ps) ≡ to_front layer (map cached_of ps)
front_seen layer ps =
    map-append cached_of (option_to_list (find (is_painting layer) ps)) (drop_painting (is_painting layer) ps)
    ∙ (λ i. (listed_seen (find (is_painting layer) ps) ∙ ap option_to_list (sym (found_seen layer ps))) i
    ++ sym (dropped_seen layer ps) i)

take_seen : (n : ℕ) (ps : List Painting) → map cached_of (take n ps) ≡ take n (map cached_of ps)
take_seen zero ps = refl
take_seen (suc n) [] = refl
take_seen (suc n) (p ∷ ps) = ap (λ l. cached_of p ∷ l) (take_seen n ps)

put_seen : (n : ℕ) (p : Painting) (ps : List Painting) → map cached_of (paintings_put n p ps) ≡ put_front n (cached_of p) (map
    cached_of ps)
put_seen n p ps =
    take_seen n (p ∷ drop_painting (is_painting (painted_id p)) ps)
    ∙ ap (λ l. take n (cached_of p ∷ l)) (sym (dropped_seen (painted_id p) ps))

viewed_seen : (view : PixelGrid) (tab : Tab) → canvas_of (tab_viewed view tab) ≡ canvas_viewed view (canvas_of tab)
viewed_seen view tab = ap (λ l. record (canvas_of tab) { view = Some view; cache = l }) (by (keeps_cache tab.view view))
  where
    by : (b : Bool) → map cached_of (if b then tab.paintings else []) ≡ (if b then map cached_of tab.paintings else [])
    by true = refl
    by false = refl

pub canvases_viewed : (view : PixelGrid) (tabs : List Tab) (c : ℕ)
    → map canvas_of (change_at c (tab_viewed view) tabs) ≡ change_at c (canvas_viewed view) (map canvas_of tabs)
canvases_viewed view tabs c = map_changed canvas_of (tab_viewed view) (canvas_viewed view) (viewed_seen view) tabs c

pub canvases_served : (image : Cached) (tabs : List Tab) (c : ℕ)
    → map canvas_of (change_at c (tab_served image.layer) tabs) ≡ change_at c (with_cache (served image)) (map canvas_of tabs)
canvases_served image tabs c =
    map_changed canvas_of (tab_served image.layer) (with_cache (served image))
    (λ tab. ap (λ l. record (canvas_of tab) { cache = l }) (front_seen image.layer tab.paintings)) tabs c

pub canvases_stored : (p : Painting) (tabs : List Tab) (c : ℕ)
    → map canvas_of (change_at c (tab_stored p) tabs) ≡ change_at c (with_cache (stored (cached_of p))) (map canvas_of tabs)
canvases_stored p tabs c =
    map_changed canvas_of (tab_stored p) (with_cache (stored (cached_of p)))
    (λ tab. ap (λ l. record (canvas_of tab) { cache = l }) (put_seen tab.spec.capacity p tab.paintings)) tabs c

pub canvases_published : (j : ℕ) (row : Row) (tabs : List Tab) (c : ℕ)
    → map canvas_of (change_at c (tab_publishes j row) tabs) ≡ change_at c (publishes j (job_of row)) (map canvas_of tabs)
canvases_published j row tabs c =
    map_changed canvas_of (tab_publishes j row) (publishes j (job_of row)) (λ tab. refl) tabs c

-- ---- a view of a canvas's size

equal_by : (a b : ℕ) → (a == b) ≡ true → a ≡ b
equal_by a b h = grind (arith, nat_tests)

pub sized : (a b c d : ℕ) (x : Bool) → x ≡ ((a == b) && (c == d)) → x ≡ true → (a ≡ b) × (c ≡ d)
sized a b c d x is passed = by (a == b) (c == d) refl refl (sym passed ∙ is)
  where
    by : (p q : Bool) → (a == b) ≡ p → (c == d) ≡ q → true ≡ (p && q) → (a ≡ b) × (c ≡ d)
    by true true f s is = (equal_by a b f, equal_by c d s)
    by true false f s is = absurd cc
    by false q f s is = absurd cc

pub fits_there : (tabs : List Tab) (c : ℕ) (tab : Tab) (view : PixelGrid) → slice_get tabs c ≡ Some tab → IsView view
    → view.w ≡ tab.spec.w → view.h ≡ tab.spec.h
    → IsSomeAnd (slice_get (map canvas_of tabs) c) (λ k. IsView view × (view.w ≡ k.spec.w) × (view.h ≡ k.spec.h))
fits_there tabs c tab view there kept wide high =
    subst (λ (o : Option Canvas). IsSomeAnd o (λ k. IsView view × (view.w ≡ k.spec.w) × (view.h ≡ k.spec.h)))
    (sym (slice_get-map canvas_of tabs c ∙ ap (option_map canvas_of) there)) (kept, wide, high)
