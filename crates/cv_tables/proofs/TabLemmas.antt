-- Canvases by number, and what a look finds.
use Rattle.std.proofs.Common.{◌≡◌, sym, subst, ℕ, ◌<◌, ◌≤◌, List, length, Result, Ok, Err}
use Rattle.std.proofs.Common.{Option, Some, None, slice_index_or, slice_set, IfOk, OnOk, IsSomeAnd}
use Rattle.cv_model.specs.Paintings.{Painting, Stamp}
use Rattle.cv_model.specs.Views.{PixelGrid}
use Rattle.cv_cache.specs.Caches.{Serves}
use Rattle.cv_tables.specs.Tabs.{Tab, cache_of, tab_served, TabLook, TabServes, TabLooked}
use Rattle.cv_tables.proofs.ListLemmas.{changed, same_set, got, past}

pub far : {A : Type 0} (inside seen : List A) (n at : ℕ) → inside ≡ seen → n ≡ length inside → n ≤ at → length seen ≤ at
far inside seen n at same is h = subst (λ l. length l ≤ at) same (subst (λ k. k ≤ at) is h)

pub on_ok : {A E : Type 0} (r : Result A E) (P Q : Type 0) → (P → Q) → OnOk r P → OnOk r Q
on_ok (Ok a) P Q f h = f h
on_ok (Err e) P Q f h = h

pub near : {A : Type 0} (xs : List A) (n at : ℕ) → n ≡ length xs → at < n → at < length xs
near xs n at is h = subst (λ k. at < k) is h

-- nothing is served past the end
pub none_past : (tabs : List Tab) (c layer : ℕ) (stamps : List Stamp) (view : PixelGrid) → length tabs ≤ c → (p : Painting)
    → TabServes tabs c layer stamps view p → ⊥
none_past tabs c layer stamps view h p serves =
    subst (λ o. IsSomeAnd o (λ (tab : Tab). Serves (cache_of tab) layer stamps view p)) (past tabs c h) serves

-- a look at a canvas is one at the canvases
pub looked_on : {E : Type 0} (tabs : List Tab) (c : ℕ) (tab new : Tab) (layer : ℕ) (stamps : List Stamp) (view : PixelGrid)
    (r : Result (Option Painting) E) → c < length tabs → tab ≡ slice_index_or tabs c tab
    → IfOk r (TabLook tab new layer stamps view) → IfOk r (TabLooked tabs (slice_set tabs c new) c layer stamps view)
looked_on tabs c tab new layer stamps view (Err e) h at looked = looked
looked_on tabs c tab new layer stamps view (Ok None) h at looked = (
  λ p serves. looked.0 p (subst (λ o. IsSomeAnd o (λ (t : Tab). Serves (cache_of t) layer stamps view p)) (got tabs c tab h at) serves),
  same_set tabs c tab new at looked.1,
)
looked_on tabs c tab new layer stamps view (Ok (Some p)) h at looked = (
  subst (λ o. IsSomeAnd o (λ (t : Tab). Serves (cache_of t) layer stamps view p)) (sym (got tabs c tab h at)) looked.0,
  changed (tab_served layer) tabs c tab new at looked.1,
)
