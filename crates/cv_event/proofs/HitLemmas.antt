-- What a look hits was painted of what its job would paint.
use Rattle.std.proofs.Common.{◌≡◌, ◌∙◌, sym, ap, refl, ℕ, suc, ◌==◌, Bool, true, false, not, ◌||◌}
use Rattle.std.proofs.Common.{List, [], ◌∷◌, Option, Some, None, slice_get, IsSomeAnd, fold, subst, arith}
use Rattle.std.specs.List.{AllByRecursion, list_any}
use Rattle.std.specs.Option.{option_map_or}
use Rattle.std.proofs.lemmas.Bool.Decides.{nat_tests}
use Rattle.std.proofs.lemmas.Bool.{false≢true}
use Rattle.cv_model.specs.Views.{PixelGrid}
use Rattle.cv_model.specs.Layers.{parts}
use Rattle.cv_event.specs.declared.entry.Act.TheVariants as act
use Rattle.cv_event.specs.declared.entry.Entry.{Entry}
use Rattle.cv_event.specs.declared.slot.Slot.{Slot}
use Rattle.cv_event.specs.States.{Job, Cached, Canvas, State, job_in, after, begin, replay}
use Rattle.cv_event.specs.Legality.{OfSlot, is_open, is_view, shows, is_fresh, is_image, hits_on, Allows}
use Rattle.cv_event.specs.Histories.{cached, IsPainted}
use Rattle.cv_event.specs.ViewLaws.{IsServed, HitsAreAlike}
use Rattle.cv_event.proofs.PresentLemmas.{all_at, IsFreshSlot, IsFreshJob, AllFresh, fresh_one, not_touched, both_true}
use Rattle.cv_event.proofs.PresentLemmas.{job_of}
use Rattle.cv_event.proofs.PaintedLemmas.{cached_images_are_present}
use Rattle.cv_event.proofs.DueLemmas.{looks_are_of_live_jobs}
use Rattle.cv_event.proofs.PanLemmas.{view_same}

-- ---- the image that is hit

record Found (P : Cached → Type 0) (layer : ℕ) (view : PixelGrid) (cache : List Cached) : Type 0 where
  place : ℕ
  image : Cached
  image_is : slice_get cache place ≡ Some image
  layer_is : image.layer ≡ layer
  view_is : image.view ≡ view
  holds : P image

found_in : (P : Cached → Type 0) (layer : ℕ) (view : PixelGrid) (cache : List Cached) → AllByRecursion P cache
    → list_any (is_image layer view) cache ≡ true → Found P layer view cache
found_in P layer view [] h any = absurd (false≢true any)
found_in P layer view (x ∷ xs) h any = by (is_image layer view x) refl any (found_in P layer view xs h.1)
  where
    by : (b : Bool) → is_image layer view x ≡ b → (b || list_any (is_image layer view) xs) ≡ true
        → (list_any (is_image layer view) xs ≡ true → Found P layer view xs) → Found P layer view (x ∷ xs)
    by true is any others =
        let both = both_true (x.layer == layer) (is_view view x.view) is in
        let first = both.0 in
        let number : x.layer ≡ layer = grind (arith, nat_tests) in
        record {
          place = 0;
          image = x;
          image_is = refl;
          layer_is = number;
          view_is = sym (view_same view x.view both.1);
          holds = h.0;
        }
    by false is any others = more (others any)
      where
        more : Found P layer view xs → Found P layer view (x ∷ xs)
        more r = record {
          place = suc r.place;
          image = r.image;
          image_is = r.image_is;
          layer_is = r.layer_is;
          view_is = r.view_is;
          holds = r.holds;
        }

-- ---- a hit

fresh_more : (s : State) (rest : List Entry) → AllFresh s → AllFresh (fold after s rest)
fresh_more s [] h = h
fresh_more s (entry ∷ rest) h = fresh_more (after s entry) rest (fresh_one s entry.caller entry.act h)

-- the job of a look has no end
look_live : (s : State) (who j at : ℕ) (job : Job) (slot : Slot) → Allows s who (act.Look j at true)
    → job_in s.jobs j ≡ Some job → slice_get job.slots at ≡ Some slot → job.ended ≡ None
look_live s who j at job slot allowed there is =
    let of_job = subst (λ o. IsSomeAnd o (λ (job : Job). IsSomeAnd (slice_get job.slots at) (λ (slot : Slot).
    (job.ended ≡ None) × (is_open slot.standing ≡ true)))) there (looks_are_of_live_jobs s j at allowed.0) in
    let of_slot = subst (λ o. IsSomeAnd o (λ (slot : Slot). (job.ended ≡ None) × (is_open slot.standing ≡ true))) is
    of_job in
    of_slot.0

served : (s : State) (who j at : ℕ) → AllFresh s → ((c : ℕ) → AllByRecursion (IsPainted s c) (cached s c))
    → Allows s who (act.Look j at true) → OfSlot s j at (IsServed s)
served s who j at fresh painted allowed = of_job (job_in s.jobs j) refl (sym allowed.1)
  where
    on : (job : Job) (slot : Slot) → job_in s.jobs j ≡ Some job → slice_get job.slots at ≡ Some slot
        → (o : Option Canvas) → slice_get s.canvases job.canvas ≡ o
        → option_map_or (λ canvas. hits_on canvas job slot) o false ≡ true → IsServed s job slot
    on job slot there is None at_is h = absurd (false≢true h)
    on job slot there is (Some canvas) at_is h =
        let both = both_true (is_fresh canvas job slot) (list_any (is_image slot.layer job.view) canvas.cache) h in
        let untouched = not_touched slot.touched (both_true (shows canvas job.view) (not slot.touched) both.0).1 in
        let live = look_live s who j at job slot allowed there is in
        let slot_fresh = all_at (IsFreshSlot s.project job.project) job.slots at slot (job_of (IsFreshJob s.project)
        s.jobs j job fresh there live) is untouched in
        let cache_is : cached s job.canvas ≡ canvas.cache =
        ap (λ (o : Option Canvas). option_map_or (λ (k : Canvas). k.cache) o []) at_is in
        let found = found_in (IsPainted s job.canvas) slot.layer job.view (cached s job.canvas) (painted job.canvas)
        (ap (list_any (is_image slot.layer job.view)) cache_is ∙ both.1) in
        record {
          place = found.place;
          image = found.image;
          image_is = found.image_is;
          layer_is = found.layer_is;
          view_is = found.view_is;
          painted = found.holds;
          parts_are = ap (parts found.holds.job.project) (sym found.layer_is) ∙ found.holds.parts_are
              ∙ ap (parts s.project) found.layer_is ∙ sym slot_fresh;
        }

    of_slot : (job : Job) → job_in s.jobs j ≡ Some job → (o : Option Slot) → slice_get job.slots at ≡ o
        → option_map_or (λ slot. option_map_or (λ canvas. hits_on canvas job slot) (slice_get s.canvases job.canvas)
        false) o false ≡ true → IsSomeAnd o (IsServed s job)
    of_slot job there None is h = absurd (false≢true h)
    of_slot job there (Some slot) is h = on job slot there is (slice_get s.canvases job.canvas) refl h

    of_job : (o : Option Job) → job_in s.jobs j ≡ o
        → option_map_or (λ (job : Job). option_map_or (λ slot. option_map_or (λ canvas. hits_on canvas job slot)
        (slice_get s.canvases job.canvas) false) (slice_get job.slots at) false) o false ≡ true
        → IsSomeAnd o (λ job. IsSomeAnd (slice_get job.slots at) (IsServed s job))
    of_job None there h = absurd (false≢true h)
    of_job (Some job) there h = of_slot job there (slice_get job.slots at) refl h

pub hits_are_alike : HitsAreAlike
hits_are_alike o journal who j at legal allowed =
    served (replay o journal) who j at (fresh_more (begin o) journal tt)
    (λ c. cached_images_are_present o journal c legal) allowed
