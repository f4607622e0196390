-- A canvas's cache: what each act makes of it, and that its images are of the present parts.
use Rattle.std.proofs.Common.{◌≡◌, ◌∙◌, sym, ap, refl, ℕ, zero, suc, ◌==◌, Bool, true, false}
use Rattle.std.proofs.Common.{List, [], ◌∷◌, map, filter, Option, Some, None, slice_get}
use Rattle.std.proofs.Common.{option_map, option_and_then}
use Rattle.std.proofs.Common.{if◌then◌else◌}
use Rattle.std.specs.Option.{option_map_or}
use Rattle.cv_model.specs.declared.edit.Edit.{Edit}
use Rattle.cv_model.specs.declared.edit.EditError.{EditError}
use Rattle.cv_model.specs.Views.{PixelGrid}
use Rattle.cv_model.specs.Layers.{Project}
use Rattle.cv_event.specs.declared.entry.Act.TheVariants as act
use Rattle.cv_event.specs.declared.entry.Fate.{Fate}
use Rattle.cv_event.specs.declared.entry.Fate.TheVariants.{Stored, Kept, Dropped}
use Rattle.cv_event.specs.declared.slot.Slot.{Slot}
use Rattle.cv_event.specs.States.{Job, Cached, Canvas, State, change_at, job_in, view_on}
use Rattle.cv_event.specs.States.{to_front, put_front, stays, canvas_edited}
use Rattle.cv_event.specs.States.{keeps_cache, canvas_viewed, started}
use Rattle.cv_event.specs.States.{with_cache, image_of_slot}
use Rattle.cv_event.specs.States.{served, stored, canvases_looked, canvases_delivered, publishes}
use Rattle.cv_event.specs.States.{edit_made}
use Rattle.cv_event.specs.Histories.{cached, capacity_on, cache_behind}
use Rattle.cv_event.specs.Laws.{CacheOfOneCanvas}
use Rattle.cv_event.proofs.SlotLemmas.{changed}

-- ---- the cache behind an act

-- the cache of a canvas, if it is there
abbrev cache_in : Option Canvas → List Cached
cache_in o = option_map_or (λ (k : Canvas). k.cache) o []

-- a change that leaves caches
cache_same : (change : Canvas → Canvas) → ((k : Canvas) → (change k).cache ≡ k.cache) → (b : Bool) (o : Option
    Canvas) → cache_in (option_map (λ k. if b then change k else k) o) ≡ cache_in o
cache_same change same b None = refl
cache_same change same true (Some k) = same k
cache_same change same false (Some k) = refl

cache_mapped : (change : Canvas → Canvas) (xs : List Canvas) (c : ℕ) → slice_get (map change xs) c ≡ option_map
    change (slice_get xs c)
cache_mapped change [] c = refl
cache_mapped change (k ∷ ks) zero = refl
cache_mapped change (k ∷ ks) (suc c) = cache_mapped change ks c

-- an edit
cache_edited : (project : Project) (e : Edit) (o : Option Canvas) → cache_in (option_map (canvas_edited project e) o)
    ≡ filter (stays project e) (cache_in o)
cache_edited project e None = refl
cache_edited project e (Some k) = refl

cache_made : (s : State) (c : ℕ) (e : Edit) (v : Option EditError) → cached (edit_made e v s) c ≡ cache_behind s c
    (act.Edit e v) (cached s c)
cache_made s c e None =
    ap cache_in (cache_mapped (canvas_edited s.project e) s.canvases c) ∙ cache_edited s.project e (slice_get
    s.canvases c)
cache_made s c e (Some error) = refl

-- a view
cache_viewed : (view : PixelGrid) (b : Bool) (o : Option Canvas) → cache_in (option_map (λ k. if b then canvas_viewed
    view k else k) o) ≡ (if b then (if keeps_cache (option_and_then (λ (k : Canvas). k.view) o) view then cache_in o
    else []) else cache_in o)
cache_viewed view true None = refl
cache_viewed view false None = refl
cache_viewed view true (Some k) = refl
cache_viewed view false (Some k) = refl

-- a hit, and a stored delivery, on a canvas that may be another one
cache_served : (image : Cached) (b : Bool) (o : Option Canvas) → cache_in (option_map (λ k. if b then with_cache
    (served image) k else k) o) ≡ option_map_or (λ (i : Cached). to_front i.layer (cache_in o)) (if b then Some image
    else None) (cache_in o)
cache_served image true None = refl
cache_served image false None = refl
cache_served image true (Some k) = refl
cache_served image false (Some k) = refl

cache_stored : (image : Cached) (b : Bool) (o : Option Canvas) → cache_in (option_map (λ k. if b then with_cache
    (stored image) k else k) o) ≡ option_map_or (λ i. put_front (option_map_or (λ (k : Canvas). k.spec.capacity) o 0)
    i (cache_in o)) (if b then Some image else None) (cache_in o)
cache_stored image true None = refl
cache_stored image false None = refl
cache_stored image true (Some k) = refl
cache_stored image false (Some k) = refl

-- the image of a slot that is there, or not, on a canvas
image_where : (job : Job) (b : Bool) (o : Option Slot) → (if b then option_map (image_of_slot job) o else None) ≡
    option_and_then (λ slot. if b then Some (image_of_slot job slot) else None) o
image_where job true None = refl
image_where job true (Some slot) = refl
image_where job false None = refl
image_where job false (Some slot) = refl

cache_looked : (s : State) (c j at : ℕ) (hit : Bool) → cache_in (slice_get (canvases_looked s j at hit) c) ≡
    cache_behind s c (act.Look j at hit) (cached s c)
cache_looked s c j at false = refl
cache_looked s c j at true = of_job (job_in s.jobs j)
  where
    of_slot : (job : Job) (o : Option Slot) → cache_in (slice_get (option_map_or (λ slot. change_at job.canvas
        (with_cache (served (image_of_slot job slot))) s.canvases) o s.canvases) c) ≡ option_map_or (λ (image :
        Cached). to_front image.layer (cached s c)) (option_and_then (λ slot. if job.canvas == c then Some
        (image_of_slot job slot) else None) o) (cached s c)
    of_slot job None = refl
    of_slot job (Some slot) =
        ap cache_in (changed (with_cache (served (image_of_slot job slot))) s.canvases job.canvas c)
        ∙ cache_served (image_of_slot job slot) (job.canvas == c) (slice_get s.canvases c)

    of_job : (o : Option Job) → cache_in (slice_get (option_map_or (λ (job : Job). option_map_or (λ slot. change_at
        job.canvas (with_cache (served (image_of_slot job slot))) s.canvases) (slice_get job.slots at) s.canvases) o
        s.canvases) c) ≡ option_map_or (λ (image : Cached). to_front image.layer (cached s c)) (option_and_then (λ
        (job : Job). if job.canvas == c then option_map (image_of_slot job) (slice_get job.slots at) else None) o)
        (cached s c)
    of_job None = refl
    of_job (Some job) =
        of_slot job (slice_get job.slots at)
        ∙ sym (ap (λ i. option_map_or (λ (image : Cached). to_front image.layer (cached s c)) i (cached s c))
        (image_where job (job.canvas == c) (slice_get job.slots at)))

cache_delivered : (s : State) (c j at : ℕ) (fate : Fate) → cache_in (slice_get (canvases_delivered s j at fate) c) ≡
    cache_behind s c (act.Deliver j at fate) (cached s c)
cache_delivered s c j at Kept = refl
cache_delivered s c j at Dropped = refl
cache_delivered s c j at Stored = of_job (job_in s.jobs j)
  where
    of_slot : (job : Job) (o : Option Slot) → cache_in (slice_get (option_map_or (λ slot. change_at job.canvas
        (with_cache (stored (image_of_slot job slot))) s.canvases) o s.canvases) c) ≡ option_map_or (λ image.
        put_front (capacity_on s c) image (cached s c)) (option_and_then (λ slot. if job.canvas == c then Some
        (image_of_slot job slot) else None) o) (cached s c)
    of_slot job None = refl
    of_slot job (Some slot) =
        ap cache_in (changed (with_cache (stored (image_of_slot job slot))) s.canvases job.canvas c)
        ∙ cache_stored (image_of_slot job slot) (job.canvas == c) (slice_get s.canvases c)

    of_job : (o : Option Job) → cache_in (slice_get (option_map_or (λ (job : Job). option_map_or (λ slot. change_at
        job.canvas (with_cache (stored (image_of_slot job slot))) s.canvases) (slice_get job.slots at) s.canvases) o
        s.canvases) c) ≡ option_map_or (λ image. put_front (capacity_on s c) image (cached s c)) (option_and_then (λ
        (job : Job). if job.canvas == c then option_map (image_of_slot job) (slice_get job.slots at) else None) o)
        (cached s c)
    of_job None = refl
    of_job (Some job) =
        of_slot job (slice_get job.slots at)
        ∙ sym (ap (λ i. option_map_or (λ image. put_front (capacity_on s c) image (cached s c)) i (cached s c))
        (image_where job (job.canvas == c) (slice_get job.slots at)))

cache_finished : (s : State) (c j : ℕ) (o : Option Job) → cache_in (slice_get (option_map_or (λ (job : Job).
    change_at job.canvas (publishes j job) s.canvases) o s.canvases) c) ≡ cached s c
cache_finished s c j None = refl
cache_finished s c j (Some job) =
    ap cache_in (changed (publishes j job) s.canvases job.canvas c)
    ∙ cache_same (publishes j job) (λ k. refl) (job.canvas == c) (slice_get s.canvases c)

cache_started : (s : State) (c n : ℕ) (v : Option PixelGrid) → cached (started n v s) c ≡ cached s c
cache_started s c n None = refl
cache_started s c n (Some view) = refl

pub cache_of_one_canvas : CacheOfOneCanvas
cache_of_one_canvas s who c (act.Edit e v) = cache_made s c e v
cache_of_one_canvas s who c (act.View k view) =
    ap cache_in (changed (canvas_viewed view) s.canvases k c) ∙ cache_viewed view (k == c) (slice_get s.canvases c)
cache_of_one_canvas s who c (act.Start k j) = cache_started s c k (view_on s k)
cache_of_one_canvas s who c (act.Look j at hit) = cache_looked s c j at hit
cache_of_one_canvas s who c (act.Deliver j at fate) = cache_delivered s c j at fate
cache_of_one_canvas s who c (act.Compose j) = refl
cache_of_one_canvas s who c (act.Finish j) = cache_finished s c j (job_in s.jobs j)
cache_of_one_canvas s who c (act.Fail j) = refl
cache_of_one_canvas s who c (act.Cancel j) = refl
cache_of_one_canvas s who c (act.Preview j bits) = refl
cache_of_one_canvas s who c (act.Save k j) = refl
