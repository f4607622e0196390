-- What a journal says of its edits, views and jobs, read off its entries.
--
-- Source: this project's own.
use Rattle.std.specs.Prelude.{◌≡◌, ℕ, ◌==◌, Bool, true, false, ◌&&◌, if◌then◌else◌, List, []}
use Rattle.std.specs.Prelude.{◌∷◌, filter, filter_map, Option, Some, None, option_map, option_and_then, slice_get}
use Rattle.std.specs.Prelude.{is_some}
use Rattle.std.specs.List.{list_any}
use Rattle.std.specs.Option.{option_or, option_map_or}
use Rattle.cv_model.specs.declared.colour.Rgb.{Rgb}
use Rattle.cv_model.specs.declared.edit.Edit.{Edit}
use Rattle.cv_model.specs.Views.{PixelGrid}
use Rattle.cv_model.specs.Layers.{parts, deps}
use Rattle.cv_model.specs.Pictures.{picture_with}
use Rattle.cv_model.specs.Rasters.{Raster}
use Rattle.cv_event.specs.declared.entry.Act.{Act}
use Rattle.cv_event.specs.declared.entry.Act.TheVariants as act
use Rattle.cv_event.specs.declared.entry.Entry.{Entry}
use Rattle.cv_event.specs.declared.entry.Fate.{Fate}
use Rattle.cv_event.specs.declared.entry.Fate.TheVariants.{Stored, Kept, Dropped}
use Rattle.cv_event.specs.declared.entry.How.{How}
use Rattle.cv_event.specs.declared.entry.How.TheVariants.{Finished, Cancelled, NoMemory}
use Rattle.cv_event.specs.declared.slot.Slot.{Slot}
use Rattle.cv_event.specs.States.{Taken, Job, Cached, Canvas, State, job_in, view_on, to_front, put_front, stays}
use Rattle.cv_event.specs.States.{keeps_cache, image_of_slot, taken_of}
use Rattle.cv_event.specs.Legality.{is_ready}

-- ---- edits and views

-- the edit of an act, if it was accepted
abbrev pub accepted_edit : Act → Option Edit
accepted_edit (act.Edit e None) = Some e
accepted_edit _ = None

-- the accepted edits of a journal, in order
abbrev pub edits : List Entry → List Edit
edits journal = filter_map (λ (entry : Entry). accepted_edit entry.act) journal

-- the view that an act gives a canvas
abbrev pub view_given : ℕ → Act → Option PixelGrid
view_given c (act.View k view) = if k == c then Some view else None
view_given c _ = None

-- the last view of a canvas
abbrev pub last_view : ℕ → List Entry → Option PixelGrid
last_view c [] = None
last_view c (entry ∷ rest) = option_or (last_view c rest) (view_given c entry.act)

-- the job that an act starts
abbrev pub start_of : Act → Option ℕ
start_of (act.Start c j) = Some j
start_of _ = None

-- the jobs that a journal starts, in order
abbrev pub starts : List Entry → List ℕ
starts journal = filter_map (λ (entry : Entry). start_of entry.act) journal

-- ---- a job

-- what a job took
abbrev pub taken : State → ℕ → Option Taken
taken s j = option_map (taken_of j) (job_in s.jobs j)

-- the picture of these slots of the project at the view that a job took
abbrev pub image : State → ℕ → List ℕ → Option (Raster Rgb)
image s j slots = option_map (λ (t : Taken). picture_with t.project t.view slots) (taken s j)

-- how an act ends job j on canvas c, if it does
abbrev pub ends : ℕ → ℕ → Act → Option How
ends c j (act.Start k n) = if c == k then Some Cancelled else None
ends c j (act.Finish k) = if k == j then Some Finished else None
ends c j (act.Fail k) = if k == j then Some NoMemory else None
ends c j (act.Cancel k) = if k == j then Some Cancelled else None
ends c j _ = None

-- how the first of these entries that ends the job does it
abbrev pub first_end : ℕ → ℕ → List Entry → Option How
first_end c j [] = None
first_end c j (entry ∷ rest) = option_or (ends c j entry.act) (first_end c j rest)

-- ---- a slot of a job

-- an act is a look at slot `at` of job j
abbrev pub looks_at : ℕ → ℕ → Act → Bool
looks_at j at (act.Look k slot hit) = k == j && slot == at
looks_at j at _ = false

-- a delivery makes its slot ready
abbrev pub is_kept : Fate → Bool
is_kept Stored = true
is_kept Kept = true
is_kept Dropped = false

-- an act makes the slot ready: a hit, or a delivery that is stored or kept
abbrev pub makes_ready : ℕ → ℕ → Act → Bool
makes_ready j at (act.Look k slot hit) = k == j && (slot == at && hit)
makes_ready j at (act.Deliver k slot fate) = k == j && (slot == at && is_kept fate)
makes_ready j at _ = false

-- an act is a delivery of the slot
abbrev pub delivers : ℕ → ℕ → Act → Bool
delivers j at (act.Deliver k slot fate) = k == j && slot == at
delivers j at _ = false

-- an act composes the job's picture
abbrev pub composes : ℕ → Act → Bool
composes j (act.Compose k) = k == j
composes j _ = false

-- some of these entries has an act that passes
abbrev pub some_act : (Act → Bool) → List Entry → Bool
some_act test journal = list_any (λ (entry : Entry). test entry.act) journal

-- ---- the cache of a canvas

-- the images in a canvas's cache, most recent first
abbrev pub cached : State → ℕ → List Cached
cached s c = option_map_or (λ (k : Canvas). k.cache) (slice_get s.canvases c) []

-- how many a canvas keeps
abbrev pub capacity_on : State → ℕ → ℕ
capacity_on s c = option_map_or (λ (k : Canvas). k.spec.capacity) (slice_get s.canvases c) 0

-- the image of a job's slot, where the job is on this canvas
abbrev pub image_on : State → ℕ → ℕ → ℕ → Option Cached
image_on s c j at =
    option_and_then
    (λ (job : Job). if job.canvas == c
    then option_map (image_of_slot job) (slice_get job.slots at)
    else None) (job_in s.jobs j)

-- what an act in a state makes of a canvas's cache: a view that is no pan of the one before empties it, an
-- accepted edit takes out what depends on the layer that it touches, a hit moves its image to the front, and
-- a stored delivery puts its image there and cuts the rest to the capacity
abbrev pub cache_behind : State → ℕ → Act → List Cached → List Cached
cache_behind s c (act.View k view) cache =
    if k == c then (if keeps_cache (view_on s c) view then cache else []) else cache
cache_behind s c (act.Edit e None) cache = filter (stays s.project e) cache
cache_behind s c (act.Look j at true) cache =
    option_map_or (λ (image : Cached). to_front image.layer cache) (image_on s c j at) cache
cache_behind s c (act.Deliver j at Stored) cache =
    option_map_or (λ image. put_front (capacity_on s c) image cache) (image_on s c j at) cache
cache_behind s c _ cache = cache

-- an image was painted for a slot of a job on this canvas, which is ready, at the job's view, of the layer's
-- parts, which the present project has too, and so with the dependencies that the layer has there
pub record IsPainted (s : State) (c : ℕ) (image : Cached) : Type 0 where
  pub number : ℕ
  pub job : Job
  pub job_is : job_in s.jobs number ≡ Some job
  pub canvas_is : job.canvas ≡ c
  pub place : ℕ
  pub slot : Slot
  pub slot_is : slice_get job.slots place ≡ Some slot
  pub layer_is : slot.layer ≡ image.layer
  pub ready_is : is_ready slot.standing ≡ true
  pub view_is : image.view ≡ job.view
  pub has_parts : is_some (parts job.project image.layer) ≡ true
  pub parts_are : parts job.project image.layer ≡ parts s.project image.layer
  pub deps_are : deps job.project image.layer ≡ deps s.project image.layer
