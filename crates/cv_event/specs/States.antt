-- What a session knows at a time, and what each entry of its journal changes in it.
--
-- Source: in outline the developer documentation of QGIS (`QgsMapRendererParallelJob`, `QgsMapRendererCache`): a job with
-- an image for each layer, cancel, a cache of layer images with their dependencies. All rules are this
-- project's own.
use Rattle.std.specs.Prelude.{ℕ, zero, suc, ◌==◌, Bool, true, false, not, ◌||◌, if◌then◌else◌, List, []}
use Rattle.std.specs.Prelude.{◌∷◌, ◌++◌, map, filter, find, fold, take, slice_get, Option, Some, None}
use Rattle.std.specs.Prelude.{is_some, option_and_then, option_to_list}
use Rattle.std.specs.Option.{option_map_or, option_or}
use Rattle.cv_model.specs.declared.edit.Edit.{Edit}
use Rattle.cv_model.specs.declared.edit.EditError.{EditError}
use Rattle.cv_model.specs.declared.project.CanvasSpec.{CanvasSpec}
use Rattle.cv_model.specs.Views.{PixelGrid}
use Rattle.cv_model.specs.Pans.{is_pan}
use Rattle.cv_model.specs.Layers.{Layer, Project, Opening, deps, slots}
use Rattle.cv_model.specs.Edits.{step, touches_any}
use Rattle.cv_event.specs.declared.entry.Act.{Act}
use Rattle.cv_event.specs.declared.entry.Act.TheVariants as act
use Rattle.cv_event.specs.declared.entry.Entry.{Entry}
use Rattle.cv_event.specs.declared.entry.Fate.{Fate}
use Rattle.cv_event.specs.declared.entry.Fate.TheVariants.{Stored, Kept, Dropped}
use Rattle.cv_event.specs.declared.entry.How.{How}
use Rattle.cv_event.specs.declared.entry.How.TheVariants.{Finished, Cancelled, NoMemory}
use Rattle.cv_event.specs.declared.slot.Slot.{Slot}
use Rattle.cv_event.specs.declared.slot.Standing.{Standing}
use Rattle.cv_event.specs.declared.slot.Standing.TheVariants.{Open, Missed, Ready, Lost}

-- a journal: its entries, and how many more have a place set aside
pub record JournalParts : Type 0 where
  pub entries : List Entry
  pub spare : ℕ

-- what a job takes at its start: the present project, and its canvas's present view
pub record Taken : Type 0 where
  pub job : ℕ
  pub project : Project
  pub view : PixelGrid

-- a job: its canvas, what it took, its slots from the bottom, the caller that composes its picture, and how
-- it ended
pub record Job : Type 0 where
  pub canvas : ℕ
  pub project : Project
  pub view : PixelGrid
  pub slots : List Slot
  pub composer : Option ℕ
  pub ended : Option How

-- an image in a cache: the layer's id, and the view that it was painted at
pub record Cached : Type 0 where
  pub layer : ℕ
  pub view : PixelGrid

-- a canvas: its size and capacity, its present view, the images in its cache, most recent first, and the
-- last job that was finished on it
pub record Canvas : Type 0 where
  pub spec : CanvasSpec
  pub view : Option PixelGrid
  pub cache : List Cached
  pub published : Option Taken

-- the present project, how many edits were accepted, the canvases by number, and the jobs, 1 first
pub record State : Type 0 where
  pub project : Project
  pub accepted : ℕ
  pub canvases : List Canvas
  pub jobs : List Job

-- ---- canvases and jobs by number

-- a change of the item at a place
abbrev pub change_at : {A : Type 0} → ℕ → (A → A) → List A → List A
change_at at change [] = []
change_at zero change (x ∷ xs) = change x ∷ xs
change_at (suc at) change (x ∷ xs) = x ∷ change_at at change xs

-- the job of a number, which is at least 1
abbrev pub job_in : List Job → ℕ → Option Job
job_in jobs zero = None
job_in jobs (suc before) = slice_get jobs before

-- a change of the job of this number
abbrev pub change_job : ℕ → (Job → Job) → List Job → List Job
change_job zero change jobs = jobs
change_job (suc before) change jobs = change_at before change jobs

-- the present view of a canvas, if the canvas is there and has one
abbrev pub view_on : State → ℕ → Option PixelGrid
view_on s c = option_and_then (λ (k : Canvas). k.view) (slice_get s.canvases c)

-- ---- a cache

-- an image is of this layer
abbrev pub is_of : ℕ → Cached → Bool
is_of layer image = image.layer == layer

-- a list without its first item that passes the test
abbrev pub drop_first : {A : Type 0} → (A → Bool) → List A → List A
drop_first test [] = []
drop_first test (x ∷ xs) = if test x then xs else x ∷ drop_first test xs

-- the image of a layer moved to the front
abbrev pub to_front : ℕ → List Cached → List Cached
to_front layer cache = option_to_list (find (is_of layer) cache) ++ drop_first (is_of layer) cache

-- an image put in front, without an older one of its layer, cut to the capacity
abbrev pub put_front : ℕ → Cached → List Cached → List Cached
put_front capacity image cache = take capacity (image ∷ drop_first (is_of image.layer) cache)

-- an edit touches no layer on which an image depends
abbrev pub stays : Project → Edit → Cached → Bool
stays project e image = not (touches_any e (deps project image.layer))

-- ---- what an accepted edit changes

-- a slot of a job with this project is touched where the edit touches one of its dependencies
abbrev pub slot_edited : Project → Edit → Slot → Slot
slot_edited project e slot =
    record slot { touched = slot.touched || touches_any e (deps project slot.layer) }

-- the slots of a job without end
abbrev pub job_edited : Edit → Job → Job
job_edited e job =
    if is_some job.ended then job else record job { slots = map (slot_edited job.project e) job.slots }

-- the cache loses what depends, in the project before the edit, on the layer that it touches
abbrev pub canvas_edited : Project → Edit → Canvas → Canvas
canvas_edited project e canvas = record canvas { cache = filter (stays project e) canvas.cache }

abbrev pub edited : Edit → State → State
edited e s = record {
  project = step s.project e;
  accepted = suc s.accepted;
  canvases = map (canvas_edited s.project e) s.canvases;
  jobs = map (job_edited e) s.jobs;
}

-- ---- what a view and a start change

-- a view empties the cache where it is no pan of the view before
abbrev pub keeps_cache : Option PixelGrid → PixelGrid → Bool
keeps_cache before view = option_map_or (λ old. is_pan old view) before false

abbrev pub canvas_viewed : PixelGrid → Canvas → Canvas
canvas_viewed view canvas = record canvas {
  view = Some view;
  cache = (if keeps_cache canvas.view view then canvas.cache else []);
}

-- a job ends once
abbrev pub with_end : How → Job → Job
with_end how job = record job { ended = option_or job.ended (Some how) }

-- a start cancels the canvas's other jobs
abbrev pub cancelled_on : ℕ → Job → Job
cancelled_on c job = if job.canvas == c then with_end Cancelled job else job

abbrev pub new_slot : Layer → Slot
new_slot layer = record { layer = layer.core.id; standing = Open; touched = false }

-- a job on a canvas, of a project at a view
abbrev pub new_job : ℕ → Project → PixelGrid → Job
new_job c project view = record {
  canvas = c;
  project = project;
  view = view;
  slots = map new_slot (slots project view);
  composer = None;
  ended = None;
}

abbrev pub started : ℕ → Option PixelGrid → State → State
started c None s = s
started c (Some view) s =
    record s { jobs = map (cancelled_on c) s.jobs ++ new_job c s.project view ∷ [] }

-- ---- what the tasks of a job change

-- how far a slot is behind a look of this caller, and behind a delivery
abbrev pub looked : ℕ → Bool → Standing
looked who true = Ready
looked who false = Missed who

abbrev pub delivered : Fate → Standing
delivered Stored = Ready
delivered Kept = Ready
delivered Dropped = Lost

abbrev pub slot_stands : Standing → Slot → Slot
slot_stands standing slot = record slot { standing = standing }

abbrev pub stands_at : ℕ → Standing → Job → Job
stands_at at standing job = record job { slots = change_at at (slot_stands standing) job.slots }

-- another cache of a canvas
abbrev pub with_cache : (Canvas → List Cached) → Canvas → Canvas
with_cache cache canvas = record canvas { cache = cache canvas }

-- the image of a job's slot
abbrev pub image_of_slot : Job → Slot → Cached
image_of_slot job slot = record { layer = slot.layer; view = job.view }

-- a change of the canvas of a job, which is told the image of the job's slot
abbrev pub change_cache : (Cached → Canvas → List Cached) → State → ℕ → ℕ → List Canvas
change_cache change s j at =
    option_map_or
    (λ (job : Job). option_map_or
    (λ slot. change_at job.canvas (with_cache (change (image_of_slot job slot))) s.canvases)
    (slice_get job.slots at) s.canvases)
    (job_in s.jobs j) s.canvases

-- a hit moves the slot's image to the front of its canvas's cache
abbrev pub served : Cached → Canvas → List Cached
served image canvas = to_front image.layer canvas.cache

-- a stored delivery puts it in front
abbrev pub stored : Cached → Canvas → List Cached
stored image canvas = put_front canvas.spec.capacity image canvas.cache

abbrev pub canvases_looked : State → ℕ → ℕ → Bool → List Canvas
canvases_looked s j at true = change_cache served s j at
canvases_looked s j at false = s.canvases

abbrev pub canvases_delivered : State → ℕ → ℕ → Fate → List Canvas
canvases_delivered s j at Stored = change_cache stored s j at
canvases_delivered s j at Kept = s.canvases
canvases_delivered s j at Dropped = s.canvases

abbrev pub composed_by : ℕ → Job → Job
composed_by who job = record job { composer = Some who }

-- what a job of this number took
abbrev pub taken_of : ℕ → Job → Taken
taken_of j job = record { job = j; project = job.project; view = job.view }

-- its picture is the canvas's last one
abbrev pub publishes : ℕ → Job → Canvas → Canvas
publishes j job canvas = record canvas { published = Some (taken_of j job) }

abbrev pub canvases_finished : State → ℕ → List Canvas
canvases_finished s j =
    option_map_or (λ (job : Job). change_at job.canvas (publishes j job) s.canvases) (job_in s.jobs j)
    s.canvases

-- ---- the state after a journal

-- a change of one job alone
abbrev pub job_changed : ℕ → (Job → Job) → State → State
job_changed j change s = record s { jobs = change_job j change s.jobs }

-- what an edit changes: nothing where it is refused
abbrev pub edit_made : Edit → Option EditError → State → State
edit_made e None s = edited e s
edit_made e (Some error) s = s

-- the state after an act of a caller
abbrev pub did : State → ℕ → Act → State
did s who (act.Edit e v) = edit_made e v s
did s who (act.View c view) = record s { canvases = change_at c (canvas_viewed view) s.canvases }
did s who (act.Start c j) = started c (view_on s c) s
did s who (act.Look j at hit) = record s {
  canvases = canvases_looked s j at hit;
  jobs = change_job j (stands_at at (looked who hit)) s.jobs;
}
did s who (act.Deliver j at fate) = record s {
  canvases = canvases_delivered s j at fate;
  jobs = change_job j (stands_at at (delivered fate)) s.jobs;
}
did s who (act.Compose j) = job_changed j (composed_by who) s
did s who (act.Finish j) = record s {
  canvases = canvases_finished s j;
  jobs = change_job j (with_end Finished) s.jobs;
}
did s who (act.Fail j) = job_changed j (with_end NoMemory) s
did s who (act.Cancel j) = job_changed j (with_end Cancelled) s
did s who (act.Preview j ready) = s
did s who (act.Save c j) = s

abbrev pub after : State → Entry → State
after s entry = did s entry.caller entry.act

-- a canvas as it is opened
abbrev pub new_canvas : CanvasSpec → Canvas
new_canvas spec = record { spec = spec; view = None; cache = []; published = None }

-- the state of an opening, before any entry
abbrev pub begin : Opening → State
begin opening = record {
  project = opening.project;
  accepted = 0;
  canvases = map new_canvas opening.canvases;
  jobs = [];
}

-- the state after a journal
abbrev pub replay : Opening → List Entry → State
replay opening journal = fold after (begin opening) journal
