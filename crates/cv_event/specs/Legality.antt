-- Which entries are allowed after those before them: what is due, what is fresh, and the table of acts.
--
-- Source: this project's own.
use Rattle.std.specs.Prelude.{◌≡◌, ℕ, suc, ◌+◌, ◌*◌, ◌==◌, ◌≤◌, Bool, true, false, not, ◌&&◌}
use Rattle.std.specs.Prelude.{if◌then◌else◌, List, [], ◌∷◌, length, slice_get, Option, Some, None, is_some, is_none}
use Rattle.std.specs.Prelude.{option_and_then, IsSome, IsSomeAnd}
use Rattle.std.specs.List.{list_any, list_all}
use Rattle.std.specs.Ordering.{int_eq}
use Rattle.std.specs.Option.{option_map_or, option_or}
use Rattle.cv_model.specs.Views.{PixelGrid, IsView}
use Rattle.cv_model.specs.Pans.{are_alike}
use Rattle.cv_model.specs.Layers.{Opening}
use Rattle.cv_model.specs.Edits.{verdict}
use Rattle.cv_event.specs.declared.entry.Act.{Act}
use Rattle.cv_event.specs.declared.entry.Act.TheVariants as act
use Rattle.cv_event.specs.declared.entry.Entry.{Entry}
use Rattle.cv_event.specs.declared.entry.Fate.{Fate}
use Rattle.cv_event.specs.declared.entry.Fate.TheVariants.{Stored, Kept, Dropped}
use Rattle.cv_event.specs.declared.entry.How.{How}
use Rattle.cv_event.specs.declared.slot.Slot.{Slot}
use Rattle.cv_event.specs.declared.slot.Standing.{Standing}
use Rattle.cv_event.specs.declared.slot.Standing.TheVariants.{Open, Missed, Ready, Lost}
use Rattle.cv_event.specs.declared.slot.Task.{Task}
use Rattle.cv_event.specs.declared.slot.Task.TheVariants.{Look, Compose}
use Rattle.cv_event.specs.States.{Job, Cached, Canvas, State, job_in, view_on, after, begin}

-- ---- facts of a job, and of a slot of a job

-- P holds of the job of this number, which is there
abbrev pub OfJob : State → ℕ → (Job → Type 0) → Type 0
OfJob s j P = IsSomeAnd (job_in s.jobs j) P

-- P holds of the job and of its slot of this number, which are there
abbrev pub OfSlot : State → ℕ → ℕ → (Job → Slot → Type 0) → Type 0
OfSlot s j at P = OfJob s j (λ job. IsSomeAnd (slice_get job.slots at) (P job))

-- how a job ended, if it is there and has an end
abbrev pub how : State → ℕ → Option How
how s j = option_and_then (λ (job : Job). job.ended) (job_in s.jobs j)

-- ---- ready slots

abbrev pub is_ready : Standing → Bool
is_ready Open = false
is_ready (Missed who) = false
is_ready Ready = true
is_ready Lost = false

-- the numbers, from k on, of the ready slots
abbrev pub ready_from : ℕ → List Slot → List ℕ
ready_from k [] = []
ready_from k (slot ∷ rest) = if is_ready slot.standing then k ∷ ready_from (suc k) rest else ready_from (suc k)
    rest

-- the ready slots of a job, ascending
abbrev pub ready : State → ℕ → List ℕ
ready s j = option_map_or (λ (job : Job). ready_from 0 job.slots) (job_in s.jobs j) []

-- the ready slots as a number, bit k for slot k
abbrev pub ready_bits : List Slot → ℕ
ready_bits [] = 0
ready_bits (slot ∷ rest) = 2 * ready_bits rest + (if is_ready slot.standing then 1 else 0)

-- ---- tasks

abbrev pub is_open : Standing → Bool
is_open Open = true
is_open (Missed who) = false
is_open Ready = false
is_open Lost = false

-- the least number, from k on, of a slot at which wasn't looked
abbrev pub open_slot : ℕ → List Slot → Option ℕ
open_slot k [] = None
open_slot k (slot ∷ rest) = if is_open slot.standing then Some k else open_slot (suc k) rest

-- all slots are ready
abbrev pub all_ready : List Slot → Bool
all_ready slots = list_all (λ (slot : Slot). is_ready slot.standing) slots

-- behind the looks the composition is due, once, where all slots are ready
abbrev pub task_behind : ℕ → Job → Option ℕ → Option Task
task_behind j job (Some at) = Some (Look j at)
task_behind j job None = if all_ready job.slots && is_none job.composer then Some (Compose j) else None

-- the open task of a job of this number
abbrev pub open_task : ℕ → Job → Option Task
open_task j job = if is_some job.ended then None else task_behind j job (open_slot 0 job.slots)

-- the open task of the first of these jobs, numbered from j, that has one
abbrev pub task_from : ℕ → List Job → Option Task
task_from j [] = None
task_from j (job ∷ jobs) = option_or (open_task j job) (task_from (suc j) jobs)

-- the task that is to be done next
abbrev pub task : State → Option Task
task s = task_from 1 s.jobs

-- ---- what is fresh

-- two views are the same
abbrev pub is_view : PixelGrid → PixelGrid → Bool
is_view a b = are_alike a b && (int_eq a.lx2 b.lx2 && int_eq a.ty2 b.ty2)

-- the view is a canvas's present one
abbrev pub shows : Canvas → PixelGrid → Bool
shows canvas view = option_map_or (is_view view) canvas.view false

-- of a job without end: its view is its canvas's present one, and no edit that was accepted since its start
-- touched a dependency of the slot
abbrev pub is_fresh : Canvas → Job → Slot → Bool
is_fresh canvas job slot = shows canvas job.view && not slot.touched

-- an image is of this layer and at this view
abbrev pub is_image : ℕ → PixelGrid → Cached → Bool
is_image layer view image = image.layer == layer && is_view view image.view

-- a canvas's cache may serve the slot of a job
abbrev pub hits_on : Canvas → Job → Slot → Bool
hits_on canvas job slot =
    is_fresh canvas job slot && list_any (is_image slot.layer job.view) canvas.cache

-- a test of a canvas, where it is there
abbrev pub on_canvas : (Canvas → Job → Slot → Bool) → State → Job → Slot → Bool
on_canvas test s job slot =
    option_map_or (λ canvas. test canvas job slot) (slice_get s.canvases job.canvas) false

-- a test of a job's slot and of the job's canvas, where they are there
abbrev pub tests : (Canvas → Job → Slot → Bool) → State → ℕ → ℕ → Bool
tests test s j at =
    option_map_or
    (λ (job : Job). option_map_or (λ slot. on_canvas test s job slot) (slice_get job.slots at) false)
    (job_in s.jobs j) false

-- a slot of a job without end is fresh, and a look at it hits
abbrev pub fresh : State → ℕ → ℕ → Bool
fresh s j at = tests is_fresh s j at

abbrev pub hits : State → ℕ → ℕ → Bool
hits s j at = tests hits_on s j at

-- a canvas takes what is delivered for a fresh slot where it has a capacity
abbrev pub is_taken : Canvas → Job → Slot → Bool
is_taken canvas job slot = is_fresh canvas job slot && not (canvas.spec.capacity == 0)

-- the fate of what is delivered for a job's slot
abbrev pub fate_of : State → Job → Slot → Fate
fate_of s job slot =
    if is_some job.ended then Dropped
    else if on_canvas is_taken s job slot then Stored
    else Kept

-- ---- the table of acts

-- an act of a caller is allowed in a state
abbrev pub Allows : State → ℕ → Act → Type 0
Allows s who (act.Edit e v) = v ≡ verdict s.project s.accepted e
Allows s who (act.View c view) =
    IsSomeAnd (slice_get s.canvases c)
    (λ canvas. IsView view × (view.w ≡ canvas.spec.w) × (view.h ≡ canvas.spec.h))
Allows s who (act.Start c j) = IsSome (view_on s c) × (j ≡ suc (length s.jobs)) × (j ≤ 4294967295)
Allows s who (act.Look j at hit) = (task s ≡ Some (Look j at)) × (hit ≡ hits s j at)
Allows s who (act.Deliver j at fate) =
    OfSlot s j at (λ job slot. (slot.standing ≡ Missed who) × (fate ≡ fate_of s job slot))
Allows s who (act.Compose j) = task s ≡ Some (Compose j)
Allows s who (act.Finish j) = OfJob s j (λ job. (job.composer ≡ Some who) × (job.ended ≡ None))
Allows s who (act.Fail j) = OfJob s j (λ job. job.ended ≡ None)
Allows s who (act.Cancel j) = OfJob s j (λ job. job.ended ≡ None)
Allows s who (act.Preview j bits) = OfJob s j (λ job. (job.ended ≡ None) × (bits ≡ ready_bits job.slots))
Allows s who (act.Save c j) =
    IsSomeAnd (slice_get s.canvases c) (λ canvas. IsSomeAnd canvas.published (λ taken. taken.job ≡ j))

-- each of these entries is allowed after those before it
abbrev pub LegalFrom : State → List Entry → Type 0
LegalFrom s [] = Unit {0}
LegalFrom s (entry ∷ rest) = Allows s entry.caller entry.act × LegalFrom (after s entry) rest

-- a journal is legal
abbrev pub IsLegal : Opening → List Entry → Type 0
IsLegal opening journal = LegalFrom (begin opening) journal
