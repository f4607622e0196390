-- What jobs show, whose their tasks are, and when one is due: laws, each the clause of a function of its
-- name.
use Rattle.std.specs.Prelude.{◌≡◌, ◌↔◌, ℕ, ◌==◌, Bool, true, false, not, ◌&&◌, ◌||◌, List, length, map}
use Rattle.std.specs.Prelude.{slice_get, Some, None, option_map, is_some, is_none, nat_eq}
use Rattle.std.specs.List.{list_any, AllByRecursion, range_with_len}
use Rattle.std.specs.Option.{option_map_or}
use Rattle.cv_model.specs.declared.edit.EditError.TheVariants.{NoMemory}
use Rattle.cv_model.specs.Layers.{Layer, Opening, deps, slots}
use Rattle.cv_model.specs.Edits.{touches_any}
use Rattle.cv_event.specs.declared.entry.Act.{Act}
use Rattle.cv_event.specs.declared.entry.Act.TheVariants as act
use Rattle.cv_event.specs.declared.entry.Entry.{Entry}
use Rattle.cv_event.specs.declared.slot.Slot.{Slot}
use Rattle.cv_event.specs.declared.slot.Standing.TheVariants.{Missed}
use Rattle.cv_event.specs.declared.slot.Task.TheVariants.{Look, Compose}
use Rattle.cv_event.specs.States.{Job, Canvas, State, job_in, replay}
use Rattle.cv_event.specs.Legality.{OfJob, OfSlot, is_open, all_ready, task, is_view, fresh, IsLegal}
use Rattle.cv_event.specs.Histories.{edits, last_view, starts, delivers, composes, some_act}
use Rattle.cv_event.specs.Laws.{started_between}

-- ---- counts and canvases

-- as many edits count as accepted as stand accepted in the journal
abbrev pub AcceptedIsCounted : Type 0
AcceptedIsCounted =
    (o : Opening) (journal : List Entry) → (replay o journal).accepted ≡ length (edits journal)

-- starts number their jobs 1, 2, .., and there are as many jobs as starts
abbrev pub JobsAreStarts : Type 0
JobsAreStarts =
    (o : Opening) (journal : List Entry) → IsLegal o journal
    → starts journal ≡ range_with_len 1 (length (replay o journal).jobs)

-- a job of a number is there exactly where a start has the number
abbrev pub StartedJobsAreThere : Type 0
StartedJobsAreThere =
    (o : Opening) (journal : List Entry) (j : ℕ) → IsLegal o journal
    → is_some (job_in (replay o journal).jobs j) ≡ list_any (nat_eq j) (starts journal)

-- an act's verdict, if it is an edit, isn't want of memory
abbrev pub IsJudged : Act → Type 0
IsJudged (act.Edit e v) = v ≡ Some NoMemory → ⊥
IsJudged _ = Unit {0}

-- want of memory is no entry
abbrev pub NoMemoryNeverStands : Type 0
NoMemoryNeverStands =
    (o : Opening) (journal : List Entry) → IsLegal o journal
    → AllByRecursion (λ (entry : Entry). IsJudged entry.act) journal

-- the canvases keep the sizes and capacities that they were opened with
abbrev pub CanvasesStay : Type 0
CanvasesStay =
    (o : Opening) (journal : List Entry) (c : ℕ)
    → option_map (λ (k : Canvas). k.spec) (slice_get (replay o journal).canvases c) ≡ slice_get o.canvases c

-- ---- slots

abbrev pub slot_layer : Slot → ℕ
slot_layer slot = slot.layer

abbrev pub layer_id : Layer → ℕ
layer_id layer = layer.core.id

-- the layers that a job's slots show, from the bottom
abbrev pub shown_by : Job → List ℕ
shown_by job = map slot_layer job.slots

-- a job is on the canvas of its start, and its slots are those of the project and the view that it took
abbrev pub SlotsAreOfTheTaken : Type 0
SlotsAreOfTheTaken =
    (o : Opening) (past rest : List Entry) (who c j : ℕ) → IsLegal o (started_between past who c j rest)
    → OfJob (replay o (started_between past who c j rest)) j
    (λ job. (job.canvas ≡ c) × (shown_by job ≡ map layer_id (slots job.project job.view)))

-- a slot of a job without end is fresh where the job's view is its canvas's last one, and no edit that was
-- accepted behind the start touches a dependency of the slot's layer in the job's project
abbrev pub FreshIsOfEdits : Type 0
FreshIsOfEdits =
    (o : Opening) (past rest : List Entry) (who c j at : ℕ)
    → IsLegal o (started_between past who c j rest)
    → (job : Job) (slot : Slot)
    → job_in (replay o (started_between past who c j rest)).jobs j ≡ Some job
    → slice_get job.slots at ≡ Some slot → job.ended ≡ None
    → fresh (replay o (started_between past who c j rest)) j at
    ≡ (option_map_or (is_view job.view) (last_view c (started_between past who c j rest)) false
    && not (list_any (λ e. touches_any e (deps job.project slot.layer)) (edits rest)))

-- ---- whose a task is

-- an act is a look at slot `at` of job j that missed
abbrev pub is_miss : ℕ → ℕ → Act → Bool
is_miss j at (act.Look k slot hit) = k == j && (slot == at && not hit)
is_miss j at _ = false

-- an entry is this caller's, and its act passes
abbrev pub is_by : ℕ → (Act → Bool) → Entry → Bool
is_by who test entry = entry.caller == who && test entry.act

-- a slot waits for a caller's delivery where this caller looked at it and missed it, and no delivery stands
abbrev pub DeliveryIsByLooker : Type 0
DeliveryIsByLooker =
    (o : Opening) (past rest : List Entry) (who c j at painter : ℕ)
    → IsLegal o (started_between past who c j rest)
    → (job : Job) (slot : Slot)
    → job_in (replay o (started_between past who c j rest)).jobs j ≡ Some job
    → slice_get job.slots at ≡ Some slot
    → (slot.standing ≡ Missed painter)
    ↔ ((list_any (is_by painter (is_miss j at)) rest && not (some_act (delivers j at) rest)) ≡ true)

-- a job's picture is to be finished by the caller whose compose stands
abbrev pub FinishIsByComposer : Type 0
FinishIsByComposer =
    (o : Opening) (past rest : List Entry) (who c j composer : ℕ)
    → IsLegal o (started_between past who c j rest)
    → OfJob (replay o (started_between past who c j rest)) j
    (λ job. (job.composer ≡ Some composer) ↔ (list_any (is_by composer (composes j)) rest ≡ true))

-- ---- when a task is due

-- a job has an open task: it has no end, and either a slot at which wasn't looked, or all slots ready and
-- nobody who composes them
abbrev pub has_task : Job → Bool
has_task job =
    is_none job.ended
    && (list_any (λ (slot : Slot). is_open slot.standing) job.slots
    || (all_ready job.slots && is_none job.composer))

-- a task is due exactly where some job has one
abbrev pub TaskIsDue : Type 0
TaskIsDue = (s : State) → is_some (task s) ≡ list_any has_task s.jobs

-- only slots of jobs without end are looked at
abbrev pub LooksAreOfLiveJobs : Type 0
LooksAreOfLiveJobs =
    (s : State) (j at : ℕ) → task s ≡ Some (Look j at)
    → OfSlot s j at (λ job slot. (job.ended ≡ None) × (is_open slot.standing ≡ true))

-- only jobs without end are composed, whose slots are all ready, and each once
abbrev pub ComposesAreOfLiveJobs : Type 0
ComposesAreOfLiveJobs =
    (s : State) (j : ℕ) → task s ≡ Some (Compose j)
    → OfJob s j (λ job. (job.ended ≡ None) × (all_ready job.slots ≡ true) × (job.composer ≡ None))
