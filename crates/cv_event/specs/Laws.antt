-- What holds of legal journals, in the words of their entries, and, of a cache's changes and of tasks, of any
-- state: laws, each the clause of a function of its name. A job's own entries are those behind its start.
use Rattle.std.specs.Prelude.{◌≡◌, ℕ, true, false, not, List, ◌∷◌, ◌++◌, length}
use Rattle.std.specs.Prelude.{slice_get, Some, None, option_map, is_some, is_none, ◌<◌}
use Rattle.std.specs.List.{list_any, AllByRecursion}
use Rattle.cv_model.specs.Layers.{Opening, deps}
use Rattle.cv_model.specs.Edits.{project_at, touches_any}
use Rattle.cv_model.specs.Pictures.{picture_with}
use Rattle.cv_event.specs.declared.entry.Act.{Act}
use Rattle.cv_event.specs.declared.entry.Act.TheVariants as act
use Rattle.cv_event.specs.declared.entry.Entry.{Entry}
use Rattle.cv_event.specs.declared.entry.Fate.TheVariants.{Dropped}
use Rattle.cv_event.specs.declared.entry.How.{How}
use Rattle.cv_event.specs.declared.slot.Slot.{Slot}
use Rattle.cv_event.specs.declared.slot.Task.TheVariants.{Look, Compose}
use Rattle.cv_event.specs.States.{Job, State, job_in, view_on, did, replay}
use Rattle.cv_event.specs.Legality.{OfJob, how, is_open, is_ready, open_task, task, IsLegal}
use Rattle.cv_event.specs.Histories.{edits, last_view, taken, image, first_end, looks_at, makes_ready}
use Rattle.cv_event.specs.Histories.{composes, some_act, cached, cache_behind, IsPainted}

-- an entry
abbrev pub entry_of : ℕ → Act → Entry
entry_of who a = record { caller = who; act = a }

-- a journal in which job j is started on canvas c between two lists of entries
abbrev pub started_between : List Entry → ℕ → ℕ → ℕ → List Entry → List Entry
started_between past who c j rest = past ++ entry_of who (act.Start c j) ∷ rest

-- the present project is that of the opening behind all accepted edits
abbrev pub ProjectIsOfEdits : Type 0
ProjectIsOfEdits =
    (o : Opening) (journal : List Entry)
    → (replay o journal).project ≡ project_at o.project (edits journal) (length (edits journal))

-- a canvas's present view is its last one
abbrev pub ViewIsLast : Type 0
ViewIsLast =
    (o : Opening) (journal : List Entry) (c : ℕ) → IsLegal o journal
    → view_on (replay o journal) c ≡ last_view c journal

-- a job takes the project behind the edits accepted before its start, and its canvas's last view before it
abbrev pub JobTakesThePresent : Type 0
JobTakesThePresent =
    (o : Opening) (past rest : List Entry) (who c j : ℕ) → IsLegal o (started_between past who c j rest)
    → let journal = started_between past who c j rest in
    taken (replay o journal) j
    ≡ option_map
    (λ view. record {
      job = j;
      project = project_at o.project (edits journal) (length (edits past));
      view = view;
    })
    (last_view c past)

-- an image of a job is the picture of what it took
abbrev pub ImageIsOfTheTaken : Type 0
ImageIsOfTheTaken =
    (o : Opening) (past rest : List Entry) (who c j : ℕ) (slots : List ℕ)
    → IsLegal o (started_between past who c j rest)
    → let journal = started_between past who c j rest in
    image (replay o journal) j slots
    ≡ option_map
    (λ view. picture_with (project_at o.project (edits journal) (length (edits past))) view slots)
    (last_view c past)

-- a job's end is the first finish, fail or cancel of it, or start on its canvas, behind its start
abbrev pub EndIsFirst : Type 0
EndIsFirst =
    (o : Opening) (past rest : List Entry) (who c j : ℕ) → IsLegal o (started_between past who c j rest)
    → how (replay o (started_between past who c j rest)) j ≡ first_end c j rest

-- an end never changes
abbrev pub EndsStay : Type 0
EndsStay =
    (o : Opening) (past rest : List Entry) (j : ℕ) (h : How) → IsLegal o (past ++ rest)
    → how (replay o past) j ≡ Some h → how (replay o (past ++ rest)) j ≡ Some h

-- an act publishes nothing of job j, and stores and keeps nothing for it
abbrev pub IsVoid : ℕ → Act → Type 0
IsVoid j (act.Finish k) = k ≡ j → ⊥
IsVoid j (act.Deliver k at fate) = k ≡ j → fate ≡ Dropped
IsVoid j _ = Unit {0}

-- from its end on, a job publishes and stores nothing
abbrev pub EndedJobsAreVoid : Type 0
EndedJobsAreVoid =
    (o : Opening) (past rest : List Entry) (j : ℕ) (h : How) → IsLegal o (past ++ rest)
    → how (replay o past) j ≡ Some h → AllByRecursion (λ (entry : Entry). IsVoid j entry.act) rest

-- so it is from its cancel on
abbrev pub CancelledJobsAreVoid : Type 0
CancelledJobsAreVoid =
    (o : Opening) (past rest : List Entry) (who j : ℕ)
    → IsLegal o (past ++ entry_of who (act.Cancel j) ∷ rest)
    → AllByRecursion (λ (entry : Entry). IsVoid j entry.act) rest

-- and from a later start on its canvas on
abbrev pub SupersededJobsAreVoid : Type 0
SupersededJobsAreVoid =
    (o : Opening) (past rest : List Entry) (who c j k : ℕ)
    → OfJob (replay o past) j (λ job. job.canvas ≡ c)
    → IsLegal o (started_between past who c k rest)
    → AllByRecursion (λ (entry : Entry). IsVoid j entry.act) rest

-- a slot is open where no look at it stands, and ready where a hit or a delivery stands that was stored or
-- kept
abbrev pub SlotsAreAsLooked : Type 0
SlotsAreAsLooked =
    (o : Opening) (past rest : List Entry) (who c j at : ℕ)
    → IsLegal o (started_between past who c j rest)
    → (job : Job) (slot : Slot)
    → job_in (replay o (started_between past who c j rest)).jobs j ≡ Some job
    → slice_get job.slots at ≡ Some slot
    → (is_open slot.standing ≡ not (some_act (looks_at j at) rest))
    × (is_ready slot.standing ≡ some_act (makes_ready j at) rest)

-- a slot of a job without end is touched where an edit that was accepted behind the start touches a
-- dependency of its layer in the job's project
abbrev pub TouchedByEdits : Type 0
TouchedByEdits =
    (o : Opening) (past rest : List Entry) (who c j at : ℕ)
    → IsLegal o (started_between past who c j rest)
    → (job : Job) (slot : Slot)
    → job_in (replay o (started_between past who c j rest)).jobs j ≡ Some job
    → slice_get job.slots at ≡ Some slot → job.ended ≡ None
    → slot.touched ≡ list_any (λ e. touches_any e (deps job.project slot.layer)) (edits rest)

-- somebody composes a job's picture where its compose stands
abbrev pub ComposerIsOfCompose : Type 0
ComposerIsOfCompose =
    (o : Opening) (past rest : List Entry) (who c j : ℕ) → IsLegal o (started_between past who c j rest)
    → OfJob (replay o (started_between past who c j rest)) j (λ job. is_none job.composer ≡ not (some_act
    (composes j) rest))

-- ---- the cache

-- a canvas's cache is changed by each act as the definition says, whatever the other canvases hold
abbrev pub CacheOfOneCanvas : Type 0
CacheOfOneCanvas =
    (s : State) (who c : ℕ) (a : Act) → cached (did s who a) c ≡ cache_behind s c a (cached s c)

-- what stands in a cache was painted for a job on its canvas, of the present parts of its layer
abbrev pub CachedImagesArePresent : Type 0
CachedImagesArePresent =
    (o : Opening) (journal : List Entry) (c : ℕ) → IsLegal o journal
    → AllByRecursion (IsPainted (replay o journal) c) (cached (replay o journal) c)

-- ---- the task

-- the task is that of the first job that has one
abbrev pub TaskIsOfTheFirst : Type 0
TaskIsOfTheFirst =
    (s : State) (j : ℕ) (job : Job) → job_in s.jobs j ≡ Some job → is_some (open_task j job) ≡ true
    → ((k : ℕ) (other : Job) → k < j → job_in s.jobs k ≡ Some other → open_task k other ≡ None)
    → task s ≡ open_task j job

-- a job without end has its least open slot as its task
abbrev pub TaskIsLeastSlot : Type 0
TaskIsLeastSlot =
    (j at : ℕ) (job : Job) (slot : Slot) → job.ended ≡ None → slice_get job.slots at ≡ Some slot
    → is_open slot.standing ≡ true
    → ((i : ℕ) (lower : Slot) → i < at → slice_get job.slots i ≡ Some lower → is_open lower.standing ≡ false)
    → open_task j job ≡ Some (Look j at)

-- and its composition where all slots are ready and nobody composes it
abbrev pub ComposeIsDue : Type 0
ComposeIsDue =
    (j : ℕ) (job : Job) → job.ended ≡ None
    → ((i : ℕ) (slot : Slot) → slice_get job.slots i ≡ Some slot → is_ready slot.standing ≡ true)
    → job.composer ≡ None → open_task j job ≡ Some (Compose j)
