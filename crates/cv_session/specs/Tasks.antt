-- How a session claims and does tasks.
--
-- Source: this project's own.
use Rattle.std.specs.Prelude.{◌≡◌, ◌<◌, ◌+◌, ℕ, true, if◌then◌else◌, List, [], ◌∷◌, ◌++◌, map, drop, None}
use Rattle.std.specs.Prelude.{is_some, IsSome, IsSomeAnd}
use Rattle.std.specs.List.{AllByRecursion}
use Rattle.cv_event.specs.declared.entry.Act.{Act}
use Rattle.cv_event.specs.declared.entry.Act.TheVariants as act
use Rattle.cv_event.specs.declared.slot.Slot.{Slot}
use Rattle.cv_event.specs.declared.slot.Task.{Task}
use Rattle.cv_event.specs.declared.slot.Task.TheVariants as task_is
use Rattle.cv_event.specs.States.{Job, State, job_in}
use Rattle.cv_event.specs.Legality.{how, is_open, task}
use Rattle.cv_desk.specs.Desks.{History, state, Notes}
use Rattle.cv_desk.specs.declared.errors.ClaimError.{ClaimError}
use Rattle.cv_desk.specs.declared.errors.ClaimError.TheVariants as claim_error
use Rattle.cv_desk.specs.Answers.{IsOfJob}
use Rattle.cv_script.specs.declared.script.Numbered.{Numbered}
use Rattle.cv_session.specs.declared.seat.HeldTask.{HeldTask}
use Rattle.cv_session.specs.declared.tasks.Taken.{Taken}
use Rattle.cv_session.specs.declared.tasks.Taken.TheVariants as taken
use Rattle.cv_session.specs.Responses.{job_of_task, held_by}
use Rattle.cv_session.specs.Plays.{Awaited, Mode, GivesAll, Works, Closes}
use Rattle.cv_session.specs.Entered.{IsClaim, MayDo}
use Rattle.cv_session.specs.HeldLaws.{Owes}
use Rattle.cv_session.specs.Seats.{Seat, now, task_of, tasks_of, IsHeldOf, Moves}

-- ---- a claim

-- the job of the task that got no memory
abbrev pub failed_job : ClaimError → ℕ
failed_job (claim_error.NoMemory j) = j

-- caller 0 claimed a task by an act of these histories, and holds more
pub record ClaimsMore (old new : History) (a : Act) (more : List HeldTask) : Type 0 where
  pub claim : IsClaim a
  pub notes : Notes old new 0 a
  pub tasks : map task_of more ≡ held_by a
  pub own : AllByRecursion (IsHeldOf new) more

-- a claim takes the task that is due, and puts it behind what is held unless the cache served it; where there
-- was no memory, the task's job fails; nothing is taken where nothing is due
abbrev pub TakesInto : History → History → List HeldTask → List HeldTask → Taken → Type 0
TakesInto old new held now_held taken.Hit = (a : Act) × ClaimsMore old new a [] × (now_held ≡ held)
TakesInto old new held now_held taken.Held =
    (a : Act) × ((t : HeldTask) × (ClaimsMore old new a (t ∷ []) × (now_held ≡ held ++ t ∷ [])))
TakesInto old new held now_held taken.Failed =
    (j : ℕ) × Notes old new 0 (act.Fail j) × IsSomeAnd (task (state old)) (IsOfJob j) × (now_held ≡ held)
TakesInto old new held now_held taken.Nothing = (new ≡ old) × (now_held ≡ held) × (task (state old) ≡ None)

-- the same of seats, the rest of which stays
abbrev pub Takes : Seat → Seat → Taken → Type 0
Takes old new end = TakesInto old.history new.history old.held new.held end × (new.refused ≡ old.refused)

-- ---- a task that is done

-- caller 0 owes a task, which is of the job's own input and view, or of all of its slots
pub record IsDueOf (h : History) (t : HeldTask) : Type 0 where
  pub owed : Owes (state h) 0 (task_of t)
  pub own : IsHeldOf h t

-- a task is done by its entry, or its job fails in the entry's place, or it is a composition of a job that has
-- an end, and nothing is entered
pub data Served (old new : History) (t : Task) : Type 0 where
  is_done : (a : Act) → MayDo t a → Notes old new 0 a → Served old new t
  is_failed : Notes old new 0 (act.Fail (job_of_task t)) → Served old new t
  is_let_go : (j : ℕ) → t ≡ task_is.Compose j → new ≡ old → is_some (how (state old) (job_of_task t)) ≡ true
      → Served old new t

-- a task is left: nothing is entered, and its job has an end
pub record Left (old new : History) (j : ℕ) : Type 0 where
  pub same : new ≡ old
  pub over : is_some (how (state old) j) ≡ true

-- the task that was held longest is done
pub record ServesFirst (old new : Seat) : Type 0 where
  pub first : Task
  pub rest : List Task
  pub was : tasks_of old ≡ first ∷ rest
  pub becomes : tasks_of new ≡ rest
  pub held : new.held ≡ drop 1 old.held
  pub served : Served old.history new.history first
  pub refused : new.refused ≡ old.refused

-- ---- all held tasks

-- the jobs that are there stay
abbrev pub JobsStay : State → State → Type 0
JobsStay old new = (j : ℕ) → IsSome (job_in old.jobs j) → IsSome (job_in new.jobs j)

-- a session does all that is held
abbrev pub GivesRest : Mode → Type 0
GivesRest (GivesAll w) = Unit {0}
GivesRest Closes = Unit {0}
GivesRest _ = ⊥

-- all held tasks are done so far
pub record Gives (old new : Seat) : Type 0 where
  pub moves : (m : Mode) (cs : List Numbered) → GivesRest m → Moves m cs old m cs new []
  pub jobs : JobsStay (now old) (now new)

-- ---- a wait

-- a wait for a job, of some line, goes on
pub record WaitsOn (old new : Seat) (j : ℕ) : Type 0 where
  pub moves : (w : Awaited) (cs : List Numbered) → w.job ≡ j → Moves (Works w) cs old (Works w) cs new []
  pub jobs : JobsStay (now old) (now new)
  pub none : new.held ≡ []

-- how many tasks of a job without end were claimed by nobody: its open slots, and its composition
abbrev pub open_weight : Slot → ℕ
open_weight slot = if is_open slot.standing then 1 else 0

abbrev pub open_in : List Slot → ℕ
open_in [] = 0
open_in (slot ∷ slots) = open_weight slot + open_in slots

abbrev pub unclaimed_of : Job → ℕ
unclaimed_of job =
    if is_some job.ended then 0 else open_in job.slots + (if is_some job.composer then 0 else 1)

abbrev pub unclaimed : List Job → ℕ
unclaimed [] = 0
unclaimed (job ∷ jobs) = unclaimed_of job + unclaimed jobs

-- such a step claims
pub record WaitsOnce (old new : Seat) (j : ℕ) : Type 0 where
  pub goes : WaitsOn old new j
  pub fewer : unclaimed (now new).jobs < unclaimed (now old).jobs
