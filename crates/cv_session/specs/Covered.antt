-- What caller 0 holds where it is alone: each task that is owed for a job without end.
use Rattle.std.specs.Prelude.{◌≡◌, ◌⊎◌, ℕ, List, [], ◌∷◌, slice_get, Option, Some, None}
use Rattle.cv_event.specs.declared.slot.Slot.{Slot}
use Rattle.cv_event.specs.declared.slot.Standing.{Standing}
use Rattle.cv_event.specs.declared.slot.Standing.TheVariants.{Open, Missed, Ready, Lost}
use Rattle.cv_event.specs.declared.slot.Task.{Task}
use Rattle.cv_event.specs.declared.slot.Task.TheVariants.{Look, Compose}
use Rattle.cv_event.specs.States.{Job, State, job_in}

-- a task is in a list
abbrev pub Has : Task → List Task → Type 0
Has t [] = ⊥
Has t (u ∷ us) = (u ≡ t) ⊎ Has t us

-- what is held covers a slot, and a composition, of a job without end
abbrev pub CoversSlot : List Task → ℕ → ℕ → Standing → Type 0
CoversSlot ts j at Open = Unit {0}
CoversSlot ts j at (Missed who) = Has (Look j at) ts
CoversSlot ts j at Ready = Unit {0}
CoversSlot ts j at Lost = ⊥

abbrev pub CoversComposer : List Task → ℕ → Option ℕ → Type 0
CoversComposer ts j None = Unit {0}
CoversComposer ts j (Some who) = Has (Compose j) ts

pub record CoversJob (ts : List Task) (j : ℕ) (job : Job) : Type 0 where
  pub slots : (at : ℕ) (slot : Slot) → slice_get job.slots at ≡ Some slot → CoversSlot ts j at slot.standing
  pub composer : CoversComposer ts j job.composer

-- so it is of all jobs without end
abbrev pub Covers : State → List Task → Type 0
Covers s ts = (j : ℕ) (job : Job) → job_in s.jobs j ≡ Some job → job.ended ≡ None → CoversJob ts j job
