-- What a session holds: laws, each the clause of a function of its name.
use Rattle.std.specs.Prelude.{◌≡◌, ℕ, true, List, [], ◌∷◌, Option, Some, None, is_some}
use Rattle.std.specs.List.{AllByRecursion}
use Rattle.cv_model.specs.Layers.{Opening}
use Rattle.cv_model.specs.Views.{PixelGrid}
use Rattle.cv_event.specs.declared.entry.Entry.{Entry}
use Rattle.cv_event.specs.declared.slot.Standing.TheVariants.{Missed}
use Rattle.cv_event.specs.declared.slot.Task.{Task}
use Rattle.cv_event.specs.declared.slot.Task.TheVariants.{Look, Compose}
use Rattle.cv_event.specs.States.{State}
use Rattle.cv_event.specs.Legality.{OfJob, OfSlot, task, IsLegal}
use Rattle.cv_script.specs.declared.script.Numbered.{Numbered}
use Rattle.cv_session.specs.Plays.{Awaited, Works, Play, Plays}
use Rattle.cv_session.specs.Follows.{at_first}

-- a caller owes the delivery of a slot, or the finish of a job
abbrev pub Owes : State → ℕ → Task → Type 0
Owes s who (Look j at) = OfSlot s j at (λ job slot. slot.standing ≡ Missed who)
Owes s who (Compose j) = OfJob s j (λ job. job.composer ≡ Some who)

-- no two tasks of a list are the same
abbrev pub AreApart : List Task → Type 0
AreApart [] = Unit {0}
AreApart (t ∷ ts) = AllByRecursion (λ u. u ≡ t → ⊥) ts × AreApart ts

-- caller 0 owes these tasks of a state, each once
pub record HoldsTasks (s : State) (ts : List Task) : Type 0 where
  pub owed : AllByRecursion (Owes s 0) ts
  pub apart : AreApart ts

-- what caller 0 holds, whoever else does tasks, is its own to deliver and to finish, and each task once
abbrev pub HeldTasksAreOwed : Type 0
HeldTasksAreOwed =
    (o : Opening) (views : List (Option PixelGrid)) (script : List Numbered) (workers : ℕ)
    (journal : List Entry) (last : Play) → IsLegal o journal
    → Plays workers (at_first o views script) journal last
    → HoldsTasks last.state last.held

-- alone, caller 0 always finds a task while it waits for a job without end and holds none
abbrev pub AloneFindsTasks : Type 0
AloneFindsTasks =
    (o : Opening) (views : List (Option PixelGrid)) (script : List Numbered) (journal : List Entry)
    (last : Play) (w : Awaited) → IsLegal o journal → Plays 0 (at_first o views script) journal last
    → last.mode ≡ Works w → last.held ≡ [] → OfJob last.state w.job (λ job. job.ended ≡ None)
    → is_some (task last.state) ≡ true
