-- What a session keeps beside its desk: the tasks that caller 0 holds, the canvases' last jobs, and the
-- commands that were refused.
--
-- Source: this project's own.
use Rattle.std.specs.Prelude.{◌≡◌, ◌++◌, ◌∷◌, [], ℕ, List, map, length, drop, slice_get, Option, Some, None, option_map, Result, Ok, Err, IsSomeAnd}
use Rattle.std.specs.List.{AllByRecursion}
use Rattle.cv_model.specs.declared.edit.Edit.{Edit}
use Rattle.cv_model.specs.declared.edit.EditError.{EditError}
use Rattle.cv_model.specs.declared.edit.EditError.TheVariants.{NoMemory}
use Rattle.cv_model.specs.declared.project.CanvasSpec.{CanvasSpec}
use Rattle.cv_model.specs.Views.{PixelGrid}
use Rattle.cv_geom.specs.declared.views.ViewError.{ViewError}
use Rattle.cv_geom.specs.declared.views.ViewError.TheVariants as view_error
use Rattle.cv_event.specs.declared.entry.Act.{Act}
use Rattle.cv_event.specs.declared.entry.Act.TheVariants as act
use Rattle.cv_event.specs.declared.entry.Entry.{Entry}
use Rattle.cv_event.specs.declared.refused.Reason.{Reason}
use Rattle.cv_event.specs.declared.refused.Reason.TheVariants as reason
use Rattle.cv_event.specs.declared.refused.Refused.{Refused}
use Rattle.cv_event.specs.declared.slot.Task.{Task}
use Rattle.cv_event.specs.declared.slot.Task.TheVariants as task
use Rattle.cv_event.specs.States.{Canvas, State, view_on}
use Rattle.cv_tables.specs.Rows.{HasSlot, row_in, whole_of}
use Rattle.cv_desk.specs.Desks.{History, state, Notes, Stays}
use Rattle.cv_desk.specs.Answers.{IsPiece}
use Rattle.cv_script.specs.declared.script.Command.{Command}
use Rattle.cv_script.specs.declared.script.Numbered.{Numbered}
use Rattle.cv_session.specs.declared.seat.HeldTask.{HeldTask}
use Rattle.cv_session.specs.declared.seat.HeldTask.TheVariants as held
use Rattle.cv_session.specs.Responses.{Response, last_job, held_by}
use Rattle.cv_session.specs.Responses as reply
use Rattle.cv_session.specs.Plays.{Mode, Begins, Written, Play, due_in, Plays}
use Rattle.cv_session.specs.Entered.{IsClaim}
use Rattle.cv_session.specs.HeldLaws.{HoldsTasks}
use Rattle.cv_session.specs.Covered.{Covers}

-- a session's desk, the tasks that caller 0 holds, oldest first, each canvas's size and last job, and the
-- commands refused so far
pub record Seat : Type 0 where
  pub history : History
  pub held : List HeldTask
  pub specs : List CanvasSpec
  pub lasts : List (Option ℕ)
  pub refused : List Refused

-- the state of its desk
abbrev pub now : Seat → State
now seat = state seat.history

-- the task of what is held
abbrev pub task_of : HeldTask → Task
task_of (held.Paint piece) = task.Look piece.job piece.slot
task_of (held.Compose j input) = task.Compose j

abbrev pub tasks_of : Seat → List Task
tasks_of seat = map task_of seat.held

-- what is held is of the job's own input and view, or of all of its slots
abbrev pub IsHeldOf : History → HeldTask → Type 0
IsHeldOf h (held.Paint piece) = HasSlot h.tables.rows piece.job piece.slot (IsPiece piece.input piece.view)
IsHeldOf h (held.Compose j input) = IsSomeAnd (row_in h.tables.rows j) (λ row. input ≡ whole_of row)

-- how a canvas was made
abbrev pub canvas_spec : Canvas → CanvasSpec
canvas_spec canvas = canvas.spec

-- a view is of a canvas's size
abbrev pub IsOfSize : State → ℕ → PixelGrid → Type 0
IsOfSize s c view = IsSomeAnd (slice_get s.canvases c) (λ k. (view.w ≡ k.spec.w) × (view.h ≡ k.spec.h))

-- what a session keeps: caller 0 owes what it holds, each task once, and alone it holds all that is owed for jobs
-- without end; what it holds is of the jobs' own; the sizes of the canvases and their last jobs are those of the
-- state; views are of their size
pub record IsSeat (seat : Seat) : Type 0 where
  pub holds : HoldsTasks (now seat) (tasks_of seat)
  pub covers : Covers (now seat) (tasks_of seat)
  pub pieces : AllByRecursion (IsHeldOf seat.history) seat.held
  pub specs : (c : ℕ) → slice_get seat.specs c ≡ option_map canvas_spec (slice_get (now seat).canvases c)
  pub lasts : (c : ℕ) → slice_get seat.lasts c ≡ option_map (λ k. last_job (now seat) c) (slice_get (now seat).canvases c)
  pub sized : (c : ℕ) (view : PixelGrid) → view_on (now seat) c ≡ Some view → IsOfSize (now seat) c view

-- ---- what a call does to a seat

-- caller 0 entered an act
pub record Enters (old new : Seat) (a : Act) : Type 0 where
  pub notes : Notes old.history new.history 0 a
  pub held : new.held ≡ old.held
  pub refused : new.refused ≡ old.refused

-- nothing was entered
pub record Stands (old new : Seat) : Type 0 where
  pub stays : Stays old.history new.history
  pub held : new.held ≡ old.held
  pub refused : new.refused ≡ old.refused

-- caller 0 claimed a task by an act, and holds it, but for a look that hits
pub record Claims (old new : Seat) (a : Act) : Type 0 where
  pub claim : IsClaim a
  pub notes : Notes old.history new.history 0 a
  pub held : tasks_of new ≡ tasks_of old ++ held_by a
  pub refused : new.refused ≡ old.refused

-- the task that was held longest is held no more, and caller 0 entered an act: of that task, or that its job failed
pub record Serves (old new : Seat) (a : Act) : Type 0 where
  pub notes : Notes old.history new.history 0 a
  pub held : new.held ≡ drop 1 old.held
  pub refused : new.refused ≡ old.refused

-- nothing was entered, and the task that was held longest is let go
pub record LetsGo (old new : Seat) : Type 0 where
  pub history : new.history ≡ old.history
  pub held : new.held ≡ drop 1 old.held
  pub refused : new.refused ≡ old.refused

-- a command is refused by what is seen now
pub record Refuses (old new : Seat) (line : ℕ) (why : Reason) : Type 0 where
  pub history : new.history ≡ old.history
  pub held : new.held ≡ old.held
  pub refused : new.refused ≡ old.refused ++ record { line = line; seen = length old.history.journal; reason = why } ∷ []

-- what is asked for of a view that is there, or why there is none
abbrev pub asked_of : Result PixelGrid Reason → (PixelGrid → Response) → Response
asked_of (Ok view) ask = ask view
asked_of (Err why) ask = reply.Refuses why

-- a view is entered, or why there is none is a line
abbrev pub Shows : Seat → Seat → ℕ → ℕ → Result PixelGrid ViewError → Type 0
Shows old new line c (Ok view) = Enters old new (act.View c view)
Shows old new line c (Err view_error.Empty) = Refuses old new line reason.Empty
Shows old new line c (Err view_error.Range) = Refuses old new line reason.Range
Shows old new line c (Err view_error.Size) = Refuses old new line reason.Range

-- an edit is entered with its verdict
abbrev pub EditEnters : Seat → Seat → Edit → Result (Unit {0}) EditError → Type 0
EditEnters old new e (Ok _) = Enters old new (act.Edit e None)
EditEnters old new e (Err NoMemory) = Stands old new
EditEnters old new e (Err error) = Enters old new (act.Edit e (Some error))

-- ---- plays

-- the play of a seat
abbrev pub play_of : Mode → List Numbered → List Written → Seat → Play
play_of m cs written seat = record {
  read = length seat.history.journal;
  state = now seat;
  known = now seat;
  due = due_in (now seat);
  held = tasks_of seat;
  mode = m;
  commands = cs;
  refused = seat.refused;
  written = written;
}

-- a seat comes to another by entries that play these commands up to those, and write these files
pub record Moves (m : Mode) (cs : List Numbered) (old : Seat) (m2 : Mode) (cs2 : List Numbered) (new : Seat)
    (files : List Written) : Type 0 where
  pub entries : List Entry
  pub opening : new.history.opening ≡ old.history.opening
  pub journal : new.history.journal ≡ old.history.journal ++ entries
  pub plays : (before : List Written) → Plays 0 (play_of m cs before old) entries (play_of m2 cs2 (before ++ files) new)

-- a seat comes to another by one command, whatever commands are behind it
abbrev pub Obeys : Seat → Seat → ℕ → Command → List Written → Type 0
Obeys old new line c files =
    (rest : List Numbered) → Moves Begins (record { line = line; command = c } ∷ rest) old Begins rest new files
