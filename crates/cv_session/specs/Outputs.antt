-- What a command that may write a file leaves of a session and of the tray.
--
-- Source: this project's own.
use Rattle.std.specs.Prelude.{◌≡◌, ℕ, List, [], ◌∷◌, length, slice_get, Some, None, Result, Ok, Err, IsTrue}
use Rattle.std.specs.Prelude.{IsSomeAnd}
use Rattle.cv_outside.specs.declared.ends.TrayEnd.TheVariants.{Kept}
use Rattle.cv_outside.specs.Counts.{Rose}
use Rattle.cv_outside.specs.Reads.{SameFiles}
use Rattle.cv_outside.specs.Seen.{TraySeen}
use Rattle.cv_outside.specs.Writes.{OthersStay, Writes}
use Rattle.cv_model.specs.Paintings.{Composition, composed}
use Rattle.cv_desk.specs.declared.errors.PreviewError.{PreviewError}
use Rattle.cv_desk.specs.declared.errors.PreviewError.TheVariants as preview_error
use Rattle.cv_desk.specs.declared.errors.SaveError.{SaveError}
use Rattle.cv_desk.specs.declared.errors.SaveError.TheVariants as save_error
use Rattle.cv_event.specs.declared.entry.Act.TheVariants as act
use Rattle.cv_event.specs.declared.refused.Reason.{Reason}
use Rattle.cv_event.specs.Legality.{OfJob}
use Rattle.cv_event.specs.States.{job_in}
use Rattle.cv_script.specs.declared.script.Command.{Command}
use Rattle.cv_session.specs.declared.outputs.Stop.{Stop}
use Rattle.cv_session.specs.declared.outputs.Stop.TheVariants as stop
use Rattle.cv_session.specs.Plays.{Written, picture_by, file_of}
use Rattle.cv_session.specs.Files.{Puts}
use Rattle.cv_session.specs.Seats.{Seat, now, Enters, Refuses, Obeys}

-- a file is put into the tray; or the tray failed, and the file is whatever it is; or nothing was put
abbrev pub IsPut : Written → Result ℕ Stop → (old new : TraySeen) → Type 0
IsPut file (Ok n) old new =
    (n ≡ 1) × (IsTrue old.tells → Writes Kept old.files new.files file.name file.bytes)
IsPut file (Err stop.Tray) old new =
    Rose old.faults new.faults × (IsTrue old.tells → OthersStay old.files new.files file.name)
IsPut file (Err stop.NoMemory) old new = IsTrue old.tells → SameFiles old.files new.files

-- a preview is entered, with what its picture is composed of; or the job isn't there, or has an end
abbrev pub PreviewEnters : Seat → Seat → ℕ → Result Composition PreviewError → Type 0
PreviewEnters old new j (Ok made) =
    (bits : ℕ) × Enters old new (act.Preview j bits) × (picture_by (now old) (act.Preview j bits) ≡ Some (composed made))
PreviewEnters old new j (Err preview_error.UnknownJob) = job_in (now old).jobs j ≡ None
PreviewEnters old new j (Err (preview_error.Ended h)) = OfJob (now old) j (λ job. job.ended ≡ Some h)
PreviewEnters old new j (Err preview_error.NoMemory) = Unit {0}

-- a save is entered, with what its picture is composed of; or the canvas isn't there, or has published none
abbrev pub SaveEnters : Seat → Seat → ℕ → Result Composition SaveError → Type 0
SaveEnters old new c (Ok made) =
    (j : ℕ) × Enters old new (act.Save c j) × (picture_by (now old) (act.Save c j) ≡ Some (composed made))
SaveEnters old new c (Err save_error.UnknownCanvas) = slice_get (now old).canvases c ≡ None
SaveEnters old new c (Err save_error.Nothing) =
    IsSomeAnd (slice_get (now old).canvases c) (λ k. k.published ≡ None)
SaveEnters old new c (Err save_error.NoMemory) = Unit {0}

-- a command that may write a file is refused, or there was no memory for its line
abbrev pub RefusedWrite : Seat → Seat → ℕ → Reason → Result ℕ Stop → Type 0
RefusedWrite old new line why (Ok n) = (n ≡ 0) × Refuses old new line why
RefusedWrite old new line why (Err stop.Tray) = ⊥
RefusedWrite old new line why (Err stop.NoMemory) = Unit {0}

-- a command is through, and the files that it writes are put in
pub record Done (old new : Seat) (line : ℕ) (c : Command) (n : ℕ) (tray tray' : TraySeen) : Type 0 where
  pub files : List Written
  pub obeys : Obeys old new line c files
  pub count : n ≡ length files
  pub puts : IsTrue tray.tells → Puts files tray.files tray'.files

-- a command is through but for its file, whose write failed
pub record Broken (old new : Seat) (line : ℕ) (c : Command) (tray tray' : TraySeen) : Type 0 where
  pub file : Written
  pub names : file_of c ≡ Some file.name
  pub obeys : Obeys old new line c (file ∷ [])
  pub refused : new.refused ≡ old.refused
  pub fault : Rose tray.faults tray'.faults
  pub others : IsTrue tray.tells → OthersStay tray.files tray'.files file.name

-- what a command leaves by its answer: how many files it wrote, or why the session stops
abbrev pub CommandEnds : Seat → Seat → ℕ → Command → Result ℕ Stop → (old new : TraySeen) → Type 0
CommandEnds old new line c (Ok n) tray tray' = Done old new line c n tray tray'
CommandEnds old new line c (Err stop.Tray) tray tray' = Broken old new line c tray tray'
CommandEnds old new line c (Err stop.NoMemory) tray tray' = Unit {0}
