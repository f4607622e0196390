-- How a session begins, and how it plays a whole script.
--
-- Source: this project's own.
use Rattle.std.specs.Prelude.{◌≡◌, ℕ, suc, List, [], ◌∷◌, ◌++◌, ◌≤◌, length, slice_get, Option, Some, Result, Ok, Err, IsTrue}
use Rattle.cv_model.specs.Layers.{Opening}
use Rattle.cv_model.specs.Views.{PixelGrid}
use Rattle.cv_outside.specs.Seen.{TraySeen}
use Rattle.cv_event.specs.States.{State, begin}
use Rattle.cv_script.specs.declared.script.Numbered.{Numbered}
use Rattle.cv_session.specs.declared.outputs.Stop.{Stop}
use Rattle.cv_session.specs.declared.outputs.Stop.TheVariants as stop
use Rattle.cv_session.specs.declared.run.Halt.{Halt}
use Rattle.cv_session.specs.declared.run.Halt.TheVariants as halt
use Rattle.cv_session.specs.Plays.{Opens, Begins, Closes, Written}
use Rattle.cv_session.specs.Files.{Puts}
use Rattle.cv_session.specs.Seats.{Seat, now, IsOfSize, Moves}
use Rattle.cv_session.specs.Outputs.{Broken}

-- a session as it is opened
pub record IsOpened (o : Opening) (seat : Seat) : Type 0 where
  pub opening : seat.history.opening ≡ o
  pub journal : seat.history.journal ≡ []
  pub state : now seat ≡ begin o
  pub held : seat.held ≡ []
  pub refused : seat.refused ≡ []

-- ---- first views

-- the canvas of this number is through with its first view, whatever views and commands are behind it
abbrev pub ShowsFirst : Seat → Seat → ℕ → Option PixelGrid → Type 0
ShowsFirst old new c view =
    (views : List (Option PixelGrid)) (cs : List Numbered)
    → Moves (Opens c (view ∷ views)) cs old (Opens (suc c) views) cs new []

-- views keep to the sizes of canvases
abbrev pub SizesStay : State → State → Type 0
SizesStay old new = (c : ℕ) (view : PixelGrid) → IsOfSize old c view → IsOfSize new c view

-- the views of canvases, from the first on, are of their sizes
abbrev pub AreOfSize : State → List (Option PixelGrid) → Type 0
AreOfSize s views = (c : ℕ) (view : PixelGrid) → slice_get views c ≡ Some (Some view) → IsOfSize s c view

-- all canvases are through with their first views, whatever the commands
abbrev pub ShowsAll : Seat → Seat → List (Option PixelGrid) → Type 0
ShowsAll old new views = (cs : List Numbered) → Moves (Opens 0 views) cs old Begins cs new []

-- ---- commands

-- what a command that writes no file tells: that no file was written, or that memory ran out
abbrev pub told_by : {E : Type 0} → Result (Unit {0}) E → Result ℕ Stop
told_by (Ok _) = Ok 0
told_by (Err _) = Err stop.NoMemory

-- commands are through but for those that are left, and so many files are put in
pub record Through (cs : List Numbered) (old new : Seat) (left : List Numbered) (images : ℕ) (tray tray' : TraySeen)
    : Type 0 where
  pub files : List Written
  pub moves : Moves Begins cs old Begins left new files
  pub count : images ≡ length files
  pub puts : IsTrue tray.tells → Puts files tray.files tray'.files

-- the write of this file, counted from 1, failed: the commands before are through, and the one that writes it
-- but for its file
pub record Cut (cs : List Numbered) (old new : Seat) (image : ℕ) (tray tray' : TraySeen) : Type 0 where
  pub before : List Numbered
  pub cut : Numbered
  pub left : List Numbered
  pub script_is : cs ≡ before ++ cut ∷ left
  pub mid : Seat
  pub seen : TraySeen
  pub images : ℕ
  pub through : Through cs old mid (cut ∷ left) images tray seen
  pub told : seen.tells ≡ tray.tells
  pub counts : tray.faults ≤ seen.faults
  pub broken : Broken mid new cut.line cut.command seen tray'
  pub number : image ≡ suc images

-- what playing commands leaves by its answer
abbrev pub AllEnd : List Numbered → Seat → Seat → Result ℕ Halt → (tray tray' : TraySeen) → Type 0
AllEnd cs old new (Ok images) tray tray' = Through cs old new [] images tray tray'
AllEnd cs old new (Err (halt.Tray image)) tray tray' = Cut cs old new image tray tray'
AllEnd cs old new (Err halt.NoMemory) tray tray' = Unit {0}

-- behind the last command all held tasks are done
pub record Ends (old new : Seat) : Type 0 where
  pub moves : Moves Begins [] old Closes [] new []
  pub none : new.held ≡ []
