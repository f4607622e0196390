-- What a session that plays a script on one thread reports.
--
-- Source: this project's own.
use Rattle.std.specs.Prelude.{◌≡◌, ℕ, suc, List, length, Option, Result, Ok, Err, IsTrue, IfSome}
use Rattle.std.specs.List.{AllZip}
use Rattle.cv_outside.specs.Counts.{Rose}
use Rattle.cv_outside.specs.Seen.{TraySeen}
use Rattle.cv_model.specs.declared.project.CanvasSpec.{CanvasSpec}
use Rattle.cv_model.specs.Layers.{Opening}
use Rattle.cv_model.specs.Views.{PixelGrid}
use Rattle.cv_event.specs.Legality.{IsLegal}
use Rattle.cv_script.specs.declared.script.Numbered.{Numbered}
use Rattle.cv_session.specs.declared.report.Report.{Report}
use Rattle.cv_session.specs.declared.report.SessionError.{SessionError}
use Rattle.cv_session.specs.declared.report.SessionError.TheVariants.{Tray, NoMemory}
use Rattle.cv_session.specs.Follows.{Follows, FollowsBefore}
use Rattle.cv_session.specs.Writes.{writes}
use Rattle.cv_session.specs.Plays.{Written}
use Rattle.cv_session.specs.Files.{Puts, Breaks}

-- a view is of its canvas's size, if there is one
abbrev pub FitsSize : CanvasSpec → Option PixelGrid → Type 0
FitsSize spec view = IfSome view (λ v. (v.w ≡ spec.w) × (v.h ≡ spec.h))

-- there are as many views as canvases, each of its canvas's size
abbrev pub AreFirst : List CanvasSpec → List (Option PixelGrid) → Type 0
AreFirst canvases views = AllZip FitsSize canvases views

-- the files of a report
abbrev pub reported : Opening → List Numbered → Report → List Written
reported opening script r = writes opening script r.journal.entries r.refused

-- a script is through: the journal is legal and follows it, and all its pictures are put in
pub record RunDone (opening : Opening) (views : List (Option PixelGrid)) (script : List Numbered) (r : Report)
    (tray tray' : TraySeen) : Type 0 where
  pub legal : IsLegal opening r.journal.entries
  pub follows : Follows opening views script 0 r.journal.entries r.refused
  pub images : r.images ≡ length (reported opening script r)
  pub puts : IsTrue tray.tells → Puts (reported opening script r) tray.files tray'.files

-- the write of this picture failed: the journal is legal and follows the script cut behind the command that
-- writes it, and the pictures before it are put in
pub record RunBroken (opening : Opening) (views : List (Option PixelGrid)) (script : List Numbered) (image : ℕ)
    (r : Report) (tray tray' : TraySeen) : Type 0 where
  pub fault : Rose tray.faults tray'.faults
  pub legal : IsLegal opening r.journal.entries
  pub left : List Numbered
  pub follows : FollowsBefore left opening views script 0 r.journal.entries r.refused
  pub images : image ≡ suc r.images
  pub last : length (reported opening script r) ≡ image
  pub breaks : IsTrue tray.tells → Breaks r.images (reported opening script r) tray.files tray'.files

-- what a session leaves by its answer
abbrev pub RunEnds : Opening → List (Option PixelGrid) → List Numbered → Result Report SessionError
    → (tray tray' : TraySeen) → Type 0
RunEnds opening views script (Ok r) tray tray' = RunDone opening views script r tray tray'
RunEnds opening views script (Err (Tray image r)) tray tray' = RunBroken opening views script image r tray tray'
RunEnds opening views script (Err NoMemory) tray tray' = Unit {0}
