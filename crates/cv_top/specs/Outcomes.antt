-- What a command gives: what it asks, and then a refusal, or files and a text; of a session also what it left
-- where it didn't come to its end.
use Rattle.std.specs.Prelude.{◌≡◌, ℕ, Bool, true, false, List, [], ◌∷◌, ◌++◌, length, codes, Result, Ok, Err}
use Rattle.std.specs.List.{list_all}
use Rattle.std.specs.Fmt.{decimal}
use Rattle.cv_model.specs.Layers.{Project}
use Rattle.cv_model.specs.Pictures.{picture}
use Rattle.cv_model.specs.Rasters.{ppm_of}
use Rattle.cv_model.specs.Views.{PixelGrid}
use Rattle.cv_open.specs.declared.ends.End.{End}
use Rattle.cv_open.specs.declared.ends.End.TheVariants.{Done, NoMemory, WriteFault}
use Rattle.cv_open.specs.declared.ends.Which.TheVariants.{Output}
use Rattle.cv_script.specs.declared.script.Numbered.{Numbered}
use Rattle.cv_event.specs.declared.entry.Entry.{Entry}
use Rattle.cv_event.specs.Lines.{journal_text}
use Rattle.cv_session.specs.Laws.{is_no_fail, HasMemory}
use Rattle.cv_session.specs.declared.report.Report.{Report}
use Rattle.cv_session.specs.declared.report.SessionError.{SessionError}
use Rattle.cv_session.specs.declared.report.SessionError.TheVariants.{Tray}
use Rattle.cv_session.specs.declared.report.SessionError.TheVariants as session_error
use Rattle.cv_session.specs.Plays.{Written}
use Rattle.cv_top.specs.declared.orders.Order.{Order}
use Rattle.cv_top.specs.declared.orders.Order.TheVariants.{Quick, Check, Paint, Session}
use Rattle.cv_top.specs.declared.stage.Staged.{Staged}
use Rattle.cv_open.specs.declared.opening.Opened.{Opened}
use Rattle.cv_open.specs.declared.canvas.Shown.{Shown}
use Rattle.cv_open.specs.declared.layer.Layered.{Layered}
use Rattle.cv_open.specs.Canvases.{shown}
use Rattle.cv_open.specs.Opened.{layer_read, opened, opening_in}
use Rattle.cv_open.specs.Readings.{Asked, FilesFound, Reading}
use Rattle.cv_open.specs.Reports.{report_of}
use Rattle.cv_open.specs.Rooms.{all_left}
use Rattle.cv_top.specs.Parts.{QuickParts, PaintParts}
use Rattle.cv_top.specs.Opened.{quick_source, quick_project}
use Rattle.cv_top.specs.Sessions.{session_read, IsPlay, IsCut}

-- what comes of the files that were read
pub data Product : Type 0 where
  -- a refusal
  Refused : End → Product
  -- files, first to last, and a text
  Made : List Written → List ℕ → Product
  -- files and a text of a session that is through; whether none of its tasks wanted memory
  Told : Bool → List Written → List ℕ → Product
  -- files of a session, the last of which couldn't be written
  Broken : List Written → Product
  -- a session of this script that got no memory
  Stopped : List Numbered → Product

-- what a command gives: the names that it asks, first to last, and what comes of their files
pub record Outcome : Type 0 where
  pub asked : List Asked
  pub product : Product

-- the end of a session that is through
abbrev pub end_told : Bool → End
end_told true = Done
end_told false = NoMemory

-- the end of a run that gives this
abbrev pub end_of : Product → End
end_of (Refused end) = end
end_of (Made files text) = Done
end_of (Told memory files text) = end_told memory
end_of (Broken files) = WriteFault (Output (length files))
end_of (Stopped script) = NoMemory

-- the text that is printed; there is none of a refusal, and of what didn't come to its end
abbrev pub text_of : Product → List ℕ
text_of (Refused end) = []
text_of (Made files text) = text
text_of (Told memory files text) = text
text_of (Broken files) = []
text_of (Stopped script) = []

-- what comes of reads: a refusal, or what is made of the value that they gave
abbrev pub product_from : {X : Type 0} → (X → Product) → Result X End → Product
product_from make (Ok x) = make x
product_from make (Err end) = Refused end

-- what a command gives that makes this of some reads
abbrev pub outcome_from : {X : Type 0} → (X → Product) → Reading X → Outcome
outcome_from make r = record { asked = r.asked; product = product_from make r.given }

-- what `quick` and `paint` print: the size of the picture
abbrev pub image_line : PixelGrid → List ℕ
image_line view = codes "image " ++ (decimal view.w ++ ((32 ∷ []) ++ (decimal view.h ++ 10 ∷ [])))

-- one file and a text
abbrev pub one_made : (name bytes text : List ℕ) → Product
one_made name bytes text = Made (record { name = name; bytes = bytes } ∷ []) text

-- the picture of a project at a view, under this name, and its size
abbrev pub picture_made : (name : List ℕ) → Project → PixelGrid → Product
picture_made name project view = one_made name (ppm_of (picture project view)) (image_line view)

-- `quick` makes the picture of the project of its one layer
abbrev pub quick_made : QuickParts → Layered → Product
quick_made order read = picture_made order.out (quick_project order.fill read.contents) order.view

-- `paint` makes that of the project that was opened, at the view of its canvas
abbrev pub painted : PaintParts → Shown → Product
painted order shown = picture_made order.out (opening_in shown.opened).project shown.view

-- `check` prints the report on what was opened
abbrev pub checked : Opened → Product
checked opened = Made [] (report_of opened)

-- the end of a session that stopped
abbrev pub error_end : SessionError → End
error_end (Tray image r) = WriteFault (Output image)
error_end session_error.NoMemory = NoMemory

-- what is printed of a session that is through
abbrev pub journal_made : Report → Product
journal_made r =
    Told (list_all (λ (entry : Entry). is_no_fail entry.act) r.journal.entries) []
    (journal_text r.journal.entries r.refused r.images)

-- what a session makes of a project and a script: a legal history that follows the script, whose journal is
-- the text, whose pictures are the files, and none of whose tasks wanted memory, or some; the same for a
-- script that is cut; or nothing is said
abbrev pub IsPlayed : Staged → Product → Type 0
IsPlayed s (Refused end) = ⊥
IsPlayed s (Made files text) = ⊥
IsPlayed s (Told true files text) = IsPlay s files text HasMemory
IsPlayed s (Told false files text) = IsPlay s files text (λ journal. HasMemory journal → ⊥)
IsPlayed s (Broken files) = IsCut s files
IsPlayed s (Stopped script) = script ≡ s.script

-- what a session gives of reads: a refusal, or what it makes of the value that they gave
abbrev pub IsPlayedOf : Result Staged End → Product → Type 0
IsPlayedOf (Ok s) p = IsPlayed s p
IsPlayedOf (Err end) p = p ≡ Refused end

-- what an order gives over the files that its reads find
abbrev pub IsOutcome : Order → FilesFound → Outcome → Type 0
IsOutcome (Quick order) reads o =
    o ≡ outcome_from (quick_made order) (layer_read 0 all_left (quick_source order.csv) reads)
IsOutcome (Check order) reads o = o ≡ outcome_from checked (opened order.project reads)
IsOutcome (Paint order) reads o = o ≡ outcome_from (painted order) (shown order.project order.canvas reads)
IsOutcome (Session order) reads o =
    (o.asked ≡ (session_read order.project order.script reads).asked)
    × IsPlayedOf (session_read order.project order.script reads).given o.product
