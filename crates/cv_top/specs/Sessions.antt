-- What a session reads and gives: a project and a script are read, and the script is played.
--
-- Source: this project's own.
use Rattle.std.specs.Prelude.{◌≡◌, ℕ, nat_lt, if◌then◌else◌, List, length, Result, Ok, Err}
use Rattle.cv_event.specs.declared.entry.Entry.{Entry}
use Rattle.cv_event.specs.declared.refused.Refused.{Refused}
use Rattle.cv_event.specs.Legality.{IsLegal}
use Rattle.cv_event.specs.Lines.{journal_text}
use Rattle.cv_script.specs.declared.error.ScriptError.{ScriptError}
use Rattle.cv_script.specs.declared.error.ScriptError.TheVariants.{BadLine, NoMemory}
use Rattle.cv_script.specs.declared.script.Numbered.{Numbered}
use Rattle.cv_script.specs.Scripts.{script_of}
use Rattle.cv_session.specs.Follows.{Follows, FollowsBefore}
use Rattle.cv_session.specs.Plays.{Written}
use Rattle.cv_session.specs.Writes.{writes}
use Rattle.cv_open.specs.declared.ends.End.{End}
use Rattle.cv_open.specs.declared.ends.End.TheVariants.{BadScript}
use Rattle.cv_open.specs.declared.ends.Which.TheVariants.{Script}
use Rattle.cv_open.specs.declared.opening.Opened.{Opened}
use Rattle.cv_open.specs.Opened.{opened, opening_in, views_in}
use Rattle.cv_open.specs.Readings.{Reads, only, file_of, ◌>>=◌}
use Rattle.cv_top.specs.declared.stage.Staged.{Staged}

-- ---- what is read

-- how many bytes a script's file may have
abbrev pub most_script : ℕ
most_script = 16777216

-- the commands that were read, or the line that was refused; want of memory is none of its answers here
abbrev pub as_script : Result (List Numbered) ScriptError → Result (List Numbered) End
as_script (Ok script) = Ok script
as_script (Err (BadLine line)) = Err (BadScript line)
as_script (Err NoMemory) = Err (BadScript 0)

-- the script of a file, or why its bytes are refused: they are too many, or a line isn't in the grammar
unfoldable pub script_said : List ℕ → Result (List Numbered) End
script_said bytes = if nat_lt most_script (length bytes) then Err (BadScript 0) else as_script (script_of bytes)

-- the script of this name is read
abbrev pub script_read : List ℕ → Reads (List Numbered)
script_read name = file_of (record { which = Script; name = name }) >>= (λ bytes. only (script_said bytes))

-- a project that was opened, with a script
abbrev pub staged : Opened → List Numbered → Reads Staged
staged opened script = only (Ok (record { opened = opened; script = script }))

-- the script of this name is read for a project that was opened
abbrev pub script_for : List ℕ → Opened → Reads Staged
script_for script opened = script_read script >>= staged opened

-- the project of this name is opened, and then the script of that name read
abbrev pub session_read : (project script : List ℕ) → Reads Staged
session_read project script = opened project >>= script_for script

-- ---- what is played

-- a legal history that follows the script on one thread, of which this holds: its pictures are these files,
-- and its text is this one
pub record IsPlay (s : Staged) (files : List Written) (text : List ℕ) (P : List Entry → Type 0) : Type 0 where
  pub journal : List Entry
  pub refused : List Refused
  pub legal : IsLegal (opening_in s.opened) journal
  pub follows : Follows (opening_in s.opened) (views_in s.opened) s.script 0 journal refused
  pub files_are : files ≡ writes (opening_in s.opened) s.script journal refused
  pub text_is : text ≡ journal_text journal refused (length files)
  pub holds : P journal

-- a legal history that follows the script cut behind a command that writes: its pictures are these files
pub record IsCut (s : Staged) (files : List Written) : Type 0 where
  pub journal : List Entry
  pub refused : List Refused
  pub left : List Numbered
  pub legal : IsLegal (opening_in s.opened) journal
  pub follows : FollowsBefore left (opening_in s.opened) (views_in s.opened) s.script 0 journal refused
  pub files_are : files ≡ writes (opening_in s.opened) s.script journal refused
