-- Which journals follow a script.
--
-- Source: this project's own.
use Rattle.std.specs.Prelude.{◌≡◌, ℕ, true, List, [], ◌∷◌, ◌++◌, Option, is_some}
use Rattle.cv_model.specs.Layers.{Opening}
use Rattle.cv_model.specs.Views.{PixelGrid}
use Rattle.cv_event.specs.declared.entry.Entry.{Entry}
use Rattle.cv_event.specs.declared.refused.Refused.{Refused}
use Rattle.cv_event.specs.States.{begin}
use Rattle.cv_script.specs.declared.script.Numbered.{Numbered}
use Rattle.cv_session.specs.Plays.{Play, Opens, Begins, Closes, Plays}
use Rattle.cv_session.specs.Writes.{name_written}

-- the play of a script before any entry: the canvases with a view get theirs first
abbrev pub at_first : Opening → List (Option PixelGrid) → List Numbered → Play
at_first opening views script = record {
  read = 0;
  state = begin opening;
  known = begin opening;
  due = [];
  held = [];
  mode = Opens 0 views;
  commands = script;
  refused = [];
  written = [];
}

-- all commands are through, and no task is held
pub record IsThrough (a : Play) : Type 0 where
  pub mode : a.mode ≡ Closes
  pub held : a.held ≡ []
  pub commands : a.commands ≡ []

-- all commands but for these are through; tasks may be held
pub record IsBefore (left : List Numbered) (a : Play) : Type 0 where
  pub mode : a.mode ≡ Begins
  pub commands : a.commands ≡ left

-- with so many callers beside caller 0, a journal follows a script, and these commands are refused
pub record Follows (opening : Opening) (views : List (Option PixelGrid)) (script : List Numbered)
    (workers : ℕ) (journal : List Entry) (refused : List Refused) : Type 0 where
  pub last : Play
  pub plays : Plays workers (at_first opening views script) journal last
  pub is_through : IsThrough last
  pub refused_are : last.refused ≡ refused

-- a journal follows a script that is cut behind a command that writes a file, before those that are left;
-- tasks may be held behind it
pub record FollowsBefore (left : List Numbered) (opening : Opening) (views : List (Option PixelGrid))
    (script : List Numbered) (workers : ℕ) (journal : List Entry) (refused : List Refused) : Type 0 where
  pub last : Play
  pub plays : Plays workers (at_first opening views script) journal last
  pub is_before : IsBefore left last
  pub refused_are : last.refused ≡ refused
  pub before : List Numbered
  pub cut : Numbered
  pub script_is : script ≡ before ++ cut ∷ left
  pub wrote : is_some (name_written refused cut) ≡ true
