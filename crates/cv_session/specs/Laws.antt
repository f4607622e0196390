-- Laws of sessions, each the clause of a function of its name.
use Rattle.std.specs.Prelude.{◌≡◌, ◌≤◌, ◌⊎◌, ℕ, Bool, true, false, List, ◌++◌, length, filter_map, Option, Some, None}
use Rattle.std.specs.List.{list_all, AllByRecursion}
use Rattle.cv_model.specs.declared.edit.Edit.{Edit}
use Rattle.cv_model.specs.Layers.{Opening}
use Rattle.cv_model.specs.Views.{PixelGrid}
use Rattle.cv_event.specs.declared.entry.Act.{Act}
use Rattle.cv_event.specs.declared.entry.Act.TheVariants as act
use Rattle.cv_event.specs.declared.entry.Entry.{Entry}
use Rattle.cv_event.specs.declared.refused.Refused.{Refused}
use Rattle.cv_event.specs.Legality.{Allows, IsLegal}
use Rattle.cv_event.specs.Lines.{journal_text}
use Rattle.cv_event.specs.Readings.{IsShort, IsLong}
use Rattle.cv_event.specs.TextLaws.{FitsOpening, all_edits}
use Rattle.cv_script.specs.declared.script.Command.{Command}
use Rattle.cv_script.specs.declared.script.Command.TheVariants as command
use Rattle.cv_script.specs.declared.script.Numbered.{Numbered}
use Rattle.cv_session.specs.Playable.{IsPlayable}
use Rattle.cv_session.specs.Plays.{Play, planned, is_of_worker, Plays}
use Rattle.cv_session.specs.Follows.{at_first, Follows, FollowsBefore}
use Rattle.cv_session.specs.Writes.{writes}
use Rattle.cv_session.specs.Entered.{May}

-- ---- one result

-- an act is no fail
abbrev pub is_no_fail : Act → Bool
is_no_fail (act.Fail j) = false
is_no_fail _ = true

-- no task of a journal wanted memory
abbrev pub HasMemory : List Entry → Type 0
HasMemory journal = list_all (λ (entry : Entry). is_no_fail entry.act) journal ≡ true

-- with caller 0 alone and memory enough, one journal follows a script, and one list of commands is refused
abbrev pub OneJournalFollows : Type 0
OneJournalFollows =
    (o : Opening) (views : List (Option PixelGrid)) (script : List Numbered) (xs ys : List Entry)
    (p q : List Refused) → HasMemory xs → HasMemory ys → Follows o views script 0 xs p
    → Follows o views script 0 ys q → (xs ≡ ys) × (p ≡ q)

-- ---- what is entered

-- what caller 0 may enter, and is allowed to, is what is planned
abbrev pub AllowedIsPlanned : Type 0
AllowedIsPlanned = (a : Play) (d : Act) → May a d → Allows a.state 0 d → planned a ≡ Some d

-- what is planned, caller 0 may enter
abbrev pub PlannedMayBe : Type 0
PlannedMayBe = (a : Play) (d : Act) → planned a ≡ Some d → May a d

-- ---- edits and texts

-- the edit of a command
abbrev pub edit_in : Command → Option Edit
edit_in (command.Edit e) = Some e
edit_in _ = None

-- those of a script, in order
abbrev pub edits_in : List Numbered → List Edit
edits_in script = filter_map (λ (n : Numbered). edit_in n.command) script

-- a journal that follows a script has the script's edits, accepted or refused, in order
abbrev pub EditsAreOfScript : Type 0
EditsAreOfScript =
    (o : Opening) (views : List (Option PixelGrid)) (script : List Numbered) (workers : ℕ)
    (journal : List Entry) (refused : List Refused) → Follows o views script workers journal refused
    → all_edits journal ≡ edits_in script

-- so a script, whose lines have numbers of 32 bits, and a legal journal's text name one journal, whatever the
-- numbers of callers; of the lengths it takes what a journal can hold
abbrev pub ScriptAndTextTellJournal : Type 0
ScriptAndTextTellJournal =
    (o : Opening) (views : List (Option PixelGrid)) (script : List Numbered) (m n : ℕ) (xs ys : List Entry)
    (p q : List Refused) (k l : ℕ) → FitsOpening o
    → AllByRecursion (λ (c : Numbered). IsShort c.line) script → IsShort m → IsShort n
    → IsLong (length xs) → IsLong (length ys) → IsLong k → IsLong l → IsLegal o xs → IsLegal o ys
    → Follows o views script m xs p → Follows o views script n ys q
    → journal_text xs p k ≡ journal_text ys q l → (xs ≡ ys) × (p ≡ q) × (k ≡ l)

-- ---- files

-- a play of a script has written what the script, the legal journal and the refused commands say, also where
-- commands are left
abbrev pub FilesAreWrites : Type 0
FilesAreWrites =
    (o : Opening) (views : List (Option PixelGrid)) (script : List Numbered) (workers : ℕ)
    (journal : List Entry) (last : Play) → IsPlayable script → IsLegal o journal
    → Plays workers (at_first o views script) journal last
    → last.written ≡ writes o script journal last.refused

-- ---- other callers

-- an entry is of another caller, of which there are so many
pub record IsOfWorker (workers : ℕ) (entry : Entry) : Type 0 where
  pub other : 1 ≤ entry.caller
  pub known : entry.caller ≤ workers
  pub act : is_of_worker entry.act ≡ true

-- each entry of a journal that follows a script is of caller 0, or a look, a delivery, a compose, a finish or
-- a fail of another caller
abbrev pub OthersDoTasks : Type 0
OthersDoTasks =
    (o : Opening) (views : List (Option PixelGrid)) (script : List Numbered) (workers : ℕ)
    (journal : List Entry) (refused : List Refused) → Follows o views script workers journal refused
    → AllByRecursion (λ (entry : Entry). (entry.caller ≡ 0) ⊎ IsOfWorker workers entry) journal

-- a journal that follows a script cut behind a command that writes follows it so with the entries of other
-- callers behind it
abbrev pub OthersMayGoOn : Type 0
OthersMayGoOn =
    (left : List Numbered) (o : Opening) (views : List (Option PixelGrid)) (script : List Numbered)
    (workers : ℕ) (xs ys : List Entry) (refused : List Refused)
    → FollowsBefore left o views script workers xs refused → AllByRecursion (IsOfWorker workers) ys
    → FollowsBefore left o views script workers (xs ++ ys) refused
