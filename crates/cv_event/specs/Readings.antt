-- Reading a journal's text back, line by line. A line tells its entry but for the edit, which it names by its
-- number.
--
-- Source: this project's own.
use Rattle.std.specs.Prelude.{ℕ, ◌+◌, ◌*◌, ◌^◌, ◌<◌, ◌==◌, Bool, true, false, if◌then◌else◌, List, []}
use Rattle.std.specs.Prelude.{◌∷◌, codes, Option, Some, None, option_map, option_and_then, find}
use Rattle.std.specs.Char.{digit_value}
use Rattle.std.specs.Int.Signed.{mag}
use Rattle.std.specs.List.{sum_by}
use Rattle.std.specs.Str.{bytes_eq}
use Rattle.std.specs.Str.Parse.{digits_value, signed_digits_value}
use Rattle.cv_model.specs.declared.edit.Edit.{Edit}
use Rattle.cv_model.specs.declared.edit.EditError.{EditError}
use Rattle.cv_model.specs.declared.edit.EditError.TheVariants as error
use Rattle.cv_model.specs.Views.{PixelGrid}
use Rattle.cv_event.specs.declared.entry.Act.{Act}
use Rattle.cv_event.specs.declared.entry.Act.TheVariants as act
use Rattle.cv_event.specs.declared.entry.Entry.{Entry}
use Rattle.cv_event.specs.declared.entry.Fate.{Fate}
use Rattle.cv_event.specs.declared.entry.Fate.TheVariants.{Stored, Kept, Dropped}
use Rattle.cv_event.specs.declared.refused.Reason.{Reason}
use Rattle.cv_event.specs.declared.refused.Reason.TheVariants as reason
use Rattle.cv_event.specs.declared.refused.Refused.{Refused}
use Rattle.cv_event.specs.Lines.{verdict_word, hit_word, fate_word, reason_word}

-- ---- the words of a line

-- words with a byte in front, which begins a new word where it is a space
abbrev pub byte_before : Bool → ℕ → List (List ℕ) → List (List ℕ)
byte_before true c words = [] ∷ words
byte_before false c [] = (c ∷ []) ∷ []
byte_before false c (word ∷ words) = (c ∷ word) ∷ words

-- the words of a text's first line, and the text behind that line
abbrev pub words_of_line : List ℕ → Option (List (List ℕ) × List ℕ)
words_of_line [] = None
words_of_line (c ∷ rest) =
    if c == 10 then Some ([] ∷ [], rest)
    else option_map (λ r. (byte_before (c == 32) c r.0, r.1)) (words_of_line rest)

-- what a reader of words makes of a text's first line, and the text behind that line
abbrev pub read_line : {A : Type 0} → (List (List ℕ) → Option A) → List ℕ → Option (A × List ℕ)
read_line read text =
    option_and_then (λ r. option_map (λ x. (x, r.1)) (read r.0)) (words_of_line text)

-- ---- words

-- that one of some values whose word this is
abbrev pub with_word : {A : Type 0} → (A → List ℕ) → List A → List ℕ → Option A
with_word word_of values word = find (λ x. bytes_eq (word_of x) word) values

abbrev pub verdicts : List (Option EditError)
verdicts =
    None ∷ Some error.UnknownLayer ∷ Some error.UnknownFeature ∷ Some error.WrongKind
    ∷ Some error.DuplicateId ∷ Some error.Limit ∷ Some error.BadPlace ∷ Some error.NoMemory ∷ []

abbrev pub answers : List Bool
answers = true ∷ false ∷ []

abbrev pub fates : List Fate
fates = Stored ∷ Kept ∷ Dropped ∷ []

abbrev pub reasons : List Reason
reasons =
    reason.UnknownLayer ∷ reason.UnknownFeature ∷ reason.WrongKind ∷ reason.DuplicateId ∷ reason.Limit
    ∷ reason.BadPlace ∷ reason.UnknownCanvas ∷ reason.Empty ∷ reason.Range ∷ reason.NoView
    ∷ reason.TooManyJobs ∷ reason.NoJob ∷ reason.EndedFinished ∷ reason.EndedCancelled
    ∷ reason.EndedNoMemory ∷ reason.HeldFull ∷ reason.Nothing ∷ reason.NothingHeld ∷ []

-- the number of a word of digits
abbrev pub number : List ℕ → ℕ
number word = digits_value 10 word

-- numbers with commas between them, where the first one begins with the digits of n
abbrev pub numbers_from : ℕ → List ℕ → List ℕ
numbers_from n [] = n ∷ []
numbers_from n (c ∷ rest) =
    if c == 44 then n ∷ numbers_from 0 rest else numbers_from (n * 10 + digit_value c) rest

-- the slots of a preview's word, none where it is a dash
abbrev pub slots_in : List ℕ → List ℕ
slots_in [] = []
slots_in (c ∷ rest) = if c == 45 then [] else numbers_from 0 (c ∷ rest)

-- slots as a number, bit k for slot k
abbrev pub bits_of : List ℕ → ℕ
bits_of slots = sum_by (λ k. 2 ^ k) slots

-- ---- an act

abbrev pub edit_in : Edit → List (List ℕ) → Option Act
edit_in e (edits ∷ verdict ∷ []) = option_map (act.Edit e) (with_word verdict_word verdicts verdict)
edit_in e _ = None

abbrev pub view_in : List (List ℕ) → Option Act
view_in (c ∷ left ∷ top ∷ unit ∷ width ∷ height ∷ []) =
    Some (act.View (number c) (record {
      lx2 = signed_digits_value 10 left;
      ty2 = signed_digits_value 10 top;
      u = signed_digits_value 10 unit;
      w = number width;
      h = number height;
    }))
view_in _ = None

abbrev pub look_in : List (List ℕ) → Option Act
look_in (job ∷ slot ∷ hit ∷ []) =
    option_map (act.Look (number job) (number slot)) (with_word hit_word answers hit)
look_in _ = None

abbrev pub delivery_in : List (List ℕ) → Option Act
delivery_in (job ∷ slot ∷ fate ∷ []) =
    option_map (act.Deliver (number job) (number slot)) (with_word fate_word fates fate)
delivery_in _ = None

abbrev pub preview_in : List (List ℕ) → Option Act
preview_in (job ∷ slots ∷ []) = Some (act.Preview (number job) (bits_of (slots_in slots)))
preview_in _ = None

-- an act of one number, or of two
abbrev pub one_number : (ℕ → Act) → List (List ℕ) → Option Act
one_number made (n ∷ []) = Some (made (number n))
one_number made _ = None

abbrev pub two_numbers : (ℕ → ℕ → Act) → List (List ℕ) → Option Act
two_numbers made (m ∷ n ∷ []) = Some (made (number m) (number n))
two_numbers made _ = None

-- what a table has for a word
abbrev pub found : {A : Type 0} → List (List ℕ × A) → List ℕ → Option A
found [] word = None
found (row ∷ rows) word = if bytes_eq row.0 word then Some row.1 else found rows word

-- how the words behind each act's first word are read, where the edit is e
abbrev pub act_readers : Edit → List (List ℕ × (List (List ℕ) → Option Act))
act_readers e =
    (codes "edit", edit_in e) ∷ (codes "view", view_in) ∷ (codes "start", two_numbers act.Start)
    ∷ (codes "look", look_in) ∷ (codes "deliver", delivery_in) ∷ (codes "compose", one_number act.Compose)
    ∷ (codes "finish", one_number act.Finish) ∷ (codes "fail", one_number act.Fail)
    ∷ (codes "cancel", one_number act.Cancel) ∷ (codes "preview", preview_in)
    ∷ (codes "save", two_numbers act.Save) ∷ []

abbrev pub act_in : Edit → List (List ℕ) → Option Act
act_in e [] = None
act_in e (first ∷ words) = option_and_then (λ read. read words) (found (act_readers e) first)

-- ---- lines

abbrev pub entry_of : ℕ → Act → Entry
entry_of who a = record { caller = who; act = a }

-- the entry that the words of a line tell, where the edit is e
abbrev pub entry_in : Edit → List (List ℕ) → Option Entry
entry_in e (place ∷ caller ∷ words) = option_map (entry_of (number caller)) (act_in e words)
entry_in e _ = None

abbrev pub refused_of : ℕ → ℕ → Reason → Refused
refused_of line seen reason = record { line = line; seen = seen; reason = reason }

-- the refused command that the words of a line tell
abbrev pub refused_in : List (List ℕ) → Option Refused
refused_in (first ∷ line ∷ seen ∷ reason ∷ []) =
    option_map (refused_of (number line) (number seen)) (with_word reason_word reasons reason)
refused_in _ = None

-- ---- what a line leaves out, and which numbers it can tell

-- an act with this edit in the place of its own
abbrev pub with_edit : Edit → Act → Act
with_edit e (act.Edit d verdict) = act.Edit e verdict
with_edit e a = a

abbrev pub entry_with : Edit → Entry → Entry
entry_with e entry = entry_of entry.caller (with_edit e entry.act)

-- numbers of 32 bits, and of 64
abbrev pub IsShort : ℕ → Type 0
IsShort n = n < 2 ^ 32

abbrev pub IsLong : ℕ → Type 0
IsLong n = n < 2 ^ 64

-- a view's numbers are of their types
pub record HasTypes (view : PixelGrid) : Type 0 where
  pub left : mag view.lx2 < 2 ^ 63
  pub top : mag view.ty2 < 2 ^ 63
  pub unit : mag view.u < 2 ^ 63
  pub width : IsShort view.w
  pub height : IsShort view.h

-- so are an act's
abbrev pub FitsAct : Act → Type 0
FitsAct (act.Edit e verdict) = Unit {0}
FitsAct (act.View c view) = IsShort c × HasTypes view
FitsAct (act.Start c job) = IsShort c × IsShort job
FitsAct (act.Look job slot hit) = IsShort job × IsShort slot
FitsAct (act.Deliver job slot fate) = IsShort job × IsShort slot
FitsAct (act.Compose job) = IsShort job
FitsAct (act.Finish job) = IsShort job
FitsAct (act.Fail job) = IsShort job
FitsAct (act.Cancel job) = IsShort job
FitsAct (act.Preview job bits) = IsShort job × IsShort bits
FitsAct (act.Save c job) = IsShort c × IsShort job

-- so are an entry's, and a refused command's
abbrev pub FitsEntry : Entry → Type 0
FitsEntry entry = IsShort entry.caller × FitsAct entry.act

abbrev pub FitsRefused : Refused → Type 0
FitsRefused r = IsShort r.line × IsLong r.seen
