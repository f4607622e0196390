-- What a journal's text determines: laws, each the clause of a function of its name.
use Rattle.std.specs.Prelude.{◌≡◌, ℕ, ◌≤◌, List, ◌++◌, length, map, filter_map, Option, Some, None}
use Rattle.std.specs.List.{AllByRecursion}
use Rattle.cv_model.specs.declared.edit.Edit.{Edit}
use Rattle.cv_model.specs.declared.project.CanvasSpec.{CanvasSpec}
use Rattle.cv_model.specs.Layers.{Opening}
use Rattle.cv_event.specs.declared.entry.Act.{Act}
use Rattle.cv_event.specs.declared.entry.Act.TheVariants as act
use Rattle.cv_event.specs.declared.entry.Entry.{Entry}
use Rattle.cv_event.specs.declared.refused.Refused.{Refused}
use Rattle.cv_event.specs.Lines.{entry_line, refused_line, journal_text}
use Rattle.cv_event.specs.States.{Job, replay}
use Rattle.cv_event.specs.Legality.{IsLegal}
use Rattle.cv_event.specs.Readings.{read_line, entry_in, refused_in, entry_with, IsShort, IsLong, FitsAct}
use Rattle.cv_event.specs.Readings.{FitsEntry, FitsRefused}

-- an entry's line tells the entry, whatever text is behind it, but for the edit
abbrev pub LineTellsEntry : Type 0
LineTellsEntry =
    (e : Edit) (place edits : ℕ) (entry : Entry) (rest : List ℕ)
    → IsLong place → IsLong edits → FitsEntry entry
    → read_line (entry_in e) (entry_line place edits entry ++ rest) ≡ Some (entry_with e entry, rest)

-- a refused command's line tells the command
abbrev pub LineTellsRefused : Type 0
LineTellsRefused =
    (r : Refused) (rest : List ℕ) → FitsRefused r
    → read_line refused_in (refused_line r ++ rest) ≡ Some (r, rest)

-- ---- the numbers of legal journals

-- a canvas's size is of its types
abbrev pub FitsSpec : CanvasSpec → Type 0
FitsSpec spec = IsShort spec.w × IsShort spec.h

-- an opening has at most 32 layers, as many canvases as can be numbered, and sizes of their types
pub record FitsOpening (o : Opening) : Type 0 where
  pub layers : length o.project.layers ≤ 32
  pub count : IsShort (length o.canvases)
  pub sizes : AllByRecursion FitsSpec o.canvases

-- the numbers of a legal journal's acts are of their types; it bounds neither the callers' numbers nor how
-- many entries there are
abbrev pub LegalActsFit : Type 0
LegalActsFit =
    (o : Opening) (journal : List Entry) → FitsOpening o → IsLegal o journal
    → AllByRecursion (λ (entry : Entry). FitsAct entry.act) journal

-- a job of a legal journal has at most as many slots as a preview can tell
abbrev pub JobsHaveFewSlots : Type 0
JobsHaveFewSlots =
    (o : Opening) (journal : List Entry) → FitsOpening o → IsLegal o journal
    → AllByRecursion (λ (job : Job). length job.slots ≤ 32) (replay o journal).jobs

-- ---- whole texts

-- the numbers of a text are of their types
pub record FitsText (journal : List Entry) (refused : List Refused) (images : ℕ) : Type 0 where
  pub entries : AllByRecursion FitsEntry journal
  pub count : IsLong (length journal)
  pub commands : AllByRecursion FitsRefused refused
  pub files : IsLong images

-- the edit of an act
abbrev pub edit_of : Act → Option Edit
edit_of (act.Edit e verdict) = Some e
edit_of _ = None

-- the edits of a journal, accepted or refused, in order
abbrev pub all_edits : List Entry → List Edit
all_edits journal = filter_map (λ (entry : Entry). edit_of entry.act) journal

-- a text determines its journal but for the edits, the refused commands and the number of images
abbrev pub TextTellsJournal : Type 0
TextTellsJournal =
    (xs ys : List Entry) (p q : List Refused) (k l : ℕ) → FitsText xs p k → FitsText ys q l
    → journal_text xs p k ≡ journal_text ys q l
    → ((e : Edit) → map (entry_with e) xs ≡ map (entry_with e) ys) × (p ≡ q) × (k ≡ l)

-- and, with the list of the edits, the journal; the numbers must be of their types, since a preview's slots
-- are a number of bits of which a line tells 32: those of a legal journal's acts are (`LegalActsFit`)
abbrev pub TextAndEditsTellJournal : Type 0
TextAndEditsTellJournal =
    (xs ys : List Entry) (p q : List Refused) (k l : ℕ) → FitsText xs p k → FitsText ys q l
    → all_edits xs ≡ all_edits ys → journal_text xs p k ≡ journal_text ys q l
    → (xs ≡ ys) × (p ≡ q) × (k ≡ l)
