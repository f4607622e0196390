-- What holds of a desk after every list of calls: laws, each the clause of a function of its name.
--
-- Source: this project's own; what an image and a picture are, `Pictures` of cv_model says.
use Rattle.std.specs.Prelude.{◌≡◌, ℕ, List, [], ◌∷◌, length, map, filter_map, slice_get, Option, Some, None, IfSome}
use Rattle.std.specs.Prelude.{IsSomeAnd}
use Rattle.std.specs.List.{AllByRecursion, range_with_len}
use Rattle.cv_model.specs.Edits.{project_at}
use Rattle.cv_model.specs.Layers.{Project, parts}
use Rattle.cv_model.specs.Paintings.{Painting, composed}
use Rattle.cv_model.specs.Pictures.{picture, picture_with}
use Rattle.cv_store.specs.Laws.{IsBehind}
use Rattle.cv_store.specs.Stores.{project_of, stamps_in, input_in}
use Rattle.cv_cache.specs.Caches.{painted_id}
use Rattle.cv_event.specs.declared.entry.Entry.{Entry}
use Rattle.cv_event.specs.declared.slot.Slot.{Slot}
use Rattle.cv_event.specs.States.{State, job_in, begin, replay}
use Rattle.cv_event.specs.Legality.{IsLegal, ready_from}
use Rattle.cv_event.specs.Histories.{edits, cached}
use Rattle.cv_event.specs.ShownLaws.{published_on}
use Rattle.cv_tables.specs.Rows.{Row, job_of, row_in, painting_of, compose_of, whole_of}
use Rattle.cv_tables.specs.Tabs.{Tab, PublishedJob, cached_of, taken_in}
use Rattle.cv_desk.specs.Desks.{History, state, IsPresent, IsOfItsJob, before_start, Notes, Stays, IsDesk}

-- ---- a list of calls

-- a call: its entry, if it has one, and the desk that it leaves
pub record Call : Type 0 where
  pub entry : Option Entry
  pub left : History

-- what the contract of a call says of a desk before and after it: one entry was put behind the journal, as it is
-- allowed, or none
abbrev pub IsCall : History → History → Option Entry → Type 0
IsCall old new None = Stays old new
IsCall old new (Some entry) = Notes old new entry.caller entry.act

-- calls of any callers, one after the other
abbrev pub AreCalls : History → List Call → Type 0
AreCalls h [] = Unit {0}
AreCalls h (call ∷ calls) = IsCall h call.left call.entry × AreCalls call.left calls

-- the desk that they leave, and their entries
abbrev pub left_by : History → List Call → History
left_by h [] = h
left_by h (call ∷ calls) = left_by call.left calls

abbrev pub entries_of : List Call → List Entry
entries_of calls = filter_map (λ (call : Call). call.entry) calls

-- a desk as it is opened
pub record IsOpened (h : History) : Type 0 where
  pub journal : h.journal ≡ []
  pub state : state h ≡ begin h.opening

-- after a list of calls the journal is the list of their entries and is legal, the desk's state is the one after
-- it, and the opening is the same
pub record IsHistory (opened : History) (calls : List Call) (h : History) : Type 0 where
  pub opening : h.opening ≡ opened.opening
  pub journal : h.journal ≡ entries_of calls
  pub legal : IsLegal h.opening h.journal
  pub state : replay h.opening h.journal ≡ state h

abbrev pub CallsMakeHistory : Type 0
CallsMakeHistory =
    (opened : History) (calls : List Call) → IsOpened opened → AreCalls opened calls
    → IsHistory opened calls (left_by opened calls)

-- ---- what a desk shows

-- the state after its journal
abbrev pub present : History → State
present h = replay h.opening h.journal

-- a painted layer is of the parts that its layer has in a project, so its image is the layer's pixels there
abbrev pub IsOf : Project → Painting → Type 0
IsOf project p = parts project (painted_id p) ≡ Some p.input.parts

-- the picture that a canvas has published is that of all slots of what the job took, also where these are listed
pub record ShowsLast (s : State) (c : ℕ) (last : PublishedJob) : Type 0 where
  pub taken : published_on s c ≡ Some (taken_in last)
  pub picture : composed (whole_of last.row) ≡ picture (project_of last.row.store) last.row.view
  pub listed : composed (whole_of last.row)
      ≡ picture_with (project_of last.row.store) last.row.view (range_with_len 0 (length last.row.slots))

-- the painted layers of a canvas are those that the definition of its cache names, in their order, each of the
-- present project, and with its present stamps; what it has published is of the job of that number
pub record ShowsCanvas (h : History) (c : ℕ) (tab : Tab) : Type 0 where
  pub cache : map cached_of tab.paintings ≡ cached (present h) c
  pub images : AllByRecursion (IsOf (present h).project) tab.paintings
  pub last : IfSome tab.published (ShowsLast (present h) c)
  pub inputs : AllByRecursion (IsPresent h.tables.store) tab.paintings
  pub named : IfSome tab.published (IsOfItsJob h.tables.rows c)

-- a slot of a job is painted of its layer's parts in the job's project, at the job's view
abbrev pub IsSlotOf : Row → Slot → Type 0
IsSlotOf row slot = IsSomeAnd (painting_of row.store row.view slot)
    (λ p. (parts (project_of row.store) slot.layer ≡ Some p.input.parts) × (p.view ≡ row.view))

-- a job is the one that the journal knows; what is composed of its ready slots is the picture of these, and of all
-- slots that of its project, at its view; what it took has the version and the revisions of the edits before its start
pub record ShowsJob (h : History) (j : ℕ) (row : Row) : Type 0 where
  pub job : job_in (present h).jobs j ≡ Some (job_of row)
  pub slots : AllByRecursion (IsSlotOf row) row.slots
  pub ready : composed (compose_of row) ≡ picture_with (project_of row.store) row.view (ready_from 0 row.slots)
  pub whole : composed (whole_of row) ≡ picture (project_of row.store) row.view
  pub behind : IsBehind h.opening.project (edits (before_start j h.journal)) row.store

-- a desk is its history: the journal is legal, the project is that of its accepted edits, and so are its version and
-- its revisions, and each canvas and each job shows what the definitions name
pub record IsKnown (h : History) : Type 0 where
  pub legal : IsLegal h.opening h.journal
  pub state : present h ≡ state h
  pub project : project_of h.tables.store ≡ project_at h.opening.project (edits h.journal) (length (edits h.journal))
  pub canvases : (c : ℕ) (tab : Tab) → slice_get h.tables.tabs c ≡ Some tab → ShowsCanvas h c tab
  pub jobs : (j : ℕ) (row : Row) → row_in h.tables.rows j ≡ Some row → ShowsJob h j row
  pub behind : IsBehind h.opening.project (edits h.journal) h.tables.store

abbrev pub DesksAreKnown : Type 0
DesksAreKnown = (h : History) → IsDesk h → IsKnown h

-- each call leaves a desk, which every value of the desk's type is
abbrev pub AreDesks : List Call → Type 0
AreDesks calls = AllByRecursion (λ (call : Call). IsDesk call.left) calls

-- after every list of calls, by any callers, from a desk as it is opened, the journal is the list of their entries and
-- is legal, the state is the one after it, and each canvas and each job of the desk that the last leaves shows what the
-- definitions name of that journal
abbrev pub ListsAreKnown : Type 0
ListsAreKnown =
    (opened : History) (calls : List Call) → IsOpened opened → IsDesk opened → AreDesks calls → AreCalls opened calls
    → IsHistory opened calls (left_by opened calls) × IsKnown (left_by opened calls)

-- ---- stamps

-- a layer that has equal stamps in two jobs of a desk has equal inputs there
abbrev pub StampsTellInputs : Type 0
StampsTellInputs =
    (h : History) (j k id : ℕ) (a b : Row) → IsKnown h
    → row_in h.tables.rows j ≡ Some a → row_in h.tables.rows k ≡ Some b
    → stamps_in a.store id ≡ stamps_in b.store id → input_in a.store id ≡ input_in b.store id

-- and so has one that has the present stamps in a job
abbrev pub StampsTellPresentInputs : Type 0
StampsTellPresentInputs =
    (h : History) (j id : ℕ) (row : Row) → IsKnown h → row_in h.tables.rows j ≡ Some row
    → stamps_in row.store id ≡ stamps_in h.tables.store id → input_in row.store id ≡ input_in h.tables.store id
