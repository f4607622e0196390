-- A desk: its opening, its journal, and the tables that are those of the state after the journal.
--
-- Source: in outline the developer documentation of QGIS (`QgsMapRendererParallelJob`, `QgsMapRendererCache`). All
-- rules are this project's own.
use Rattle.std.specs.Prelude.{◌≡◌, ◌≤◌, ◌++◌, ◌∷◌, [], ℕ, Bool, false, nat_eq, List, map, take, length, slice_get}
use Rattle.std.specs.Prelude.{Some, IfSome, IsSomeAnd}
use Rattle.std.specs.List.{AllByRecursion, IsDistinct, before_first}
use Rattle.std.specs.Option.{option_map_or}
use Rattle.cv_model.specs.Layers.{Opening, Project, slots}
use Rattle.cv_model.specs.Paintings.{Painting}
use Rattle.cv_model.specs.Views.{PixelGrid}
use Rattle.cv_store.specs.Laws.{IsBehind}
use Rattle.cv_store.specs.Stores.{StoreParts, project_of, id_of, input_in}
use Rattle.cv_cache.specs.Caches.{painted_id}
use Rattle.cv_event.specs.declared.entry.Act.{Act}
use Rattle.cv_event.specs.declared.entry.Entry.{Entry}
use Rattle.cv_event.specs.declared.slot.Slot.{Slot}
use Rattle.cv_event.specs.States.{State, did, replay}
use Rattle.cv_event.specs.Histories.{edits, start_of}
use Rattle.cv_event.specs.Legality.{Allows, IsLegal}
use Rattle.cv_tables.specs.Rows.{Row, row_in, input_of, owed, slot_layer, layer_id, WhileLive}
use Rattle.cv_tables.specs.Tabs.{Tab, PublishedJob, Tables, state_of}

-- a desk: its opening, the entries of its journal, how many more have a place set aside, and its tables
pub record History : Type 0 where
  pub opening : Opening
  pub journal : List Entry
  pub spare : ℕ
  pub tables : Tables

-- the state after its journal, computed of the tables
abbrev pub state : History → State
state h = state_of h.tables

-- ---- what a desk keeps

-- a painted layer is of what its layer is painted from at present
abbrev pub IsPresent : StoreParts → Painting → Type 0
IsPresent store p = input_in store (painted_id p) ≡ Some p.input

-- a job's slots are those of its project at its view, and no two layers of the project have one id
pub record IsWhole (row : Row) : Type 0 where
  pub layers : map slot_layer row.slots ≡ map layer_id (slots (project_of row.store) row.view)
  pub apart : IsDistinct nat_eq (map id_of row.store.layers)

-- the painted layers of a canvas are present ones, and the job is whole whose picture it has published
pub record IsCurrent (store : StoreParts) (tab : Tab) : Type 0 where
  pub present : AllByRecursion (IsPresent store) tab.paintings
  pub published : IfSome tab.published (λ last. IsWhole last.row)

-- a slot that wasn't touched is painted from what its layer is painted from at present
abbrev pub IsFresh : StoreParts → Row → Slot → Type 0
IsFresh store row slot = slot.touched ≡ false → input_of store slot ≡ input_of row.store slot

abbrev pub AreFresh : StoreParts → Row → Type 0
AreFresh store row = WhileLive row.ended (AllByRecursion (IsFresh store row) row.slots)

-- what holds of the tables beside the state: the store was opened, caches and untouched slots are of the present
-- project, jobs are whole, and the journal has a place for each entry that is owed to it
pub record Holds (t : Tables) (spare : ℕ) : Type 0 where
  pub opened : 1 ≤ t.store.version
  pub caches : AllByRecursion (IsCurrent t.store) t.tabs
  pub slots : AllByRecursion (AreFresh t.store) t.rows
  pub shown : AllByRecursion IsWhole t.rows
  pub room : owed t.rows ≤ spare

-- an entry starts a job of this number
abbrev pub starts_job : ℕ → Entry → Bool
starts_job j entry = option_map_or (nat_eq j) (start_of entry.act) false

-- the entries before the start of a job
abbrev pub before_start : ℕ → List Entry → List Entry
before_start j journal = before_first (starts_job j) journal

-- the store is the opened project behind the accepted edits of a journal, with their version and their revisions,
-- and the one that a job took is it behind those before the job's start
pub record IsRevised (opened : Project) (journal : List Entry) (t : Tables) : Type 0 where
  pub store : IsBehind opened (edits journal) t.store
  pub jobs : (j : ℕ) (row : Row) → row_in t.rows j ≡ Some row
      → IsBehind opened (edits (before_start j journal)) row.store

-- what of a job never changes: its canvas, its store, its view, and the layers of its slots
pub record Basis : Type 0 where
  pub canvas : ℕ
  pub store : StoreParts
  pub view : PixelGrid
  pub layers : List ℕ

abbrev pub basis_of : Row → Basis
basis_of row = record { canvas = row.canvas; store = row.store; view = row.view; layers = map slot_layer row.slots }

-- what a canvas has published is of the job of that number, which is there and of this canvas, in all that never
-- changes
abbrev pub IsOfItsJob : List Row → ℕ → PublishedJob → Type 0
IsOfItsJob rows c last =
    (last.row.canvas ≡ c) × IsSomeAnd (row_in rows last.job) (λ row. basis_of row ≡ basis_of last.row)

-- and so is what each canvas has published
abbrev pub AreOfTheirJobs : List Row → List Tab → Type 0
AreOfTheirJobs rows tabs =
    (c : ℕ) (tab : Tab) → slice_get tabs c ≡ Some tab → IfSome tab.published (IsOfItsJob rows c)

-- a desk's journal is legal, its tables are those of the state after it, revisions are those of its edits, and what
-- is published is of the jobs whose numbers it has
pub record IsDesk (h : History) : Type 0 where
  pub legal : IsLegal h.opening h.journal
  pub shows : replay h.opening h.journal ≡ state h
  pub holds : Holds h.tables h.spare
  pub revised : IsRevised h.opening.project h.journal h.tables
  pub named : AreOfTheirJobs h.tables.rows h.tables.tabs

-- ---- what a call does to a desk

-- the jobs that were there are there, under their numbers
abbrev pub KeepJobs : List Row → List Row → Type 0
KeepJobs old new = take (length old) (map basis_of new) ≡ map basis_of old

-- an act of a caller was put behind the journal, as it is allowed, the state is that behind it, and jobs keep what
-- never changes
pub record Notes (old new : History) (who : ℕ) (a : Act) : Type 0 where
  pub opening : new.opening ≡ old.opening
  pub journal : new.journal ≡ old.journal ++ record { caller = who; act = a } ∷ []
  pub becomes : state new ≡ did (state old) who a
  pub allowed : Allows (state old) who a
  pub jobs : KeepJobs old.tables.rows new.tables.rows

-- nothing was put, and nothing changed, but that more places may be set aside
pub record Stays (old new : History) : Type 0 where
  pub opening : new.opening ≡ old.opening
  pub journal : new.journal ≡ old.journal
  pub tables : new.tables ≡ old.tables
  pub spare : old.spare ≤ new.spare
