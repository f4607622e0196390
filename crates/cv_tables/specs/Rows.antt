-- The jobs of a desk: what is held of each, and how they are numbered.
--
-- Source: in outline the developer documentation of QGIS (`QgsMapRendererParallelJob`): a job with an image for
-- each layer. All rules are this project's own.
use Rattle.std.specs.Prelude.{◌≡◌, ℕ, zero, suc, ◌+◌, ◌≤◌, ◌==◌, Bool, true, false, ◌||◌, if◌then◌else◌}
use Rattle.std.specs.Prelude.{List, [], ◌∷◌, ◌++◌, map, length, slice_get, Option, Some, None, is_some}
use Rattle.std.specs.Prelude.{option_map, option_and_then, IsSomeAnd, IfSome}
use Rattle.std.specs.List.{AllByRecursion}
use Rattle.std.specs.Option.{option_or}
use Rattle.cv_model.specs.declared.edit.Edit.{Edit}
use Rattle.cv_model.specs.Views.{PixelGrid}
use Rattle.cv_model.specs.Layers.{Layer, deps_of, slots}
use Rattle.cv_model.specs.Edits.{touches_any}
use Rattle.cv_model.specs.Paintings.{Input, Painting, SlotFrame, FrameParts, Composition}
use Rattle.cv_model.specs.Paintings.{slot_frame, frame_of}
use Rattle.cv_model.specs.declared.layer.LayerFrame.{LayerFrame}
use Rattle.cv_store.specs.Stores.{StoreParts, project_of, input_in}
use Rattle.cv_event.specs.declared.entry.How.{How}
use Rattle.cv_event.specs.declared.entry.How.TheVariants.{Cancelled}
use Rattle.cv_event.specs.declared.slot.Slot.{Slot}
use Rattle.cv_event.specs.declared.slot.Standing.{Standing}
use Rattle.cv_event.specs.declared.slot.Standing.TheVariants.{Open, Missed, Ready, Lost}
use Rattle.cv_event.specs.declared.slot.Task.{Task}
use Rattle.cv_event.specs.States.{Job, change_at, slot_stands, slot_edited, new_slot}
use Rattle.cv_event.specs.Legality.{is_ready, open_task}

-- a job: its canvas, the store as it was at the job's start, its view, its slots from the bottom, the caller
-- that composes its picture, and how it ended
pub record Row : Type 0 where
  pub canvas : ℕ
  pub store : StoreParts
  pub view : PixelGrid
  pub slots : List Slot
  pub composer : Option ℕ
  pub ended : Option How

-- the job as the journal knows it
abbrev pub job_of : Row → Job
job_of row = record {
  canvas = row.canvas;
  project = project_of row.store;
  view = row.view;
  slots = row.slots;
  composer = row.composer;
  ended = row.ended;
}

-- ---- jobs by number

-- the job of a number, which is at least 1
abbrev pub row_in : List Row → ℕ → Option Row
row_in rows zero = None
row_in rows (suc before) = slice_get rows before

-- a change of the job of this number
abbrev pub change_row : ℕ → (Row → Row) → List Row → List Row
change_row zero change rows = rows
change_row (suc before) change rows = change_at before change rows

-- the place of a job of this number, if it is there
abbrev pub PlaceIs : List Row → ℕ → Option ℕ → Type 0
PlaceIs rows job None = row_in rows job ≡ None
PlaceIs rows job (Some at) = (job ≡ suc at) × (suc at ≤ length rows)

-- P holds of the job at a place and of its slot of this number, which are there
abbrev pub HasSlotAt : List Row → ℕ → ℕ → (Row → Slot → Type 0) → Type 0
HasSlotAt rows at slot P = IsSomeAnd (slice_get rows at) (λ row. IsSomeAnd (slice_get row.slots slot) (P row))

-- P holds of the job of this number and of its slot of that one, which are there
abbrev pub HasSlot : List Row → ℕ → ℕ → (Row → Slot → Type 0) → Type 0
HasSlot rows job slot P = IsSomeAnd (row_in rows job) (λ row. IsSomeAnd (slice_get row.slots slot) (P row))

-- ---- what changes a job

-- a slot stands otherwise
abbrev pub row_stands : ℕ → Standing → Row → Row
row_stands at standing row = record row { slots = change_at at (slot_stands standing) row.slots }

abbrev pub row_composed : ℕ → Row → Row
row_composed who row = record row { composer = Some who }

-- a job ends once
abbrev pub row_ended : How → Row → Row
row_ended how row = record row { ended = option_or row.ended (Some how) }

-- a start cancels the canvas's other jobs
abbrev pub row_cancelled : ℕ → Row → Row
row_cancelled c row = if row.canvas == c then row_ended Cancelled row else row

-- an accepted edit touches slots of a job without end
abbrev pub slots_edited : StoreParts → Edit → List Slot → List Slot
slots_edited store e list = map (slot_edited (project_of store) e) list

abbrev pub row_edited : Edit → Row → Row
row_edited e row =
    if is_some row.ended then row else record row { slots = slots_edited row.store e row.slots }

-- a job on a canvas, of a store at a view
abbrev pub new_row : ℕ → StoreParts → PixelGrid → Row
new_row c store view = record {
  canvas = c;
  store = store;
  view = view;
  slots = map new_slot (slots (project_of store) view);
  composer = None;
  ended = None;
}

-- the first n of these jobs cancelled where they are on a canvas
abbrev pub cancelled_before : ℕ → ℕ → List Row → List Row
cancelled_before c zero rows = rows
cancelled_before c (suc n) [] = []
cancelled_before c (suc n) (row ∷ rows) = row_cancelled c row ∷ cancelled_before c n rows

-- ---- what a job is painted from

-- what a slot's layer is painted from
abbrev pub input_of : StoreParts → Slot → Option Input
input_of store slot = input_in store slot.layer

abbrev pub painting_from : PixelGrid → Input → Painting
painting_from view input = record { input = input; view = view }

-- a slot painted
abbrev pub painting_of : StoreParts → PixelGrid → Slot → Option Painting
painting_of store view slot = option_map (painting_from view) (input_of store slot)

-- the same where the slot is ready
abbrev pub painting_shown : StoreParts → PixelGrid → Slot → Option Painting
painting_shown store view slot = if is_ready slot.standing then painting_of store view slot else None

-- a painting is that of a slot of a job without end
abbrev pub IsPaintingOf : Painting → Row → Slot → Type 0
IsPaintingOf p row slot = (row.ended ≡ None) × (painting_of row.store row.view slot ≡ Some p)

-- what a job's slot is painted from
abbrev pub input_at : Row → ℕ → Option Input
input_at row at = option_and_then (input_of row.store) (slice_get row.slots at)

-- the composition of a job's ready slots, and of all of them
abbrev pub compose_of : Row → Composition
compose_of row = record {
  frame = frame_of (project_of row.store) row.view;
  paintings = map (painting_shown row.store row.view) row.slots;
}

abbrev pub whole_of : Row → Composition
whole_of row = record {
  frame = frame_of (project_of row.store) row.view;
  paintings = map (painting_of row.store row.view) row.slots;
}

-- a slot is touched where an edit touches a layer on which its input depends
abbrev pub slot_named : Edit → Slot → Input → Slot
slot_named e slot input =
    record slot { touched = slot.touched || touches_any e (deps_of input.parts.own) }

abbrev pub slots_named : Edit → List Slot → List Input → List Slot
slots_named e [] inputs = []
slots_named e (slot ∷ list) [] = slot ∷ list
slots_named e (slot ∷ list) (input ∷ inputs) = slot_named e slot input ∷ slots_named e list inputs

-- ---- places set aside

-- a slot whose image is being painted owes its delivery, and a job without end its end
abbrev pub is_missed : Standing → Bool
is_missed Open = false
is_missed (Missed who) = true
is_missed Ready = false
is_missed Lost = false

abbrev pub missed_weight : Slot → ℕ
missed_weight slot = if is_missed slot.standing then 1 else 0

abbrev pub end_weight : Option How → ℕ
end_weight None = 1
end_weight (Some how) = 0

abbrev pub missed_in : List Slot → ℕ
missed_in [] = 0
missed_in (slot ∷ list) = missed_weight slot + missed_in list

abbrev pub weight : Row → ℕ
weight row = end_weight row.ended + missed_in row.slots

abbrev pub owed : List Row → ℕ
owed [] = 0
owed (row ∷ rows) = weight row + owed rows

-- ---- jobs without end

-- the places of the jobs without end, ascending
abbrev pub lives_with : Option How → List ℕ → List ℕ
lives_with None places = zero ∷ map suc places
lives_with (Some how) places = map suc places

abbrev pub lives : List Row → List ℕ
lives [] = []
lives (row ∷ rows) = lives_with row.ended (lives rows)

-- the open task of the job at a place, where this numbers places
abbrev pub task_at : (ℕ → ℕ) → List Row → ℕ → Option Task
task_at number rows at = option_and_then (λ row. open_task (number at) (job_of row)) (slice_get rows at)

-- the first of these places that has one
abbrev pub task_over : (ℕ → ℕ) → List Row → List ℕ → Option Task
task_over number rows [] = None
task_over number rows (at ∷ places) = option_or (task_at number rows at) (task_over number rows places)

-- the jobs at these places changed, one after the other
abbrev pub sweep : (Row → Row) → List ℕ → List Row → List Row
sweep change [] rows = rows
sweep change (at ∷ places) rows = sweep change places (change_at at change rows)

-- the job at a place is on a canvas and has no end
abbrev pub IsLiveOn : ℕ → List Row → ℕ → Type 0
IsLiveOn c rows at = IsSomeAnd (slice_get rows at) (λ row. (row.canvas ≡ c) × (row.ended ≡ None))

-- the place of a job without end on a canvas among the first n, if there is one
abbrev pub FoundLive : ℕ → ℕ → List Row → Option ℕ → Type 0
FoundLive c n rows None = (at : ℕ) → suc at ≤ n → IsLiveOn c rows at → ⊥
FoundLive c n rows (Some at) = (suc at ≤ n) × IsLiveOn c rows at

-- ---- how a job is made

-- what is gathered for the slots of a job: the slots, their frames, their inputs, and as many places for images
pub record GatheredParts : Type 0 where
  pub slots : List Slot
  pub frames : List SlotFrame
  pub inputs : List Input
  pub images : List (Option Painting)

abbrev pub gathered_none : GatheredParts
gathered_none = record { slots = []; frames = []; inputs = []; images = [] }

abbrev pub gathered_more : GatheredParts → LayerFrame → Input → GatheredParts
gathered_more g frame input = record {
  slots = g.slots ++ record { layer = frame.id; standing = Open; touched = false } ∷ [];
  frames = g.frames ++ record { id = frame.id; opacity = frame.opacity; blend = frame.blend } ∷ [];
  inputs = g.inputs ++ input ∷ [];
  images = g.images ++ None ∷ [];
}

abbrev pub no_image : Layer → Option Painting
no_image layer = None

-- it is gathered of these layers of a store
pub record IsGathered (store : StoreParts) (layers : List Layer) (g : GatheredParts) : Type 0 where
  pub slots_are : g.slots ≡ map new_slot layers
  pub frames_are : g.frames ≡ map slot_frame layers
  pub inputs_are : map Some g.inputs ≡ map (λ (l : Layer). input_in store l.core.id) layers
  pub images_are : g.images ≡ map no_image layers

-- ---- how a job is held

-- what is held of a job without end: the frame of its picture, its slots' inputs, and the images of those
-- that are ready
pub record HoldingParts : Type 0 where
  pub frame : FrameParts
  pub inputs : List Input
  pub images : List (Option Painting)

pub record HoldsAll (row : Row) (held : HoldingParts) : Type 0 where
  pub frame : held.frame ≡ frame_of (project_of row.store) row.view
  pub inputs : map Some held.inputs ≡ map (input_of row.store) row.slots
  pub images : held.images ≡ map (painting_shown row.store row.view) row.slots

-- P, of a job without end
abbrev pub WhileLive : Option How → Type 0 → Type 0
WhileLive None P = P
WhileLive (Some how) P = Unit {0}

abbrev pub slot_layer : Slot → ℕ
slot_layer slot = slot.layer

abbrev pub layer_id : Layer → ℕ
layer_id layer = layer.core.id

-- what a job keeps: its slots are its project's at its view, at most 32; while it has no end all of it is held, and
-- once it has one, nothing, so that its images are given up
pub record IsRow (row : Row) (held : Option HoldingParts) : Type 0 where
  pub live : WhileLive row.ended (IsSomeAnd held (HoldsAll row))
  pub gone : IfSome row.ended (λ how. held ≡ None)
  pub layers : map slot_layer row.slots ≡ map layer_id (slots (project_of row.store) row.view)
  pub short : length row.slots ≤ 32

-- what a table of jobs keeps: the places of those without end, the number of entries that are owed, and that
-- numbers and slots are few
pub record IsTable (rows : List Row) (live : List ℕ) (due : ℕ) : Type 0 where
  pub live_is : live ≡ lives rows
  pub due_is : due ≡ owed rows
  pub few : length rows ≤ 4294967295
  pub short : AllByRecursion (λ (row : Row). length row.slots ≤ 32) rows
