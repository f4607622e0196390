-- What a look and a delivery get, in the words of the entries: laws, each the clause of a function of its
-- name.
use Rattle.std.specs.Prelude.{◌≡◌, ℕ, ◌==◌, Bool, false, not, ◌&&◌, if◌then◌else◌, List}
use Rattle.std.specs.Prelude.{slice_get, Some, None, is_some}
use Rattle.std.specs.List.{list_any}
use Rattle.std.specs.Option.{option_map_or}
use Rattle.cv_model.specs.declared.project.CanvasSpec.{CanvasSpec}
use Rattle.cv_model.specs.Views.{PixelGrid}
use Rattle.cv_model.specs.Layers.{Project, Opening, deps}
use Rattle.cv_model.specs.Edits.{touches_any}
use Rattle.cv_event.specs.declared.entry.Entry.{Entry}
use Rattle.cv_event.specs.declared.entry.Fate.TheVariants.{Stored, Kept, Dropped}
use Rattle.cv_event.specs.declared.slot.Slot.{Slot}
use Rattle.cv_event.specs.States.{Job, job_in, replay}
use Rattle.cv_event.specs.Legality.{is_view, is_image, hits, fate_of, IsLegal}
use Rattle.cv_event.specs.Histories.{edits, last_view, first_end, cached}
use Rattle.cv_event.specs.Laws.{started_between}

-- the view is the canvas's last one in a journal, and no edit that further entries accept touches a
-- dependency of the layer in the project
abbrev pub stays_fresh : Project → PixelGrid → ℕ → ℕ → List Entry → List Entry → Bool
stays_fresh project view layer c journal rest =
    option_map_or (is_view view) (last_view c journal) false
    && not (list_any (λ e. touches_any e (deps project layer)) (edits rest))

-- a look at a slot of a job without end hits where the slot is fresh, and the canvas's cache has an image of
-- the slot's layer at the job's view
abbrev pub HitsAreOfEdits : Type 0
HitsAreOfEdits =
    (o : Opening) (past rest : List Entry) (who c j at : ℕ)
    → IsLegal o (started_between past who c j rest)
    → (job : Job) (slot : Slot)
    → job_in (replay o (started_between past who c j rest)).jobs j ≡ Some job
    → slice_get job.slots at ≡ Some slot → job.ended ≡ None
    → hits (replay o (started_between past who c j rest)) j at
    ≡ (stays_fresh job.project job.view slot.layer c (started_between past who c j rest) rest
    && list_any (is_image slot.layer job.view) (cached (replay o (started_between past who c j rest)) c))

-- what is delivered for a slot is dropped where an act behind the start ended the job, else stored where the
-- slot is fresh and the canvas has a capacity, and else kept
abbrev pub FateIsOfEdits : Type 0
FateIsOfEdits =
    (o : Opening) (past rest : List Entry) (who c j at : ℕ)
    → IsLegal o (started_between past who c j rest)
    → (job : Job) (slot : Slot)
    → job_in (replay o (started_between past who c j rest)).jobs j ≡ Some job
    → slice_get job.slots at ≡ Some slot
    → fate_of (replay o (started_between past who c j rest)) job slot
    ≡ (if is_some (first_end c j rest) then Dropped
    else if stays_fresh job.project job.view slot.layer c (started_between past who c j rest) rest
    && not (option_map_or (λ (spec : CanvasSpec). spec.capacity) (slice_get o.canvases c) 0 == 0) then Stored
    else Kept)
