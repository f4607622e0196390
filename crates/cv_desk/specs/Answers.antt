-- What each call of a desk answers, by cases on the answer; the cases shut each other out.
--
-- Source: this project's own.
use Rattle.std.specs.Prelude.{◌≡◌, ◌==◌, ◌&&◌, ◌≤◌, ℕ, suc, Bool, true, false, length, slice_get, Result, Ok, Err}
use Rattle.std.specs.Prelude.{Some, None, IsSome, IsNone, IsSomeAnd}
use Rattle.cv_model.specs.declared.edit.Edit.{Edit}
use Rattle.cv_model.specs.declared.edit.EditError.{EditError}
use Rattle.cv_model.specs.declared.edit.EditError.TheVariants.{NoMemory}
use Rattle.cv_model.specs.Edits.{verdict}
use Rattle.cv_model.specs.Paintings.{Input, Composition}
use Rattle.cv_model.specs.Views.{PixelGrid, IsView}
use Rattle.cv_event.specs.declared.entry.Act.TheVariants as act
use Rattle.cv_event.specs.declared.slot.Slot.{Slot}
use Rattle.cv_event.specs.States.{State, view_on, job_in}
use Rattle.cv_event.specs.declared.slot.Task.{Task}
use Rattle.cv_event.specs.declared.slot.Task.TheVariants.{Look, Compose}
use Rattle.cv_event.specs.Legality.{OfJob, task, hits}
use Rattle.cv_tables.specs.Rows.{Row, HasSlot, row_in, input_of, compose_of, whole_of}
use Rattle.cv_desk.specs.declared.errors.EndError.{EndError}
use Rattle.cv_desk.specs.declared.errors.EndError.TheVariants as end_error
use Rattle.cv_desk.specs.declared.errors.StartError.{StartError}
use Rattle.cv_desk.specs.declared.errors.StartError.TheVariants as start_error
use Rattle.cv_desk.specs.declared.errors.SetViewError.{SetViewError}
use Rattle.cv_desk.specs.declared.errors.SetViewError.TheVariants as view_error
use Rattle.cv_desk.specs.declared.errors.PreviewError.{PreviewError}
use Rattle.cv_desk.specs.declared.errors.PreviewError.TheVariants as preview_error
use Rattle.cv_desk.specs.declared.errors.SaveError.{SaveError}
use Rattle.cv_desk.specs.declared.errors.SaveError.TheVariants as save_error
use Rattle.cv_desk.specs.declared.errors.ClaimError.{ClaimError}
use Rattle.cv_desk.specs.declared.errors.ClaimError.TheVariants as claim_error
use Rattle.cv_desk.specs.declared.tasks.Claim.{Claim}
use Rattle.cv_desk.specs.declared.tasks.Claim.TheVariants as claim
use Rattle.cv_desk.specs.Desks.{History, state, Notes, Stays}

-- a start: the next number where the canvas has a view and numbers are left
abbrev pub StartAnswer : State → ℕ → Result ℕ StartError → Type 0
StartAnswer s c (Ok j) = IsSome (view_on s c) × (j ≡ suc (length s.jobs)) × (j ≤ 4294967295)
StartAnswer s c (Err start_error.UnknownCanvas) = IsNone (slice_get s.canvases c)
StartAnswer s c (Err start_error.NoView) = IsSome (slice_get s.canvases c) × IsNone (view_on s c)
StartAnswer s c (Err start_error.TooManyJobs) = IsSome (view_on s c) × (length s.jobs ≡ 4294967295)
StartAnswer s c (Err start_error.NoMemory) = Unit {0}

-- a refused start leaves the desk as it was, but that want of memory may leave more places set aside
abbrev pub StartLeaves : History → History → StartError → Type 0
StartLeaves old new start_error.NoMemory = Stays old new
StartLeaves old new start_error.UnknownCanvas = new ≡ old
StartLeaves old new start_error.NoView = new ≡ old
StartLeaves old new start_error.TooManyJobs = new ≡ old

-- a view is of a canvas's size
abbrev pub FitsCanvas : State → ℕ → PixelGrid → Type 0
FitsCanvas s c view = IsSomeAnd (slice_get s.canvases c) (λ k. IsView view × (view.w ≡ k.spec.w) × (view.h ≡ k.spec.h))

-- a canvas has views of its size alone
abbrev pub ViewAnswer : State → ℕ → PixelGrid → Result (Unit {0}) SetViewError → Type 0
ViewAnswer s c view (Ok _) = FitsCanvas s c view
ViewAnswer s c view (Err view_error.UnknownCanvas) = IsNone (slice_get s.canvases c)
ViewAnswer s c view (Err view_error.Size) =
    IsSomeAnd (slice_get s.canvases c) (λ k. ((view.w == k.spec.w) && (view.h == k.spec.h)) ≡ false)
ViewAnswer s c view (Err view_error.NoMemory) = Unit {0}

-- and so does a refused view
abbrev pub ViewLeaves : History → History → SetViewError → Type 0
ViewLeaves old new view_error.NoMemory = Stays old new
ViewLeaves old new view_error.UnknownCanvas = new ≡ old
ViewLeaves old new view_error.Size = new ≡ old

-- an end: of a job that is there and has none
abbrev pub EndAnswer : State → ℕ → Result (Unit {0}) EndError → Type 0
EndAnswer s j (Ok _) = OfJob s j (λ job. job.ended ≡ None)
EndAnswer s j (Err end_error.UnknownJob) = IsNone (job_in s.jobs j)
EndAnswer s j (Err (end_error.Ended h)) = OfJob s j (λ job. job.ended ≡ Some h)

-- a preview: the ready slots of a job without end
abbrev pub PreviewAnswer : History → ℕ → Result Composition PreviewError → Type 0
PreviewAnswer h j (Ok made) = IsSomeAnd (row_in h.tables.rows j) (λ row. (row.ended ≡ None) × (made ≡ compose_of row))
PreviewAnswer h j (Err preview_error.UnknownJob) = IsNone (row_in h.tables.rows j)
PreviewAnswer h j (Err (preview_error.Ended e)) = IsSomeAnd (row_in h.tables.rows j) (λ row. row.ended ≡ Some e)
PreviewAnswer h j (Err preview_error.NoMemory) = Unit {0}

-- a refused preview leaves the desk as it was, but that want of memory may leave more places set aside
abbrev pub PreviewLeaves : History → History → PreviewError → Type 0
PreviewLeaves old new preview_error.NoMemory = Stays old new
PreviewLeaves old new preview_error.UnknownJob = new ≡ old
PreviewLeaves old new (preview_error.Ended e) = new ≡ old

-- a picture: of all slots of the last job that was finished on the canvas
abbrev pub SaveAnswer : History → ℕ → Result Composition SaveError → Type 0
SaveAnswer h c (Ok image) =
    IsSomeAnd (slice_get h.tables.tabs c) (λ tab. IsSomeAnd tab.published (λ last. image ≡ whole_of last.row))
SaveAnswer h c (Err save_error.UnknownCanvas) = IsNone (slice_get (state h).canvases c)
SaveAnswer h c (Err save_error.Nothing) = IsSomeAnd (slice_get (state h).canvases c) (λ k. k.published ≡ None)
SaveAnswer h c (Err save_error.NoMemory) = Unit {0}

-- its entry names that job; a refusal leaves the desk as it was, but that want of memory may leave more places set
-- aside
abbrev pub SaveNotes : History → History → ℕ → ℕ → Result Composition SaveError → Type 0
SaveNotes old new who c (Ok image) = IsSomeAnd (slice_get (state old).canvases c)
    (λ k. IsSomeAnd k.published (λ last. Notes old new who (act.Save c last.job)))
SaveNotes old new who c (Err save_error.NoMemory) = Stays old new
SaveNotes old new who c (Err error) = new ≡ old

-- an edit: as the verdict of the present project says; its place in the journal is set aside first, so that
-- want of memory may come of an edit that would be refused
abbrev pub EditAnswer : State → Edit → Result (Unit {0}) EditError → Type 0
EditAnswer s e (Ok _) = verdict s.project s.accepted e ≡ None
EditAnswer s e (Err NoMemory) = Unit {0}
EditAnswer s e (Err error) = verdict s.project s.accepted e ≡ Some error

-- it is an entry with its verdict, but for want of memory
abbrev pub EditNotes : History → History → ℕ → Edit → Result (Unit {0}) EditError → Type 0
EditNotes old new who e (Ok _) = Notes old new who (act.Edit e None)
EditNotes old new who e (Err NoMemory) = Stays old new
EditNotes old new who e (Err error) = Notes old new who (act.Edit e (Some error))

-- a look that hit is an entry; one that can't be served changes nothing and is no hit
abbrev pub HitNotes : History → History → ℕ → ℕ → ℕ → Bool → Type 0
HitNotes old new who j at true = Notes old new who (act.Look j at true) × (hits (state old) j at ≡ true)
HitNotes old new who j at false = (new ≡ old) × (hits (state old) j at ≡ false)

-- a piece is of the job's own input and view
abbrev pub IsPiece : Input → PixelGrid → Row → Slot → Type 0
IsPiece input view row slot = (input_of row.store slot ≡ Some input) × (view ≡ row.view)

-- a task is of this job
abbrev pub IsOfJob : ℕ → Task → Type 0
IsOfJob j (Look k at) = k ≡ j
IsOfJob j (Compose k) = k ≡ j

-- a claim: the task that is due, a hit where the cache may serve it, the job's own input and view where it
-- can't, and a composition of all slots; nothing where nothing is due; want of memory names the task's job
abbrev pub ClaimAnswer : History → Result Claim ClaimError → Type 0
ClaimAnswer h (Ok (claim.Hit j at)) = (task (state h) ≡ Some (Look j at)) × (hits (state h) j at ≡ true)
ClaimAnswer h (Ok (claim.Paint piece)) =
    (task (state h) ≡ Some (Look piece.job piece.slot)) × (hits (state h) piece.job piece.slot ≡ false)
    × HasSlot h.tables.rows piece.job piece.slot (IsPiece piece.input piece.view)
ClaimAnswer h (Ok (claim.Compose j input)) =
    (task (state h) ≡ Some (Compose j)) × IsSomeAnd (row_in h.tables.rows j) (λ row. input ≡ whole_of row)
ClaimAnswer h (Ok claim.Nothing) = task (state h) ≡ None
ClaimAnswer h (Err (claim_error.NoMemory j)) = IsSomeAnd (task (state h)) (IsOfJob j)

-- and its entry
abbrev pub ClaimNotes : History → History → ℕ → Result Claim ClaimError → Type 0
ClaimNotes old new who (Ok (claim.Hit j at)) = Notes old new who (act.Look j at true)
ClaimNotes old new who (Ok (claim.Paint piece)) = Notes old new who (act.Look piece.job piece.slot false)
ClaimNotes old new who (Ok (claim.Compose j input)) = Notes old new who (act.Compose j)
ClaimNotes old new who (Ok claim.Nothing) = new ≡ old
ClaimNotes old new who (Err error) = Stays old new
