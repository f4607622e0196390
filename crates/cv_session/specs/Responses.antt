-- What a command of a script asks for at a time: one act, a refusal, or the tasks that are held.
--
-- Source: this project's own.
use Rattle.std.specs.Prelude.{ℕ, suc, ◌==◌, nat_le, nat_lt, if◌then◌else◌, List, [], ◌∷◌, length, slice_get, Option, Some, None}
use Rattle.std.specs.Prelude.{option_map, option_and_then, is_some, false, Result, Ok, Err}
use Rattle.std.specs.Option.{option_map_or, option_or}
use Rattle.cv_model.specs.declared.edit.EditError.{EditError}
use Rattle.cv_model.specs.declared.edit.EditError.TheVariants as error
use Rattle.cv_model.specs.Views.{PixelGrid}
use Rattle.cv_model.specs.Edits.{verdict}
use Rattle.cv_geom.specs.declared.views.ViewError.{ViewError}
use Rattle.cv_geom.specs.declared.views.ViewError.TheVariants as view_error
use Rattle.cv_geom.specs.Views.{view_of, pan, zoom}
use Rattle.cv_event.specs.declared.entry.Act.{Act}
use Rattle.cv_event.specs.declared.entry.Act.TheVariants as act
use Rattle.cv_event.specs.declared.entry.Fate.{Fate}
use Rattle.cv_event.specs.declared.entry.How.{How}
use Rattle.cv_event.specs.declared.entry.How.TheVariants as how_of
use Rattle.cv_event.specs.declared.refused.Reason.{Reason}
use Rattle.cv_event.specs.declared.refused.Reason.TheVariants as reason
use Rattle.cv_event.specs.declared.slot.Task.{Task}
use Rattle.cv_event.specs.declared.slot.Task.TheVariants.{Look, Compose}
use Rattle.cv_event.specs.States.{Taken, Job, Canvas, State, job_in}
use Rattle.cv_event.specs.Legality.{how, ready_bits, task, hits, fate_of}
use Rattle.cv_script.specs.declared.script.Command.{Command}
use Rattle.cv_script.specs.declared.script.Command.TheVariants as command

-- what a command asks for: an entry with this act; a refused line; to do the oldest held task; or to go on
-- when this job has an end
pub data Response : Type 0 where
  Does : Act → Response
  Refuses : Reason → Response
  Gives : Response
  Waits : ℕ → Response

-- ---- what a command speaks of

-- the last of these jobs, numbered from j, that is on the canvas
abbrev pub last_from : ℕ → ℕ → List Job → Option ℕ
last_from j c [] = None
last_from j c (job ∷ jobs) = option_or (last_from (suc j) c jobs) (if job.canvas == c then Some j else None)

-- a canvas's last job
abbrev pub last_job : State → ℕ → Option ℕ
last_job s c = last_from 1 c s.jobs

-- of a canvas that is there
abbrev pub at_canvas : State → ℕ → (Canvas → Response) → Response
at_canvas s c ask = option_map_or ask (slice_get s.canvases c) (Refuses reason.UnknownCanvas)

-- of its view
abbrev pub at_view : State → ℕ → (PixelGrid → Response) → Response
at_view s c ask = at_canvas s c (λ canvas. option_map_or ask canvas.view (Refuses reason.NoView))

-- of its last job
abbrev pub at_job : State → ℕ → (ℕ → Response) → Response
at_job s c ask = at_canvas s c (λ canvas. option_map_or ask (last_job s c) (Refuses reason.NoJob))

-- ---- acts and refusals

-- a view, or why there is none; the size of a canvas is never refused
abbrev pub shows : ℕ → Result PixelGrid ViewError → Response
shows c (Ok view) = Does (act.View c view)
shows c (Err view_error.Empty) = Refuses reason.Empty
shows c (Err view_error.Range) = Refuses reason.Range
shows c (Err view_error.Size) = Refuses reason.Range

-- the next job, where a number is left
abbrev pub starts : State → ℕ → Response
starts s c =
    if nat_lt (length s.jobs) 4294967295 then Does (act.Start c (suc (length s.jobs)))
    else Refuses reason.TooManyJobs

-- why what speaks of a job with this end is refused
abbrev pub ended_reason : How → Reason
ended_reason how_of.Finished = reason.EndedFinished
ended_reason how_of.Cancelled = reason.EndedCancelled
ended_reason how_of.NoMemory = reason.EndedNoMemory

-- an act of a job without end, or how the job ended
abbrev pub unless_ended : Option How → Act → Response
unless_ended None a = Does a
unless_ended (Some h) a = Refuses (ended_reason h)

-- the ready slots of a job, as bits
abbrev pub ready_of : State → ℕ → ℕ
ready_of s j = option_map_or (λ (job : Job). ready_bits job.slots) (job_in s.jobs j) 0

-- a task that is claimed: a look, which hits where the cache may serve it, or a compose
abbrev pub claimed : State → Task → Act
claimed s (Look j at) = act.Look j at (hits s j at)
claimed s (Compose j) = act.Compose j

-- the picture of the job that was finished last
abbrev pub saves : ℕ → Taken → Response
saves c taken = Does (act.Save c taken.job)

-- ---- the table of commands

-- what a command asks for in a state, where so many tasks are held; the first reason that holds refuses it
abbrev pub response : State → ℕ → Command → Response
response s held (command.Edit e) = Does (act.Edit e (verdict s.project s.accepted e))
response s held (command.View c e) = at_canvas s c (λ canvas. shows c (view_of e canvas.spec.w canvas.spec.h))
response s held (command.Pan c dx dy) = at_view s c (λ view. shows c (pan view dx dy))
response s held (command.Zoom c num den) = at_view s c (λ view. shows c (zoom view num den))
response s held (command.Start c) = at_view s c (λ view. starts s c)
response s held (command.Cancel c) = at_job s c (λ j. unless_ended (how s j) (act.Cancel j))
response s held (command.Wait c) = at_job s c Waits
response s held command.Take =
    if nat_le 64 held then Refuses reason.HeldFull
    else option_map_or (λ t. Does (claimed s t)) (task s) (Refuses reason.Nothing)
response s held command.Give = if held == 0 then Refuses reason.NothingHeld else Gives
response s held (command.Preview c file) =
    at_job s c (λ j. unless_ended (how s j) (act.Preview j (ready_of s j)))
response s held (command.Save c file) =
    at_canvas s c (λ canvas. option_map_or (saves c) canvas.published (Refuses reason.Nothing))

-- why an edit is refused; want of memory is no verdict
abbrev pub edit_reason : EditError → Option Reason
edit_reason error.UnknownLayer = Some reason.UnknownLayer
edit_reason error.UnknownFeature = Some reason.UnknownFeature
edit_reason error.WrongKind = Some reason.WrongKind
edit_reason error.DuplicateId = Some reason.DuplicateId
edit_reason error.Limit = Some reason.Limit
edit_reason error.BadPlace = Some reason.BadPlace
edit_reason error.NoMemory = None

-- ---- tasks that are held: a look that missed, to be painted and delivered, and a compose, to be finished

-- the fate of what is delivered for a job's slot, which is there
abbrev pub fate_at : State → ℕ → ℕ → Option Fate
fate_at s j at =
    option_and_then (λ (job : Job). option_map (fate_of s job) (slice_get job.slots at)) (job_in s.jobs j)

-- the entry of a held task: a delivery, or a finish of a job without end
abbrev pub done_by : State → Task → Option Act
done_by s (Look j at) = option_map (act.Deliver j at) (fate_at s j at)
done_by s (Compose j) = if is_some (how s j) then None else Some (act.Finish j)

-- the job of a task
abbrev pub job_of_task : Task → ℕ
job_of_task (Look j at) = j
job_of_task (Compose j) = j

-- what an act makes a held task: a look that missed, and a compose
abbrev pub held_by : Act → List Task
held_by (act.Look j at false) = Look j at ∷ []
held_by (act.Compose j) = Compose j ∷ []
held_by _ = []
