-- What caller 0 may enter next: the table of acts by what the session is about to do, whatever their numbers
-- and answers, which legality gives.
--
-- Source: this project's own.
use Rattle.std.specs.Prelude.{◌≡◌, ◌<◌, ℕ, List, [], ◌∷◌, length, slice_get, Option, Some, None, Result, Ok, Err, IsSome, IsSomeAnd}
use Rattle.cv_model.specs.Views.{PixelGrid}
use Rattle.cv_model.specs.declared.edit.EditError.{EditError}
use Rattle.cv_geom.specs.declared.views.ViewError.{ViewError}
use Rattle.cv_geom.specs.Views.{view_of, pan, zoom}
use Rattle.cv_event.specs.declared.entry.Act.{Act}
use Rattle.cv_event.specs.declared.entry.Act.TheVariants as act
use Rattle.cv_event.specs.declared.entry.Fate.{Fate}
use Rattle.cv_event.specs.declared.slot.Task.{Task}
use Rattle.cv_event.specs.declared.slot.Task.TheVariants.{Look, Compose}
use Rattle.cv_event.specs.States.{Canvas, State, view_on}
use Rattle.cv_event.specs.Legality.{how}
use Rattle.cv_script.specs.declared.script.Command.{Command}
use Rattle.cv_script.specs.declared.script.Command.TheVariants as command
use Rattle.cv_script.specs.declared.script.Numbered.{Numbered}
use Rattle.cv_session.specs.Responses.{last_job}
use Rattle.cv_session.specs.Plays.{Awaited, Mode, Opens, Begins, GivesOne, GivesAll, Works, Closes, Play}

-- an act is a look or a compose
abbrev pub IsClaim : Act → Type 0
IsClaim (act.Look j at hit) = Unit {0}
IsClaim (act.Compose j) = Unit {0}
IsClaim _ = ⊥

-- an act does a held task: it delivers what a look missed, with some fate, or finishes what is composed
abbrev pub MayDo : Task → Act → Type 0
MayDo (Look j at) d = (fate : Fate) × (d ≡ act.Deliver j at fate)
MayDo (Compose j) d = d ≡ act.Finish j

-- an act is of this view of the canvas, or why there is none
abbrev pub IsViewed : ℕ → Result PixelGrid ViewError → Act → Type 0
IsViewed c (Ok view) d = d ≡ act.View c view
IsViewed c (Err error) d = ⊥

-- the entry of a command: that edit, with some verdict; that view; a start on the canvas, of some number; a
-- cancel or a preview, of some ready slots, of the canvas's last job; a save of the canvas, of some job; a
-- claim, where less than 64 tasks are held
abbrev pub MayAct : State → ℕ → Command → Act → Type 0
MayAct s held (command.Edit e) d = (v : Option EditError) × (d ≡ act.Edit e v)
MayAct s held (command.View c e) d =
    IsSomeAnd (slice_get s.canvases c)
    (λ (canvas : Canvas). IsViewed c (view_of e canvas.spec.w canvas.spec.h) d)
MayAct s held (command.Pan c dx dy) d = IsSomeAnd (view_on s c) (λ view. IsViewed c (pan view dx dy) d)
MayAct s held (command.Zoom c num den) d = IsSomeAnd (view_on s c) (λ view. IsViewed c (zoom view num den) d)
MayAct s held (command.Start c) d = (j : ℕ) × (d ≡ act.Start c j)
MayAct s held (command.Cancel c) d =
    IsSome (slice_get s.canvases c) × IsSomeAnd (last_job s c) (λ j. d ≡ act.Cancel j)
MayAct s held (command.Preview c file) d =
    IsSome (slice_get s.canvases c) × IsSomeAnd (last_job s c) (λ j. (ready : ℕ) × (d ≡ act.Preview j ready))
MayAct s held (command.Save c file) d = (j : ℕ) × (d ≡ act.Save c j)
MayAct s held command.Take d = (held < 64) × IsClaim d
MayAct s held (command.Wait c) d = ⊥
MayAct s held command.Give d = ⊥

-- the entry of the next command
abbrev pub MayBegin : List Numbered → Play → Act → Type 0
MayBegin [] a d = ⊥
MayBegin (n ∷ rest) a d = MayAct a.state (length a.held) n.command d

-- the entry of the oldest held task
abbrev pub MayGive : List Task → Act → Type 0
MayGive [] d = ⊥
MayGive (t ∷ ts) d = MayDo t d

-- under `wait` a task is claimed while caller 0 doesn't know the end that it waits for
abbrev pub MayWork : Awaited → List Task → Play → Act → Type 0
MayWork w [] a d = (how a.known w.job ≡ None) × IsClaim d
MayWork w (t ∷ ts) a d = MayDo t d

-- the view of a canvas that is the next one with a view
abbrev pub MayOpen : ℕ → List (Option PixelGrid) → Act → Type 0
MayOpen c (Some view ∷ views) d = d ≡ act.View c view
MayOpen c _ d = ⊥

-- the entry of what the session is about to do
abbrev pub MayIn : Mode → Play → Act → Type 0
MayIn (Opens c views) a d = MayOpen c views d
MayIn Begins a d = MayBegin a.commands a d
MayIn GivesOne a d = MayGive a.held d
MayIn (GivesAll w) a d = MayGive a.held d
MayIn (Works w) a d = MayWork w a.held a d
MayIn Closes a d = MayGive a.held d

-- caller 0 may enter an act next
abbrev pub May : Play → Act → Type 0
May a d = MayIn a.mode a d
