-- What is shown of jobs: laws, each the clause of a function of its name.
use Rattle.std.specs.Prelude.{◌≡◌, ℕ, ◌==◌, ◌≤◌, Bool, false, if◌then◌else◌, List, [], ◌∷◌}
use Rattle.std.specs.Prelude.{length, slice_get, Option, None, option_and_then, IsSome}
use Rattle.std.specs.Option.{option_map_or, option_or}
use Rattle.cv_model.specs.Layers.{Opening}
use Rattle.cv_event.specs.declared.entry.Act.{Act}
use Rattle.cv_event.specs.declared.entry.Act.TheVariants as act
use Rattle.cv_event.specs.declared.entry.Entry.{Entry}
use Rattle.cv_event.specs.States.{Taken, Job, Canvas, State, job_in, replay}
use Rattle.cv_event.specs.Legality.{OfJob, ready, Allows, IsLegal}
use Rattle.cv_event.specs.Histories.{taken}
use Rattle.cv_event.specs.Lines.{listed_slots}

-- a preview lists the job's ready slots, of which 32 can be told
abbrev pub PreviewListsReady : Type 0
PreviewListsReady =
    (s : State) (who j bits : ℕ) → Allows s who (act.Preview j bits)
    → OfJob s j (λ job. length job.slots ≤ 32) → listed_slots bits ≡ ready s j

-- ---- what is published

-- what the job took whose picture is a canvas's last one
abbrev pub published_on : State → ℕ → Option Taken
published_on s c = option_and_then (λ (k : Canvas). k.published) (slice_get s.canvases c)

-- a job is on this canvas
abbrev pub is_on : State → ℕ → ℕ → Bool
is_on s c j = option_map_or (λ (job : Job). job.canvas == c) (job_in s.jobs j) false

-- what the job took that an act finishes on this canvas
abbrev pub finished_by : State → ℕ → Act → Option Taken
finished_by s c (act.Finish j) = if is_on s c j then taken s j else None
finished_by s c _ = None

-- what the last job took that these entries finish on this canvas
abbrev pub last_finished : State → ℕ → List Entry → Option Taken
last_finished s c [] = None
last_finished s c (entry ∷ rest) = option_or (last_finished s c rest) (finished_by s c entry.act)

-- a canvas's published picture is of what the last job took that was finished on it
abbrev pub PublishedIsLastFinished : Type 0
PublishedIsLastFinished =
    (o : Opening) (journal : List Entry) (c : ℕ) → IsLegal o journal → IsSome (slice_get o.canvases c)
    → published_on (replay o journal) c ≡ last_finished (replay o journal) c journal
