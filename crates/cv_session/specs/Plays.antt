-- A session that plays a script: how it goes from entry to entry of a journal.
--
-- A journal is read from its first entry on, and the number of entries read is the time. Between two entries
-- the player may take silent steps, as to refuse a command. Caller 0 plays the script; the others do tasks.
--
-- Source: this project's own.
use Rattle.std.specs.Prelude.{◌≡◌, ◌≤◌, ℕ, suc, ◌==◌, nat_eq, nat_lt, Bool, true, false, not, ◌&&◌, if◌then◌else◌, List, [], ◌∷◌, ◌++◌}
use Rattle.std.specs.Prelude.{length, drop, Option, Some, None, option_map, option_and_then, option_to_list, is_some}
use Rattle.std.specs.List.{list_any}
use Rattle.cv_model.specs.declared.colour.Rgb.{Rgb}
use Rattle.cv_model.specs.Views.{PixelGrid}
use Rattle.cv_model.specs.Pictures.{picture}
use Rattle.cv_model.specs.Rasters.{Raster, ppm_of}
use Rattle.cv_event.specs.declared.entry.Act.{Act}
use Rattle.cv_event.specs.declared.entry.Act.TheVariants as act
use Rattle.cv_event.specs.declared.entry.Entry.{Entry}
use Rattle.cv_event.specs.declared.entry.How.{How}
use Rattle.cv_event.specs.declared.entry.How.TheVariants as how_of
use Rattle.cv_event.specs.declared.refused.Reason.{Reason}
use Rattle.cv_event.specs.declared.refused.Reason.TheVariants as reason
use Rattle.cv_event.specs.declared.refused.Refused.{Refused}
use Rattle.cv_event.specs.declared.slot.Task.{Task}
use Rattle.cv_event.specs.declared.slot.Task.TheVariants.{Look, Compose}
use Rattle.cv_event.specs.States.{Taken, State, did}
use Rattle.cv_event.specs.Legality.{how, task}
use Rattle.cv_event.specs.Histories.{taken, image}
use Rattle.cv_event.specs.Lines.{listed_slots}
use Rattle.cv_script.specs.declared.script.Command.{Command}
use Rattle.cv_script.specs.declared.script.Command.TheVariants as command
use Rattle.cv_script.specs.declared.script.Numbered.{Numbered}
use Rattle.cv_session.specs.Responses.{Response, Does, Refuses, Gives, Waits, response, edit_reason, claimed}
use Rattle.cv_session.specs.Responses.{done_by, job_of_task, held_by}

-- ---- a play

-- what a `wait` waits for: its line, and the job
pub record Awaited : Type 0 where
  pub line : ℕ
  pub job : ℕ

-- what a session is about to do
pub data Mode : Type 0 where
  -- to set the first views: those that are left, from the canvas of this number on
  Opens : ℕ → List (Option PixelGrid) → Mode
  -- to begin the next command
  Begins : Mode
  -- under `give`: to do the oldest held task
  GivesOne : Mode
  -- under `wait`: to do all held tasks
  GivesAll : Awaited → Mode
  -- under `wait`: to claim and do tasks
  Works : Awaited → Mode
  -- behind the last command: to do all held tasks
  Closes : Mode

-- a file that is written
pub record Written : Type 0 where
  pub name : List ℕ
  pub bytes : List ℕ

-- a play of a script
pub record Play : Type 0 where
  -- how many entries were read, and the state behind them
  pub read : ℕ
  pub state : State
  -- the latest state that caller 0 has surely seen, and the jobs of which a task was due since then
  pub known : State
  pub due : List ℕ
  -- the tasks that caller 0 holds, oldest first, what it is about to do, and the commands that are left
  pub held : List Task
  pub mode : Mode
  pub commands : List Numbered
  -- the commands refused and the files written so far
  pub refused : List Refused
  pub written : List Written

-- the job of which a task is due, if one is
abbrev pub due_in : State → List ℕ
due_in s = option_to_list (option_map job_of_task (task s))

-- caller 0 has seen the present state
abbrev pub knowing : Play → Play
knowing a = record a { known = a.state; due = due_in a.state }

-- it is about to do something else
abbrev pub turned : Mode → Play → Play
turned m a = record a { mode = m }

-- the command of a line is refused by now
abbrev pub refusing : ℕ → Reason → Play → Play
refusing line why a =
    knowing (record a { refused = (a.refused ++ record { line = line; seen = a.read; reason = why } ∷ []) })

-- ---- silent steps, at most one of which fits

-- a command that asks for no entry is begun: it is refused, or tasks are to be done
abbrev pub begun : ℕ → List Numbered → Response → Play → Option Play
begun line rest (Does d) a = None
begun line rest (Refuses why) a = Some (refusing line why (record a { commands = rest }))
begun line rest Gives a = Some (record a { commands = rest; mode = GivesOne })
begun line rest (Waits j) a =
    Some (record a { commands = rest; mode = GivesAll (record { line = line; job = j }) })

-- the next command, and behind the last one the end of the session
abbrev pub begun_next : List Numbered → Play → Option Play
begun_next [] a = Some (turned Closes a)
begun_next (n ∷ rest) a = begun n.line rest (response a.state (length a.held) n.command) a

-- the oldest held task is let go by now, and a later claim is of what is due from now on
abbrev pub letting : Mode → List Task → Play → Play
letting m ts a = record a { held = ts; mode = m; due = due_in a.state }

-- the oldest held task is let go where it is a compose of a job that has an end
abbrev pub let_go : Mode → List Task → Play → Option Play
let_go m [] a = None
let_go m (Look j at ∷ ts) a = None
let_go m (Compose j ∷ ts) a = if is_some (how a.state j) then Some (letting m ts a) else None

-- under `wait` no task is held any more
abbrev pub given_all : Awaited → List Task → Play → Option Play
given_all w [] a = Some (turned (Works w) a)
given_all w (t ∷ ts) a = let_go (GivesAll w) (t ∷ ts) a

-- a `wait` is over when its job has an end, and refused where that is want of memory
abbrev pub waited : Awaited → Option How → Play → Option Play
waited w None a = None
waited w (Some how_of.Finished) a = Some (knowing (turned Begins a))
waited w (Some how_of.Cancelled) a = Some (knowing (turned Begins a))
waited w (Some how_of.NoMemory) a = Some (refusing w.line reason.EndedNoMemory (turned Begins a))

-- the job of a task got its end since caller 0 claimed the task
abbrev pub is_overtaken : Task → Play → Bool
is_overtaken t a = is_some (how a.state (job_of_task t)) && not (is_some (how a.known (job_of_task t)))

-- a task that is claimed under `wait` is let go where its job got an end meanwhile
abbrev pub worked : Awaited → List Task → Play → Option Play
worked w [] a = waited w (how a.state w.job) a
worked w (t ∷ ts) a = if is_overtaken t a then Some (letting (Works w) ts a) else None

-- the play behind a silent step by what the session is about to do
abbrev pub silent_in : Mode → Play → Option Play
silent_in (Opens c []) a = Some (turned Begins a)
silent_in (Opens c (None ∷ views)) a = Some (turned (Opens (suc c) views) a)
silent_in (Opens c (Some view ∷ views)) a = None
silent_in Begins a = begun_next a.commands a
silent_in GivesOne a = let_go Begins a.held a
silent_in (GivesAll w) a = given_all w a.held a
silent_in (Works w) a = worked w a.held a
silent_in Closes a = let_go Closes a.held a

-- the play behind a silent step, where one fits
abbrev pub silent : Play → Option Play
silent a = silent_in a.mode a

-- ---- entries of caller 0, at most one of which fits but for want of memory

-- the act of a command that asks for one
abbrev pub act_of : Response → Option Act
act_of (Does d) = Some d
act_of (Refuses why) = None
act_of Gives = None
act_of (Waits j) = None

-- the act of the next command
abbrev pub planned_next : List Numbered → Play → Option Act
planned_next [] a = None
planned_next (n ∷ rest) a = act_of (response a.state (length a.held) n.command)

-- the oldest held task is done
abbrev pub planned_held : List Task → Play → Option Act
planned_held [] a = None
planned_held (t ∷ ts) a = done_by a.state t

-- under `wait` the task that is due is claimed, unless caller 0 knows the end that it waits for
abbrev pub planned_work : Awaited → List Task → Play → Option Act
planned_work w [] a =
    if is_some (how a.known w.job) then None else option_map (claimed a.state) (task a.state)
planned_work w (t ∷ ts) a = done_by a.state t

-- the act of the next entry by what the session is about to do
abbrev pub planned_in : Mode → Play → Option Act
planned_in (Opens c []) a = None
planned_in (Opens c (None ∷ views)) a = None
planned_in (Opens c (Some view ∷ views)) a = Some (act.View c view)
planned_in Begins a = planned_next a.commands a
planned_in GivesOne a = planned_held a.held a
planned_in (GivesAll w) a = planned_held a.held a
planned_in (Works w) a = planned_work w a.held a
planned_in Closes a = planned_held a.held a

-- the act of caller 0's next entry, if one fits
abbrev pub planned : Play → Option Act
planned a = planned_in a.mode a

-- ---- want of memory

-- a command claims a task, where so many are held
abbrev pub claims : ℕ → Command → Bool
claims held command.Take = nat_lt held 64
claims held _ = false

-- the next command does
abbrev pub claims_next : ℕ → List Numbered → Bool
claims_next held [] = false
claims_next held (n ∷ rest) = claims held n.command

-- the oldest held task is of this job
abbrev pub is_of_held : List Task → ℕ → Bool
is_of_held [] j = false
is_of_held (t ∷ ts) j = job_of_task t == j

-- a claim may have been of this job
abbrev pub is_due : Play → ℕ → Bool
is_due a j = list_any (nat_eq j) a.due

-- under `wait` the claim fails, or what was claimed
abbrev pub fails_work : Awaited → List Task → Play → ℕ → Bool
fails_work w [] a j = not (is_some (how a.known w.job)) && is_due a j
fails_work w (t ∷ ts) a j = is_of_held (t ∷ ts) j

-- a job may fail by what the session is about to do
abbrev pub fails_in : Mode → Play → ℕ → Bool
fails_in (Opens c views) a j = false
fails_in Begins a j = claims_next (length a.held) a.commands && is_due a j
fails_in GivesOne a j = is_of_held a.held j
fails_in (GivesAll w) a j = is_of_held a.held j
fails_in (Works w) a j = fails_work w a.held a j
fails_in Closes a j = is_of_held a.held j

-- in the place of an entry a job fails whose task, or the claim of it, got no memory
abbrev pub fails : Play → ℕ → Bool
fails a j = fails_in a.mode a j

-- ---- the play behind an entry

-- an entry of another caller
abbrev pub passed : Entry → Play → Play
passed e a =
    let s = did a.state e.caller e.act in record a { read = suc a.read; state = s; due = (due_in s ++ a.due) }

-- an entry of caller 0, who has seen the state behind it
abbrev pub entered : Act → Play → Play
entered d a = knowing (record a { read = suc a.read; state = did a.state 0 d })

-- the line that an act is refused with: of an edit, unless it was accepted
abbrev pub refusals : ℕ → ℕ → Act → List Refused
refusals line seen (act.Edit e (Some error)) =
    option_to_list (option_map (λ why. record { line = line; seen = seen; reason = why }) (edit_reason error))
refusals line seen _ = []

-- the picture of all slots of the project at the view that a job took
abbrev pub whole_picture : State → ℕ → Option (Raster Rgb)
whole_picture s j = option_map (λ (t : Taken). picture t.project t.view) (taken s j)

-- the picture that an act shows: of a job's ready slots, or of all of a job's slots
abbrev pub picture_by : State → Act → Option (Raster Rgb)
picture_by s (act.Preview j ready) = image s j (listed_slots ready)
picture_by s (act.Save c j) = whole_picture s j
picture_by s _ = None

-- the name of the file that a command writes
abbrev pub file_of : Command → Option (List ℕ)
file_of (command.Preview c file) = Some file
file_of (command.Save c file) = Some file
file_of _ = None

-- the file of this name with a picture
abbrev pub file_with : List ℕ → Raster Rgb → Written
file_with name picture = record { name = name; bytes = ppm_of picture }

-- what an act of a command writes
abbrev pub written_by : State → Act → Command → List Written
written_by s d c =
    option_to_list (option_and_then (λ name. option_map (file_with name) (picture_by s d)) (file_of c))

-- a command is through: what it claimed is held, a refused edit has its line, a picture its file
abbrev pub through : List Numbered → Act → Play → Play
through [] d a = a
through (n ∷ rest) d a = record a {
  held = a.held ++ held_by d;
  commands = rest;
  refused = a.refused ++ refusals n.line a.read d;
  written = a.written ++ written_by a.state d n.command;
}

-- a held task is done, or under `wait` one is claimed
abbrev pub served : Mode → Act → Play → Play
served m d a = record a { held = (drop 1 a.held ++ held_by d); mode = m }

-- the play behind an entry that was read by what the session was about to do
abbrev pub next_in : Mode → Act → Play → Play
next_in (Opens c views) d a = turned (Opens (suc c) (drop 1 views)) a
next_in Begins d a = through a.commands d a
next_in GivesOne d a = served Begins d a
next_in (GivesAll w) d a = served (GivesAll w) d a
next_in (Works w) d a = served (Works w) d a
next_in Closes d a = served Closes d a

-- the play behind caller 0's entry of this act
abbrev pub next : Act → Play → Play
next d a = next_in a.mode d (entered d a)

-- ---- plays of a journal

-- an entry of a caller
abbrev pub entry_by : ℕ → Act → Entry
entry_by who d = record { caller = who; act = d }

-- other callers look, deliver, compose, finish and fail
abbrev pub is_of_worker : Act → Bool
is_of_worker (act.Look j at hit) = true
is_of_worker (act.Deliver j at fate) = true
is_of_worker (act.Compose j) = true
is_of_worker (act.Finish j) = true
is_of_worker (act.Fail j) = true
is_of_worker _ = false

-- over these entries, with so many other callers, one play becomes another
pub data Plays (workers : ℕ) : Play → List Entry → Play → Type 0 where
  -- no entry is left
  stops : (a : Play) → Plays workers a [] a
  -- a silent step
  quiet : (a b c : Play) (es : List Entry) → silent a ≡ Some b → Plays workers b es c → Plays workers a es c
  -- caller 0's next entry
  own : (a c : Play) (d : Act) (es : List Entry) → planned a ≡ Some d → Plays workers (next d a) es c
      → Plays workers a (entry_by 0 d ∷ es) c
  -- in its place a job fails
  failed : (a c : Play) (j : ℕ) (es : List Entry) → fails a j ≡ true
      → Plays workers (next (act.Fail j) a) es c → Plays workers a (entry_by 0 (act.Fail j) ∷ es) c
  -- an entry of another caller
  other : (a c : Play) (e : Entry) (es : List Entry) → 1 ≤ e.caller → e.caller ≤ workers
      → is_of_worker e.act ≡ true → Plays workers (passed e a) es c → Plays workers a (e ∷ es) c
