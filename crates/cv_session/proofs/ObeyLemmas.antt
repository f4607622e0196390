-- Each way through a command, over plain seats.
use Rattle.std.proofs.Common.{◌≡◌, refl, ap, sym, ◌∙◌, subst, ◌<◌, ℕ, suc, ◌==◌, ◌+◌, nat_lt, Bool, true, false, if◌then◌else◌, List, [], ◌∷◌, ◌++◌, map, length, slice_get, Option, Some, None, is_some, option_map, option_and_then, option_to_list, arith, IsSome, IsNone, IsSomeAnd, Result, Ok, Err, OnOk}
use Rattle.std.specs.Option.{option_map_or, option_or}
use Rattle.std.proofs.lemmas.List.{append-nil, map-append}
use Rattle.std.proofs.lemmas.Bool.{false≢true}
use Rattle.std.proofs.lemmas.Bool.Decides.{nat_tests}
use Rattle.cv_model.specs.declared.edit.Edit.{Edit}
use Rattle.cv_model.specs.declared.edit.EditError.{EditError}
use Rattle.cv_model.specs.Views.{PixelGrid}
use Rattle.cv_event.specs.declared.entry.Act.{Act}
use Rattle.cv_event.specs.declared.entry.Act.TheVariants as act
use Rattle.cv_event.specs.declared.entry.How.{How}
use Rattle.cv_event.specs.declared.refused.Reason.{Reason}
use Rattle.cv_event.specs.declared.refused.Reason.TheVariants as reason
use Rattle.cv_event.specs.States.{Job, Canvas, State, view_on, job_in, did}
use Rattle.cv_event.specs.Legality.{OfJob, how}
use Rattle.cv_script.specs.declared.script.Command.{Command}
use Rattle.cv_script.specs.declared.script.Command.TheVariants as command
use Rattle.cv_session.specs.Responses.{Response, Does, Gives, Waits, Refuses as Denies, edit_reason, ended_reason, held_by, last_from, last_job, at_canvas, at_view, at_job, starts, unless_ended, response}
use Rattle.cv_session.specs.Plays.{Written, act_of, refusals, file_of}
use Rattle.cv_session.specs.Entered.{IsClaim, MayAct}
use Rattle.cv_session.specs.declared.seat.HeldTask.{HeldTask}
use Rattle.cv_desk.specs.Desks.{History, Notes}
use Rattle.cv_event.specs.declared.refused.Refused.{Refused}
use Rattle.cv_event.specs.declared.slot.Task.{Task}
use Rattle.cv_session.specs.Seats.{Seat, now, task_of, tasks_of, Enters, Refuses, Obeys}
use Rattle.cv_session.proofs.PlayLemmas.{same_some}
use Rattle.cv_session.proofs.EnteredLemmas.{act_planned}
use Rattle.cv_session.proofs.WriteLemmas.{no_file_written}
use Rattle.cv_session.proofs.MoveLemmas.{Leaves, longer, does, Declines, denies}

-- what follows of an answer
pub on_ok : {A E : Type 0} {P Q : Type 0} (r : Result A E) → (P → Q) → OnOk r P → OnOk r Q
on_ok (Ok x) f h = f h
on_ok (Err e) f h = tt

-- responses of what isn't there
pub no_canvas : (s : State) (c : ℕ) (ask : Canvas → Response) → slice_get s.canvases c ≡ None → at_canvas s c ask ≡ Denies reason.UnknownCanvas
no_canvas s c ask h = ap (λ (o : Option Canvas). option_map_or ask o (Denies reason.UnknownCanvas)) h

none_of : {A : Type 0} (o : Option A) → is_some o ≡ false → o ≡ None
none_of None h = refl
none_of (Some x) h = absurd cc

pub none_is : {A : Type 0} (o : Option A) → IsNone o → o ≡ None
none_is None h = refl
none_is (Some x) h = absurd cc

-- a canvas's last job is there
abbrev IsJobFrom : ℕ → List Job → ℕ → Type 0
IsJobFrom k xs j = (m : ℕ) × (j ≡ k + m) × (is_some (slice_get xs m) ≡ true)

job_one : (k c : ℕ) (x : Job) (xs : List Job) (j : ℕ) (o : Option ℕ) → ((n : ℕ) → o ≡ Some n → IsJobFrom (suc k) xs n)
    → option_or o (if x.canvas == c then Some k else None) ≡ Some j → IsJobFrom k (x ∷ xs) j
job_one k c x xs j None f e = here (x.canvas == c) e
  where
    here : (b : Bool) → (if b then Some k else None) ≡ Some j → IsJobFrom k (x ∷ xs) j
    here false h = absurd cc
    here true h = let same : k ≡ j = same_some h in (0, omega (arith, same), refl)
job_one k c x xs j (Some n) f e =
    let g = f n refl in
    let same : n ≡ j = same_some e in
    let at = g.1 in
    (suc g.0, omega (arith, same, at), g.2)

job_from : (k c : ℕ) (xs : List Job) (j : ℕ) → last_from k c xs ≡ Some j → IsJobFrom k xs j
job_from k c [] j e = absurd cc
job_from k c (x ∷ xs) j e = job_one k c x xs j (last_from (suc k) c xs) (λ n g. job_from (suc k) c xs n g) e

pub last_there : (s : State) (c j : ℕ) → last_job s c ≡ Some j → is_some (job_in s.jobs j) ≡ true
last_there s c j e =
    let f = job_from 1 c s.jobs j e in
    let same : j ≡ suc f.0 = let at = f.1 in omega (arith, at) in
    subst (λ (n : ℕ). is_some (job_in s.jobs n) ≡ true) (sym same) f.2

pub job_there : (old : Seat) (c j : ℕ) → last_job (now old) c ≡ Some j → IsNone (job_in (now old).jobs j) → ⊥
job_there old c j e none =
    false≢true (ap is_some (sym (none_is (job_in (now old).jobs j) none)) ∙ last_there (now old) c j e)

-- what the table of last jobs says
pub last_is : (o : Option Canvas) (x r : Option ℕ) → Some r ≡ option_map (λ (k : Canvas). x) o → (is_some o ≡ true) × (x ≡ r)
last_is None x r h = absurd cc
last_is (Some k) x r h = (refl, sym (same_some h))

pub last_not : (o : Option Canvas) (x : Option ℕ) → None ≡ option_map (λ (k : Canvas). x) o → o ≡ None
last_not None x h = refl
last_not (Some k) x h = absurd cc

some_of : {A : Type 0} (o : Option A) → is_some o ≡ true → (x : A) × (o ≡ Some x)
some_of None h = absurd cc
some_of (Some x) h = (x, refl)

-- ---- what is entered

asked : (r : Response) (a : Act) → act_of r ≡ Some a → r ≡ Does a
asked (Does d) a h = ap Does (same_some h)
asked (Denies why) a h = absurd cc
asked Gives a h = absurd cc
asked (Waits j) a h = absurd cc

-- a command that is done by one entry which it may enter
pub enters : (old new : Seat) (line : ℕ) (c : Command) (a : Act) (files : List Written) → MayAct (now old) (length (tasks_of old)) c a
    → Leaves old new line c a files → Obeys old new line c files
enters old new line c a files m l =
    does old new line c a files
    (asked (response (now old) (length (tasks_of old)) c) a (act_planned (now old) (length (tasks_of old)) c a m l.notes.allowed)) l

-- an entry that leaves what is held and refused, and writes nothing
pub plain : (old new : Seat) (line : ℕ) (c : Command) (a : Act) → Enters old new a → held_by a ≡ []
    → refusals line (suc (length old.history.journal)) a ≡ [] → file_of c ≡ None → Leaves old new line c a []
plain old new line c a e h r f = record {
  notes = e.notes;
  held = ap (map task_of) e.held ∙ sym (append-nil (tasks_of old)) ∙ ap (λ (ts : List Task). tasks_of old ++ ts) (sym h);
  refused = e.refused ∙ sym (append-nil old.refused) ∙ ap (λ (rs : List Refused). old.refused ++ rs) (sym r);
  writes = no_file_written (did (now old) 0 a) a c f;
}

pub start_enters : (old new : Seat) (line c j : ℕ) → Enters old new (act.Start c j) → Obeys old new line (command.Start c) []
start_enters old new line c j e =
    enters old new line (command.Start c) (act.Start c j) [] (j, refl) (plain old new line (command.Start c) (act.Start c j) e refl refl refl)

pub edit_enters : (old new : Seat) (line : ℕ) (e : Edit) → Enters old new (act.Edit e None) → Obeys old new line (command.Edit e) []
edit_enters old new line e f =
    enters old new line (command.Edit e) (act.Edit e None) [] (None, refl) (plain old new line (command.Edit e) (act.Edit e None) f refl refl refl)

-- a refused edit is entered too, and its line has seen its own entry
pub edit_refused : (old mid new : Seat) (line : ℕ) (e : Edit) (error : EditError) (why : Reason) → Enters old mid (act.Edit e (Some error))
    → edit_reason error ≡ Some why → Refuses mid new line why → Obeys old new line (command.Edit e) []
edit_refused old mid new line e error why f is g =
    enters old new line (command.Edit e) (act.Edit e (Some error)) [] (Some error, refl) (record {
      notes = subst (λ (h : History). Notes old.history h 0 (act.Edit e (Some error))) (sym g.history) f.notes;
      held = ap (map task_of) (g.held ∙ f.held) ∙ sym (append-nil (tasks_of old));
      refused = g.refused ∙ ap (λ (rs : List Refused). rs ++ record { line = line; seen = length mid.history.journal; reason = why } ∷ []) f.refused
          ∙ ap (λ (n : ℕ). old.refused ++ record { line = line; seen = n; reason = why } ∷ []) (sym (longer old mid (act.Edit e (Some error)) f.notes))
          ∙ ap (λ (o : Option Reason). old.refused ++ option_to_list (option_map (λ why. record { line = line; seen = suc (length old.history.journal); reason = why }) o)) (sym is);
      writes = refl;
    })

pub view_enters : (old new : Seat) (line c : ℕ) (view : PixelGrid) (command : Command) → MayAct (now old) (length (tasks_of old)) command (act.View c view)
    → file_of command ≡ None → Enters old new (act.View c view) → Obeys old new line command []
view_enters old new line c view command m f e =
    enters old new line command (act.View c view) [] m (plain old new line command (act.View c view) e refl refl f)

pub cancel_enters : (old new : Seat) (line c j : ℕ) → IsSome (slice_get (now old).canvases c) → last_job (now old) c ≡ Some j
    → Enters old new (act.Cancel j) → Obeys old new line (command.Cancel c) []
cancel_enters old new line c j there last e =
    enters old new line (command.Cancel c) (act.Cancel j) [] (there, subst (λ o. IsSomeAnd o (λ k. act.Cancel j ≡ act.Cancel k)) (sym last) refl)
    (plain old new line (command.Cancel c) (act.Cancel j) e refl refl refl)

-- a look that hits leaves what is held
pub take_hits : (old new : Seat) (line j at : ℕ) → length (tasks_of old) < 64 → Enters old new (act.Look j at true) → Obeys old new line command.Take []
take_hits old new line j at few e =
    enters old new line command.Take (act.Look j at true) [] (few, tt) (plain old new line command.Take (act.Look j at true) e refl refl refl)

-- a look that misses and a compose are held
pub take_holds : (old new : Seat) (line : ℕ) (a : Act) (t : HeldTask) → length (tasks_of old) < 64 → IsClaim a → held_by a ≡ task_of t ∷ []
    → refusals line (suc (length old.history.journal)) a ≡ [] → Notes old.history new.history 0 a → new.held ≡ old.held ++ t ∷ []
    → new.refused ≡ old.refused → Obeys old new line command.Take []
take_holds old new line a t few m h r notes held refused =
    enters old new line command.Take a [] (few, m) (record {
      notes = notes;
      held = ap (map task_of) held ∙ map-append task_of old.held (t ∷ []) ∙ ap (λ (ts : List Task). tasks_of old ++ ts) (sym h);
      refused = refused ∙ sym (append-nil old.refused) ∙ ap (λ (rs : List Refused). old.refused ++ rs) (sym r);
      writes = no_file_written (did (now old) 0 a) a command.Take refl;
    })

-- ---- what is refused

no_view : (s : State) (c : ℕ) (ask : PixelGrid → Response) → IsSome (slice_get s.canvases c) → view_on s c ≡ None → at_view s c ask ≡ Denies reason.NoView
no_view s c ask there h = by_canvas (slice_get s.canvases c) there h
  where
    by_canvas : (o : Option Canvas) → is_some o ≡ true → option_and_then (λ (k : Canvas). k.view) o ≡ None
        → option_map_or (λ (k : Canvas). option_map_or ask k.view (Denies reason.NoView)) o (Denies reason.UnknownCanvas) ≡ Denies reason.NoView
    by_canvas None there h = absurd cc
    by_canvas (Some k) there h = ap (λ (o : Option PixelGrid). option_map_or ask o (Denies reason.NoView)) h

pub no_job : (s : State) (c : ℕ) (ask : ℕ → Response) → IsSome (slice_get s.canvases c) → last_job s c ≡ None → at_job s c ask ≡ Denies reason.NoJob
no_job s c ask there h = by_canvas (slice_get s.canvases c) there
  where
    by_canvas : (o : Option Canvas) → is_some o ≡ true
        → option_map_or (λ (k : Canvas). option_map_or ask (last_job s c) (Denies reason.NoJob)) o (Denies reason.UnknownCanvas) ≡ Denies reason.NoJob
    by_canvas None there = absurd cc
    by_canvas (Some k) there = ap (λ (o : Option ℕ). option_map_or ask o (Denies reason.NoJob)) h

-- a start that can't be
pub start_unknown : (old new : Seat) (line c : ℕ) → slice_get (now old).canvases c ≡ None → Declines old new line reason.UnknownCanvas
    → Obeys old new line (command.Start c) []
start_unknown old new line c h f = denies old new line (command.Start c) reason.UnknownCanvas (no_canvas (now old) c _ h) f

pub start_no_view : (old new : Seat) (line c : ℕ) → IsSome (slice_get (now old).canvases c) → view_on (now old) c ≡ None
    → Declines old new line reason.NoView → Obeys old new line (command.Start c) []
start_no_view old new line c there h f = denies old new line (command.Start c) reason.NoView (no_view (now old) c _ there h) f

pub start_too_many : (old new : Seat) (line c : ℕ) → IsSome (view_on (now old) c) → length (now old).jobs ≡ 4294967295
    → Declines old new line reason.TooManyJobs → Obeys old new line (command.Start c) []
start_too_many old new line c there h f =
    denies old new line (command.Start c) reason.TooManyJobs (by_canvas (slice_get (now old).canvases c) there) f
  where
    full : (n : ℕ) → n ≡ 4294967295 → nat_lt n 4294967295 ≡ false
    full n e = grind (arith, nat_tests)

    none_left : starts (now old) c ≡ Denies reason.TooManyJobs
    none_left = ap (λ (b : Bool). if b then Does (act.Start c (suc (length (now old).jobs))) else Denies reason.TooManyJobs) (full (length (now old).jobs) h)

    by_view : (o : Option PixelGrid) → is_some o ≡ true → option_map_or (λ (v : PixelGrid). starts (now old) c) o (Denies reason.NoView) ≡ Denies reason.TooManyJobs
    by_view None there = absurd cc
    by_view (Some v) there = none_left

    by_canvas : (o : Option Canvas) → is_some (option_and_then (λ (k : Canvas). k.view) o) ≡ true
        → option_map_or (λ (k : Canvas). option_map_or (λ (v : PixelGrid). starts (now old) c) k.view (Denies reason.NoView)) o (Denies reason.UnknownCanvas) ≡ Denies reason.TooManyJobs
    by_canvas None there = absurd cc
    by_canvas (Some k) there = by_view k.view there

-- a cancel that can't be
pub cancel_unknown : (old new : Seat) (line c : ℕ) → slice_get (now old).canvases c ≡ None → Declines old new line reason.UnknownCanvas
    → Obeys old new line (command.Cancel c) []
cancel_unknown old new line c h f = denies old new line (command.Cancel c) reason.UnknownCanvas (no_canvas (now old) c _ h) f

pub cancel_no_job : (old new : Seat) (line c : ℕ) → IsSome (slice_get (now old).canvases c) → last_job (now old) c ≡ None
    → Declines old new line reason.NoJob → Obeys old new line (command.Cancel c) []
cancel_no_job old new line c there h f = denies old new line (command.Cancel c) reason.NoJob (no_job (now old) c _ there h) f

how_is : (s : State) (j : ℕ) (h : How) → OfJob s j (λ job. job.ended ≡ Some h) → how s j ≡ Some h
how_is s j h f = by_job (job_in s.jobs j) f
  where
    by_job : (o : Option Job) → IsSomeAnd o (λ job. job.ended ≡ Some h) → option_and_then (λ (job : Job). job.ended) o ≡ Some h
    by_job None f = absurd f
    by_job (Some job) f = f

pub cancel_ended : (old new : Seat) (line c j : ℕ) (h : How) → IsSome (slice_get (now old).canvases c) → last_job (now old) c ≡ Some j
    → OfJob (now old) j (λ job. job.ended ≡ Some h) → Declines old new line (ended_reason h) → Obeys old new line (command.Cancel c) []
cancel_ended old new line c j h there last e f =
    denies old new line (command.Cancel c) (ended_reason h) (by_canvas (slice_get (now old).canvases c) there) f
  where
    ask : ℕ → Response
    ask k = unless_ended (how (now old) k) (act.Cancel k)

    by_canvas : (o : Option Canvas) → is_some o ≡ true
        → option_map_or (λ (k : Canvas). option_map_or ask (last_job (now old) c) (Denies reason.NoJob)) o (Denies reason.UnknownCanvas) ≡ Denies (ended_reason h)
    by_canvas None there = absurd cc
    by_canvas (Some k) there =
        ap (λ (o : Option ℕ). option_map_or ask o (Denies reason.NoJob)) last
        ∙ ap (λ (o : Option How). unless_ended o (act.Cancel j)) (how_is (now old) j h e)
