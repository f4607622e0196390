-- Plays of tasks: what is claimed, done and waited for, over plain seats.
use Rattle.std.proofs.Common.{◌≡◌, ◌⊎◌, inl, inr, refl, ap, sym, ◌∙◌, subst, ◌≤◌, ◌<◌, ℕ, suc, ◌==◌, nat_eq, nat_lt, nat_le, Bool, true, false, not, ◌&&◌, ◌||◌, if◌then◌else◌}
use Rattle.std.proofs.Common.{List, [], ◌∷◌, ◌++◌, map, length, drop, slice_get, Option, Some, None, is_some, option_map, option_and_then, option_to_list, arith, IsSome, IsSomeAnd}
use Rattle.std.specs.List.{list_any}
use Rattle.std.specs.Option.{option_map_or}
use Rattle.std.proofs.lemmas.List.{append-nil, length-map}
use Rattle.std.proofs.lemmas.Bool.{false≢true, true≢false}
use Rattle.std.proofs.lemmas.Bool.Decides.{nat_tests}
use Rattle.cv_event.specs.declared.entry.Act.{Act}
use Rattle.cv_event.specs.declared.entry.Act.TheVariants as act
use Rattle.cv_event.specs.declared.entry.How.{How}
use Rattle.cv_event.specs.declared.entry.How.TheVariants as how_is
use Rattle.cv_event.specs.declared.refused.Reason.TheVariants as reason
use Rattle.cv_event.specs.declared.refused.Refused.{Refused}
use Rattle.cv_event.specs.declared.slot.Task.{Task}
use Rattle.cv_event.specs.declared.slot.Task.TheVariants.{Look, Compose}
use Rattle.cv_event.specs.States.{Job, Canvas, State, job_in, did}
use Rattle.cv_event.specs.Legality.{OfJob, how, task}
use Rattle.cv_event.proofs.JobLemmas.{suc_zero, after_one}
use Rattle.cv_desk.specs.Desks.{History, state, Notes}
use Rattle.cv_desk.specs.Answers.{IsOfJob}
use Rattle.cv_script.specs.declared.script.Command.TheVariants as command
use Rattle.cv_script.specs.declared.script.Numbered.{Numbered}
use Rattle.cv_session.specs.declared.seat.HeldTask.{HeldTask}
use Rattle.cv_session.specs.Responses.{Response, Does, Gives as Calls, Waits, Refuses as Denies, last_job, response, claimed, job_of_task, held_by}
use Rattle.cv_session.specs.Plays.{Awaited, Mode, Begins, GivesOne, GivesAll, Works, Closes, Written, due_in, turned, refusing, begun, letting, let_go, given_all, waited, worked}
use Rattle.cv_session.specs.Plays.{silent, is_of_held, fails, entered, served, next, refusals}
use Rattle.cv_session.specs.Entered.{IsClaim, MayDo, MayGive, May}
use Rattle.cv_session.specs.Seats.{Seat, now, task_of, tasks_of, Refuses, play_of, Moves, Obeys}
use Rattle.cv_session.specs.declared.tasks.Taken.{Taken}
use Rattle.cv_session.specs.declared.tasks.Taken.TheVariants as taken
use Rattle.cv_session.specs.Tasks.{Takes, Served, is_done, is_failed, is_let_go, ServesFirst, GivesRest, JobsStay, Gives, WaitsOn}
use Rattle.cv_session.proofs.EnteredLemmas.{allowed_is_planned}
use Rattle.cv_session.proofs.MoveLemmas.{behind, arrives, declines, denies, stay_put, go_on, by_quiet, by_own, by_failed, plays_of}
use Rattle.cv_session.proofs.ObeyLemmas.{no_canvas, no_job, enters, take_holds}
use Rattle.cv_session.proofs.WriteLemmas.{no_file_written}
use Rattle.cv_session.proofs.TaskLemmas.{done_holds_none}

itself : (n : ℕ) → (n == n) ≡ true
itself n = grind (arith, nat_tests)

-- ---- jobs stay

pub jobs_noted : (old new : History) (a : Act) → Notes old new 0 a → JobsStay (state old) (state new)
jobs_noted old new a notes j there =
    subst (λ (s : State). is_some (job_in s.jobs j) ≡ true) (sym notes.becomes) (by_job (job_in (state old).jobs j) refl there)
  where
    by_job : (o : Option Job) → job_in (state old).jobs j ≡ o → is_some o ≡ true → is_some (job_in (did (state old) 0 a).jobs j) ≡ true
    by_job None e h = absurd (false≢true h)
    by_job (Some job) e h = ap is_some (after_one (state old) 0 a j job notes.allowed e)

pub jobs_served : (old new : History) (t : Task) → Served old new t → JobsStay (state old) (state new)
jobs_served old new t (is_done a m notes) = jobs_noted old new a notes
jobs_served old new t (is_failed notes) = jobs_noted old new _ notes
jobs_served old new t (is_let_go j is same over) = λ k there. subst (λ (h : History). is_some (job_in (state h).jobs k) ≡ true) (sym same) there

-- ---- a held task

-- what is about to be done where held tasks are, and behind that
pub data Serving : Mode → Mode → Type 0 where
  one : Serving GivesOne Begins
  all : (w : Awaited) → Serving (GivesAll w) (GivesAll w)
  works : (w : Awaited) → Serving (Works w) (Works w)
  closes : Serving Closes Closes

serving_next : (m m2 : Mode) → Serving m m2 → (d : Act) (cs : List Numbered) (w : List Written) (a : Seat)
    → next d (play_of m cs w a) ≡ served m2 d (entered d (play_of m cs w a))
serving_next _ _ one d cs w a = refl
serving_next _ _ (all v) d cs w a = refl
serving_next _ _ (works v) d cs w a = refl
serving_next _ _ closes d cs w a = refl

serving_may : (m m2 : Mode) → Serving m m2 → (d : Act) (cs : List Numbered) (w : List Written) (a : Seat) (t : Task) (ts : List Task)
    → tasks_of a ≡ t ∷ ts → MayDo t d → May (play_of m cs w a) d
serving_may _ _ one d cs w a t ts e m = subst (λ (us : List Task). MayGive us d) (sym e) m
serving_may _ _ (all v) d cs w a t ts e m = subst (λ (us : List Task). MayGive us d) (sym e) m
serving_may _ _ (works v) d cs w a t ts e m = subst (λ (us : List Task). May (record (play_of (Works v) cs w a) { held = us }) d) (sym e) m
serving_may _ _ closes d cs w a t ts e m = subst (λ (us : List Task). MayGive us d) (sym e) m

serving_fails : (m m2 : Mode) → Serving m m2 → (cs : List Numbered) (w : List Written) (a : Seat) (t : Task) (ts : List Task)
    → tasks_of a ≡ t ∷ ts → fails (play_of m cs w a) (job_of_task t) ≡ true
serving_fails _ _ one cs w a t ts e = ap (λ (us : List Task). is_of_held us (job_of_task t)) e ∙ itself (job_of_task t)
serving_fails _ _ (all v) cs w a t ts e = ap (λ (us : List Task). is_of_held us (job_of_task t)) e ∙ itself (job_of_task t)
serving_fails _ _ (works v) cs w a t ts e = ap (λ (us : List Task). fails (record (play_of (Works v) cs w a) { held = us }) (job_of_task t)) e ∙ itself (job_of_task t)
serving_fails _ _ closes cs w a t ts e = ap (λ (us : List Task). is_of_held us (job_of_task t)) e ∙ itself (job_of_task t)

-- the play behind such an entry
serving_to : (m m2 : Mode) → Serving m m2 → (cs : List Numbered) (old new : Seat) (d : Act) → Notes old.history new.history 0 d
    → tasks_of new ≡ drop 1 (tasks_of old) ++ held_by d → new.refused ≡ old.refused
    → (w : List Written) → next d (play_of m cs w old) ≡ play_of m2 cs (w ++ []) new
serving_to m m2 kind cs old new d notes held refused w =
    serving_next m m2 kind d cs w old ∙ plays_of m2 cs old new d w notes (drop 1 (tasks_of old) ++ held_by d) held refused
    ∙ ap (λ (v : List Written). play_of m2 cs v new) (sym (append-nil w))

-- an entry there
serving_own : (m m2 : Mode) → Serving m m2 → (cs : List Numbered) (old new : Seat) (d : Act) → Notes old.history new.history 0 d
    → ((w : List Written) → May (play_of m cs w old) d) → tasks_of new ≡ drop 1 (tasks_of old) ++ held_by d → new.refused ≡ old.refused → Moves m cs old m2 cs new []
serving_own m m2 kind cs old new d notes may held refused =
    by_own m m2 cs cs old new d [] notes (λ w. allowed_is_planned (play_of m cs w old) d (may w) notes.allowed) (serving_to m m2 kind cs old new d notes held refused)

serving_failed : (m m2 : Mode) → Serving m m2 → (cs : List Numbered) (old new : Seat) (j : ℕ) → Notes old.history new.history 0 (act.Fail j)
    → ((w : List Written) → fails (play_of m cs w old) j ≡ true) → tasks_of new ≡ drop 1 (tasks_of old) ++ [] → new.refused ≡ old.refused → Moves m cs old m2 cs new []
serving_failed m m2 kind cs old new j notes may held refused =
    by_failed m m2 cs cs old new j [] notes may (serving_to m m2 kind cs old new (act.Fail j) notes held refused)

-- a composition that is let go
pub data Letting : Mode → Mode → Type 0 where
  from_one : Letting GivesOne Begins
  from_all : (w : Awaited) → Letting (GivesAll w) (GivesAll w)
  from_last : Letting Closes Closes

letting_serves : (m m2 : Mode) → Letting m m2 → Serving m m2
letting_serves _ _ from_one = one
letting_serves _ _ (from_all w) = all w
letting_serves _ _ from_last = closes

lets : (m m2 : Mode) → Letting m m2 → (cs : List Numbered) (w : List Written) (old : Seat) (j : ℕ) (ts : List Task) → tasks_of old ≡ Compose j ∷ ts
    → is_some (how (now old) j) ≡ true → silent (play_of m cs w old) ≡ Some (letting m2 ts (play_of m cs w old))
lets m m2 kind cs w old j ts e over = by_mode m m2 kind ∙ ended m2 (is_some (how (now old) j)) over
  where
    by_mode : (m m2 : Mode) → Letting m m2
        → silent (play_of m cs w old) ≡ (if is_some (how (now old) j) then Some (letting m2 ts (play_of m cs w old)) else None)
    by_mode _ _ from_one = ap (λ (us : List Task). let_go Begins us (play_of GivesOne cs w old)) e
    by_mode _ _ (from_all v) = ap (λ (us : List Task). given_all v us (play_of (GivesAll v) cs w old)) e
    by_mode _ _ from_last = ap (λ (us : List Task). let_go Closes us (play_of Closes cs w old)) e

    ended : (m2 : Mode) (x : Bool) → x ≡ true → (if x then Some (letting m2 ts (play_of m cs w old)) else None) ≡ Some (letting m2 ts (play_of m cs w old))
    ended m2 true h = refl
    ended m2 false h = absurd (false≢true h)

lets_to : (m m2 : Mode) (cs : List Numbered) (w : List Written) (old new : Seat) (ts : List Task) → new.history ≡ old.history → tasks_of new ≡ ts
    → new.refused ≡ old.refused → letting m2 ts (play_of m cs w old) ≡ play_of m2 cs w new
lets_to m m2 cs w old new ts same held refused = λ i. record {
  read = length (sym same i).journal;
  state = state (sym same i);
  known = state (sym same i);
  due = due_in (state (sym same i));
  held = sym held i;
  mode = m2;
  commands = cs;
  refused = sym refused i;
  written = w;
}

-- the task that was held longest is done
pub serves_first : (m m2 : Mode) → Letting m m2 → (cs : List Numbered) (old new : Seat) → ServesFirst old new → Moves m cs old m2 cs new []
serves_first m m2 kind cs old new f = by_kind f.served
  where
    rest : (d : Act) → held_by d ≡ [] → tasks_of new ≡ drop 1 (tasks_of old) ++ held_by d
    rest d e =
        f.becomes ∙ sym (append-nil f.rest) ∙ ap (λ (us : List Task). f.rest ++ us) (sym e) ∙ ap (λ (us : List Task). drop 1 us ++ held_by d) (sym f.was)

    by_kind : Served old.history new.history f.first → Moves m cs old m2 cs new []
    by_kind (is_done d may notes) =
        serving_own m m2 (letting_serves m m2 kind) cs old new d notes
        (λ w. serving_may m m2 (letting_serves m m2 kind) d cs w old f.first f.rest f.was may) (rest d (done_holds_none f.first d may)) f.refused
    by_kind (is_failed notes) =
        serving_failed m m2 (letting_serves m m2 kind) cs old new (job_of_task f.first) notes
        (λ w. serving_fails m m2 (letting_serves m m2 kind) cs w old f.first f.rest f.was) (rest (act.Fail (job_of_task f.first)) refl) f.refused
    by_kind (is_let_go j is same over) =
        by_quiet m m2 cs cs old new same
        (λ w. lets m m2 kind cs w old j f.rest (f.was ∙ ap (λ (t : Task). t ∷ f.rest) is) (subst (λ (t : Task). is_some (how (now old) (job_of_task t)) ≡ true) is over)
        ∙ ap Some (lets_to m m2 cs w old new f.rest same f.becomes f.refused))

-- under `wait` it is a task of a job without end
pub works_first : (v : Awaited) (cs : List Numbered) (old new : Seat) → ServesFirst old new → ((t : Task) → tasks_of old ≡ t ∷ [] → how (now old) (job_of_task t) ≡ None)
    → tasks_of new ≡ [] → Moves (Works v) cs old (Works v) cs new []
works_first v cs old new f live none = by_kind f.served
  where
    alone : tasks_of old ≡ f.first ∷ []
    alone = f.was ∙ ap (λ (us : List Task). f.first ∷ us) (sym f.becomes ∙ none)

    rest : (d : Act) → held_by d ≡ [] → tasks_of new ≡ drop 1 (tasks_of old) ++ held_by d
    rest d e = none ∙ sym e ∙ ap (λ (us : List Task). drop 1 us ++ held_by d) (sym alone)

    clash : {A : Type 0} (o : Option A) → o ≡ None → is_some o ≡ true → ⊥
    clash None e h = false≢true h
    clash (Some x) e h = absurd cc

    by_kind : Served old.history new.history f.first → Moves (Works v) cs old (Works v) cs new []
    by_kind (is_done d may notes) =
        serving_own (Works v) (Works v) (works v) cs old new d notes
        (λ w. serving_may (Works v) (Works v) (works v) d cs w old f.first f.rest f.was may) (rest d (done_holds_none f.first d may)) f.refused
    by_kind (is_failed notes) =
        serving_failed (Works v) (Works v) (works v) cs old new (job_of_task f.first) notes
        (λ w. serving_fails (Works v) (Works v) (works v) cs w old f.first f.rest f.was) (rest (act.Fail (job_of_task f.first)) refl) f.refused
    by_kind (is_let_go j is same over) = absurd (clash (how (now old) (job_of_task f.first)) (live f.first alone) over)

-- ---- all held tasks

rest_lets : (m : Mode) → GivesRest m → Letting m m
rest_lets (GivesAll w) r = from_all w
rest_lets Closes r = from_last
rest_lets Begins r = absurd r
rest_lets GivesOne r = absurd r
rest_lets (Works w) r = absurd r
rest_lets _ r = absurd r

pub gives_none : (old : Seat) → Gives old old
gives_none old = record { moves = λ m cs r. stay_put m cs old; jobs = λ j there. there }

pub gives_more : (old mid new : Seat) → Gives old mid → ServesFirst mid new → Gives old new
gives_more old mid new g f = record {
  moves = λ m cs r. go_on m m m cs cs cs old mid new [] [] (g.moves m cs r) (serves_first m m (rest_lets m r) cs mid new f);
  jobs = λ j there. jobs_served mid.history new.history f.first f.served j (g.jobs j there);
}

-- ---- a wait

-- what is claimed under `wait`
pub works_claim : (v : Awaited) (cs : List Numbered) (old new : Seat) (a : Act) → tasks_of old ≡ [] → OfJob (now old) v.job (λ job. job.ended ≡ None) → IsClaim a
    → Notes old.history new.history 0 a → tasks_of new ≡ held_by a → new.refused ≡ old.refused → Moves (Works v) cs old (Works v) cs new []
works_claim v cs old new a none live claim notes held refused =
    serving_own (Works v) (Works v) (works v) cs old new a notes
    (λ w. subst (λ (us : List Task). May (record (play_of (Works v) cs w old) { held = us }) a) (sym none) (no_end (job_in (now old).jobs v.job) live, claim))
    (held ∙ ap (λ (us : List Task). drop 1 us ++ held_by a) (sym none)) refused
  where
    no_end : (o : Option Job) → IsSomeAnd o (λ job. job.ended ≡ None) → option_and_then (λ (job : Job). job.ended) o ≡ None
    no_end None h = absurd h
    no_end (Some job) h = h

-- the job of the task that is due may fail in the place of a claim
due_is : (s : State) (j : ℕ) → IsSomeAnd (task s) (IsOfJob j) → list_any (nat_eq j) (due_in s) ≡ true
due_is s j h = by_task (task s) h
  where
    same : (k : ℕ) → k ≡ j → (nat_eq j k || false) ≡ true
    same k e = grind (arith, nat_tests)

    by_task : (o : Option Task) → IsSomeAnd o (IsOfJob j) → list_any (nat_eq j) (option_to_list (option_map job_of_task o)) ≡ true
    by_task None h = absurd h
    by_task (Some (Look k at)) h = same k h
    by_task (Some (Compose k)) h = same k h

pub works_claim_failed : (v : Awaited) (cs : List Numbered) (old new : Seat) (j : ℕ) → tasks_of old ≡ [] → OfJob (now old) v.job (λ job. job.ended ≡ None)
    → IsSomeAnd (task (now old)) (IsOfJob j) → Notes old.history new.history 0 (act.Fail j) → tasks_of new ≡ [] → new.refused ≡ old.refused
    → Moves (Works v) cs old (Works v) cs new []
works_claim_failed v cs old new j none live due notes held refused =
    serving_failed (Works v) (Works v) (works v) cs old new j notes
    (λ w. ap (λ (us : List Task). fails (record (play_of (Works v) cs w old) { held = us }) j) none
    ∙ both (how (now old) v.job) _ (no_end (job_in (now old).jobs v.job) live) (due_is (now old) j due))
    (held ∙ ap (λ (us : List Task). drop 1 us ++ []) (sym none)) refused
  where
    no_end : (o : Option Job) → IsSomeAnd o (λ job. job.ended ≡ None) → option_and_then (λ (job : Job). job.ended) o ≡ None
    no_end None h = absurd h
    no_end (Some job) h = h

    both : (o : Option How) (b : Bool) → o ≡ None → b ≡ true → (not (is_some o) && b) ≡ true
    both None b e f = f
    both (Some x) b e f = absurd cc

-- a wait goes on
pub waits_none : (old : Seat) (j : ℕ) → old.held ≡ [] → WaitsOn old old j
waits_none old j none = record { moves = λ w cs e. stay_put (Works w) cs old; jobs = λ k there. there; none = none }

pub waits_more : (old mid new : Seat) (j : ℕ) → WaitsOn old mid j → WaitsOn mid new j → WaitsOn old new j
waits_more old mid new j f g = record {
  moves = λ w cs e. go_on (Works w) (Works w) (Works w) cs cs cs old mid new [] [] (f.moves w cs e) (g.moves w cs e);
  jobs = λ k there. g.jobs k (f.jobs k there);
  none = g.none;
}

-- ---- commands

-- what `wait` waits for
wait_asks : (s : State) (held c j : ℕ) → IsSome (slice_get s.canvases c) → last_job s c ≡ Some j → response s held (command.Wait c) ≡ Waits j
wait_asks s held c j there last = by_canvas (slice_get s.canvases c) there
  where
    by_canvas : (o : Option Canvas) → is_some o ≡ true
        → option_map_or (λ (k : Canvas). option_map_or Waits (last_job s c) (Denies reason.NoJob)) o (Denies reason.UnknownCanvas) ≡ Waits j
    by_canvas None h = absurd (false≢true h)
    by_canvas (Some k) h = ap (λ (o : Option ℕ). option_map_or Waits o (Denies reason.NoJob)) last

-- up to the end that it waits for
waits_for : (old mid last : Seat) (line c j : ℕ) → IsSome (slice_get (now old).canvases c) → last_job (now old) c ≡ Some j → Gives old mid → mid.held ≡ []
    → WaitsOn mid last j → (rest : List Numbered)
    → Moves Begins (behind line (command.Wait c) rest) old (Works (record { line = line; job = j })) rest last []
waits_for old mid last line c j there is gives none waits rest =
    let w : Awaited = record { line = line; job = j } in
    go_on Begins (GivesAll w) (Works w) (behind line (command.Wait c) rest) rest rest old old last [] []
    (by_quiet Begins (GivesAll w) (behind line (command.Wait c) rest) rest old old refl
    (λ before. ap (λ (r : Response). begun line rest r (play_of Begins (behind line (command.Wait c) rest) before old)) (wait_asks (now old) (length (tasks_of old)) c j there is)))
    (go_on (GivesAll w) (GivesAll w) (Works w) rest rest rest old mid last [] [] (gives.moves (GivesAll w) rest tt)
    (go_on (GivesAll w) (Works w) (Works w) rest rest rest mid mid last [] []
    (by_quiet (GivesAll w) (Works w) rest rest mid mid refl (λ before. ap (λ (ts : List Task). given_all w ts (play_of (GivesAll w) rest before mid)) (ap (map task_of) none)))
    (waits.moves w rest refl)))

-- behind a job that ended otherwise
wait_ends : (old mid last : Seat) (line c j : ℕ) (end : How) → IsSome (slice_get (now old).canvases c) → last_job (now old) c ≡ Some j → Gives old mid → mid.held ≡ []
    → WaitsOn mid last j → how (now last) j ≡ Some end → (end ≡ how_is.NoMemory → ⊥) → Obeys old last line (command.Wait c) []
wait_ends old mid last line c j end there is gives none waits ended memory rest =
    let w : Awaited = record { line = line; job = j } in
    go_on Begins (Works w) Begins (behind line (command.Wait c) rest) rest rest old last last [] [] (waits_for old mid last line c j there is gives none waits rest)
    (by_quiet (Works w) Begins rest rest last last refl
    (λ before. ap (λ (ts : List Task). worked w ts (play_of (Works w) rest before last)) (ap (map task_of) waits.none)
    ∙ ap (λ (o : Option How). waited w o (play_of (Works w) rest before last)) ended ∙ by_end end memory before))
  where
    by_end : (end : How) → (end ≡ how_is.NoMemory → ⊥) → (before : List Written)
        → waited (record { line = line; job = j }) (Some end) (play_of (Works (record { line = line; job = j })) rest before last) ≡ Some (play_of Begins rest before last)
    by_end how_is.Finished f before = refl
    by_end how_is.Cancelled f before = refl
    by_end how_is.NoMemory f before = absurd (f refl)

-- behind one that got no memory
pub wait_ends_badly : (old mid last new : Seat) (line c j : ℕ) → IsSome (slice_get (now old).canvases c) → last_job (now old) c ≡ Some j → Gives old mid → mid.held ≡ []
    → WaitsOn mid last j → how (now last) j ≡ Some how_is.NoMemory → Refuses last new line reason.EndedNoMemory → Obeys old new line (command.Wait c) []
wait_ends_badly old mid last new line c j there is gives none waits ended f rest =
    let w : Awaited = record { line = line; job = j } in
    go_on Begins (Works w) Begins (behind line (command.Wait c) rest) rest rest old last new [] [] (waits_for old mid last line c j there is gives none waits rest)
    (by_quiet (Works w) Begins rest rest last new f.history
    (λ before. ap (λ (ts : List Task). worked w ts (play_of (Works w) rest before last)) (ap (map task_of) waits.none)
    ∙ ap (λ (o : Option How). waited w o (play_of (Works w) rest before last)) ended ∙ ap Some (refused_play before)))
  where
    refused_play : (before : List Written)
        → refusing line reason.EndedNoMemory (turned Begins (play_of (Works (record { line = line; job = j })) rest before last)) ≡ play_of Begins rest before new
    refused_play before = λ i. record {
      read = length (sym f.history i).journal;
      state = state (sym f.history i);
      known = state (sym f.history i);
      due = due_in (state (sym f.history i));
      held = map task_of (sym f.held i);
      mode = Begins;
      commands = rest;
      refused = sym f.refused i;
      written = before;
    }

-- `give`
pub give_none : (old new : Seat) (line : ℕ) → old.held ≡ [] → Refuses old new line reason.NothingHeld → Obeys old new line command.Give []
give_none old new line none f =
    denies old new line command.Give reason.NothingHeld
    (ap (λ (ts : List HeldTask). if length (map task_of ts) == 0 then Denies reason.NothingHeld else Calls) none) (declines old new line reason.NothingHeld f)

pub give_one : (old new : Seat) (line : ℕ) → ServesFirst old new → Obeys old new line command.Give []
give_one old new line f rest =
    go_on Begins GivesOne Begins (behind line command.Give rest) rest rest old old new [] []
    (by_quiet Begins GivesOne (behind line command.Give rest) rest old old refl
    (λ before. ap (λ (r : Response). begun line rest r (play_of Begins (behind line command.Give rest) before old)) asks))
    (serves_first GivesOne Begins from_one rest old new f)
  where
    asks : response (now old) (length (tasks_of old)) command.Give ≡ Calls
    asks =
        ap (λ (ts : List Task). if length ts == 0 then Denies reason.NothingHeld else Calls) f.was
        ∙ ap (λ (x : Bool). if x then Denies reason.NothingHeld else Calls) (suc_zero (length f.rest))

-- `take`
held_few : (old : Seat) → length old.held < 64 → length (tasks_of old) < 64
held_few old few = let l = length-map old.held task_of in omega (arith, l, few)

take_asks : (s : State) (held : ℕ) → held < 64 → task s ≡ None → response s held command.Take ≡ Denies reason.Nothing
take_asks s held few none = by_test (nat_le 64 held) (less held few)
  where
    less : (n : ℕ) → n < 64 → nat_le 64 n ≡ false
    less n l = grind (arith, nat_tests)

    by_test : (x : Bool) → x ≡ false
        → (if x then Denies reason.HeldFull else option_map_or (λ t. Does (claimed s t)) (task s) (Denies reason.Nothing)) ≡ Denies reason.Nothing
    by_test true h = absurd (true≢false h)
    by_test false h = ap (λ (o : Option Task). option_map_or (λ t. Does (claimed s t)) o (Denies reason.Nothing)) none

pub take_nothing : (old mid new : Seat) (line : ℕ) → length old.held < 64 → Takes old mid taken.Nothing → Refuses mid new line reason.Nothing → Obeys old new line command.Take []
take_nothing old mid new line few goes f =
    denies old new line command.Take reason.Nothing (take_asks (now old) (length (tasks_of old)) (held_few old few) goes.0.2) (record {
      opening = ap (λ (h : History). h.opening) (f.history ∙ goes.0.0);
      journal = ap (λ (h : History). h.journal) (f.history ∙ goes.0.0);
      state = ap state (f.history ∙ goes.0.0);
      held = ap (map task_of) (f.held ∙ goes.0.1);
      refused = f.refused ∙ (λ i. goes.1 i ++ record { line = line; seen = length (goes.0.0 i).journal; reason = reason.Nothing } ∷ []);
    })

pub take_full : (old new : Seat) (line : ℕ) → 64 ≤ length old.held → Refuses old new line reason.HeldFull → Obeys old new line command.Take []
take_full old new line many f =
    denies old new line command.Take reason.HeldFull
    (ap (λ (x : Bool). if x then Denies reason.HeldFull else option_map_or (λ t. Does (claimed (now old) t)) (task (now old)) (Denies reason.Nothing)) (more (length old.held) (length (tasks_of old)) (length-map old.held task_of) many))
    (declines old new line reason.HeldFull f)
  where
    more : (m n : ℕ) → n ≡ m → 64 ≤ m → nat_le 64 n ≡ true
    more m n e l = grind (arith, nat_tests)

-- the claim's job may fail
take_failed : (old new : Seat) (line j : ℕ) → length old.held < 64 → IsSomeAnd (task (now old)) (IsOfJob j) → Notes old.history new.history 0 (act.Fail j)
    → new.held ≡ old.held → new.refused ≡ old.refused → Obeys old new line command.Take []
take_failed old new line j few due notes held refused rest =
    by_failed Begins Begins (behind line command.Take rest) rest old new j [] notes
    (λ w. both (nat_lt (length (tasks_of old)) 64) _ (less (length (tasks_of old)) (held_few old few)) (due_is (now old) j due))
    (λ w. arrives old new line command.Take (act.Fail j) [] w rest (record {
      notes = notes;
      held = ap (map task_of) held ∙ sym (append-nil (tasks_of old));
      refused = refused ∙ sym (append-nil old.refused);
      writes = refl;
    }))
  where
    less : (n : ℕ) → n < 64 → nat_lt n 64 ≡ true
    less n l = grind (arith, nat_tests)

    both : (a b : Bool) → a ≡ true → b ≡ true → (a && b) ≡ true
    both true b e f = f
    both false b e f = absurd (false≢true e)

claim_refuses_none : (a : Act) (line seen : ℕ) → IsClaim a → refusals line seen a ≡ []
claim_refuses_none (act.Look j at hit) line seen m = refl
claim_refuses_none (act.Compose j) line seen m = refl
claim_refuses_none (act.Edit e v) line seen m = absurd m
claim_refuses_none (act.View c view) line seen m = absurd m
claim_refuses_none (act.Start c j) line seen m = absurd m
claim_refuses_none (act.Deliver j at fate) line seen m = absurd m
claim_refuses_none (act.Finish j) line seen m = absurd m
claim_refuses_none (act.Fail j) line seen m = absurd m
claim_refuses_none (act.Cancel j) line seen m = absurd m
claim_refuses_none (act.Preview j ready) line seen m = absurd m
claim_refuses_none (act.Save c j) line seen m = absurd m

-- what a claim takes
take_done : (old new : Seat) (line : ℕ) (end : Taken) → length old.held < 64 → (end ≡ taken.Nothing → ⊥) → Takes old new end → Obeys old new line command.Take []
take_done old new line taken.Hit few f goes =
    let a = goes.0.0 in
    let more = goes.0.1 in
    enters old new line command.Take a [] (held_few old few, more.claim) (record {
      notes = more.notes;
      held = ap (map task_of) goes.0.2 ∙ sym (append-nil (tasks_of old)) ∙ ap (λ (ts : List Task). tasks_of old ++ ts) more.tasks;
      refused = goes.1 ∙ sym (append-nil old.refused) ∙ ap (λ (rs : List Refused). old.refused ++ rs) (sym (claim_refuses_none a line (suc (length old.history.journal)) more.claim));
      writes = no_file_written (did (now old) 0 a) a command.Take refl;
    })
take_done old new line taken.Held few f goes =
    let a = goes.0.0 in
    let t = goes.0.1.0 in
    let more = goes.0.1.1.0 in
    take_holds old new line a t (held_few old few) more.claim (sym more.tasks) (claim_refuses_none a line (suc (length old.history.journal)) more.claim) more.notes goes.0.1.1.1 goes.1
take_done old new line taken.Failed few f goes = take_failed old new line goes.0.0 few goes.0.2 goes.0.1 goes.0.3 goes.1
take_done old new line taken.Nothing few f goes = absurd (f refl)

pub take_some : (old new : Seat) (line : ℕ) (end : Taken) → length old.held < 64 → (end ≡ taken.Hit) ⊎ ((end ≡ taken.Held) ⊎ (end ≡ taken.Failed)) → Takes old new end
    → Obeys old new line command.Take []
take_some old new line end few is goes = take_done old new line end few (λ e. by_end end e is) goes
  where
    by_end : (end : Taken) → end ≡ taken.Nothing → (end ≡ taken.Hit) ⊎ ((end ≡ taken.Held) ⊎ (end ≡ taken.Failed)) → ⊥
    by_end end e (inl h) = hit (sym e ∙ h)
      where
        hit : taken.Nothing ≡ taken.Hit → ⊥
        hit h = cc
    by_end end e (inr (inl h)) = held (sym e ∙ h)
      where
        held : taken.Nothing ≡ taken.Held → ⊥
        held h = cc
    by_end end e (inr (inr h)) = failed (sym e ∙ h)
      where
        failed : taken.Nothing ≡ taken.Failed → ⊥
        failed h = cc

-- `wait` of no job
pub wait_unknown : (old new : Seat) (line c : ℕ) → slice_get (now old).canvases c ≡ None → Refuses old new line reason.UnknownCanvas → Obeys old new line (command.Wait c) []
wait_unknown old new line c h f =
    denies old new line (command.Wait c) reason.UnknownCanvas (no_canvas (now old) c (λ k. option_map_or Waits (last_job (now old) c) (Denies reason.NoJob)) h)
    (declines old new line reason.UnknownCanvas f)

pub wait_no_job : (old new : Seat) (line c : ℕ) → IsSome (slice_get (now old).canvases c) → last_job (now old) c ≡ None → Refuses old new line reason.NoJob
    → Obeys old new line (command.Wait c) []
wait_no_job old new line c there h f =
    denies old new line (command.Wait c) reason.NoJob (no_job (now old) c Waits there h) (declines old new line reason.NoJob f)

-- a job that ended otherwise
pub wait_ends_well : (old mid last : Seat) (line c j : ℕ) (end : How) → IsSome (slice_get (now old).canvases c) → last_job (now old) c ≡ Some j → Gives old mid → mid.held ≡ []
    → WaitsOn mid last j → how (now last) j ≡ Some end → (end ≡ how_is.Finished) ⊎ (end ≡ how_is.Cancelled) → Obeys old last line (command.Wait c) []
wait_ends_well old mid last line c j end there is gives none waits ended kind =
    wait_ends old mid last line c j end there is gives none waits ended (λ e. by_end kind e)
  where
    finished : how_is.Finished ≡ how_is.NoMemory → ⊥
    finished h = cc

    cancelled : how_is.Cancelled ≡ how_is.NoMemory → ⊥
    cancelled h = cc

    by_end : (end ≡ how_is.Finished) ⊎ (end ≡ how_is.Cancelled) → end ≡ how_is.NoMemory → ⊥
    by_end (inl h) e = finished (sym h ∙ e)
    by_end (inr h) e = cancelled (sym h ∙ e)

-- ---- the end

-- behind the last command all held tasks are done
pub closes_all : (old new : Seat) → Gives old new → Moves Begins [] old Closes [] new []
closes_all old new gives =
    go_on Begins Closes Closes [] [] [] old old new [] [] (by_quiet Begins Closes [] [] old old refl (λ before. refl)) (gives.moves Closes [] tt)
