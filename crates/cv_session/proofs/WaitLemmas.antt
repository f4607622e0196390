-- How many tasks are left to be claimed, and each step of a wait.
use Rattle.std.proofs.Common.{◌≡◌, ◌⊎◌, ⊎_elim, refl, ap, sym, ◌∙◌, subst, ◌≤◌, ◌<◌, ℕ, zero, suc, ◌+◌, Bool, true, false, if◌then◌else◌}
use Rattle.std.proofs.Common.{List, [], ◌∷◌, ◌++◌, map, drop, slice_get, Option, Some, None, is_some, option_and_then, arith, IsSomeAnd}
use Rattle.std.specs.Option.{option_or}
use Rattle.std.proofs.lemmas.Bool.{false≢true, true≢false}
use Rattle.cv_event.specs.declared.entry.Act.{Act}
use Rattle.cv_event.specs.declared.entry.Act.TheVariants as act
use Rattle.cv_event.specs.declared.entry.Fate.{Fate}
use Rattle.cv_event.specs.declared.entry.Fate.TheVariants.{Stored, Kept, Dropped}
use Rattle.cv_event.specs.declared.entry.How.{How}
use Rattle.cv_event.specs.declared.entry.How.TheVariants.{Finished, NoMemory}
use Rattle.cv_event.specs.declared.slot.Slot.{Slot}
use Rattle.cv_event.specs.declared.slot.Standing.{Standing}
use Rattle.cv_event.specs.declared.slot.Task.{Task}
use Rattle.cv_event.specs.declared.slot.Task.TheVariants.{Look, Compose}
use Rattle.cv_event.specs.States.{Job, State, change_at, job_in, change_job, slot_stands, stands_at, composed_by, with_end, looked, delivered, did}
use Rattle.cv_event.specs.Legality.{OfJob, how, is_open, all_ready, task, Allows}
use Rattle.cv_event.proofs.JobLemmas.{after_one}
use Rattle.cv_event.proofs.EndLemmas.{end_one}
use Rattle.cv_event.proofs.DueLemmas.{task_is_due, looks_are_of_live_jobs, composes_are_of_live_jobs}
use Rattle.cv_desk.specs.Desks.{History, state}
use Rattle.cv_desk.specs.Answers.{IsOfJob}
use Rattle.cv_session.specs.declared.seat.HeldTask.{HeldTask}
use Rattle.cv_session.specs.declared.tasks.Taken.{Taken}
use Rattle.cv_session.specs.declared.tasks.Taken.TheVariants as taken
use Rattle.cv_session.specs.Responses.{job_of_task, held_by}
use Rattle.cv_session.specs.Plays.{Works}
use Rattle.cv_session.specs.Entered.{IsClaim, MayDo}
use Rattle.cv_session.specs.Covered.{Covers}
use Rattle.cv_session.specs.Seats.{Seat, now, task_of, tasks_of, IsSeat}
use Rattle.cv_session.specs.Tasks.{Takes, Served, is_done, is_failed, is_let_go, ServesFirst, open_weight, open_in, unclaimed_of, unclaimed, WaitsOnce}
use Rattle.cv_session.proofs.PlayLemmas.{same_some}
use Rattle.cv_session.proofs.MoveLemmas.{go_on}
use Rattle.cv_session.proofs.CoverLemmas.{has_one, any_in}
use Rattle.cv_session.proofs.ServeLemmas.{jobs_noted, jobs_served, works_first, works_claim, works_claim_failed}

-- ---- one job changed

weigh_at : (f : Job → Job) (jobs : List Job) (k : ℕ) (job : Job) → slice_get jobs k ≡ Some job
    → unclaimed (change_at k f jobs) + unclaimed_of job ≡ unclaimed jobs + unclaimed_of (f job)
weigh_at f [] k job e = absurd cc
weigh_at f (x ∷ xs) zero job e =
    let same : x ≡ job = same_some e in
    let old = ap unclaimed_of same in
    let new = ap (λ (y : Job). unclaimed_of (f y)) same in
    omega (arith, old, new)
weigh_at f (x ∷ xs) (suc k) job e = let rest = weigh_at f xs k job e in omega (arith, rest)

fewer : (f : Job → Job) (jobs : List Job) (j : ℕ) (job : Job) → job_in jobs j ≡ Some job → unclaimed_of (f job) < unclaimed_of job
    → unclaimed (change_job j f jobs) < unclaimed jobs
fewer f jobs zero job e less = absurd cc
fewer f jobs (suc k) job e less = let same = weigh_at f jobs k job e in omega (arith, same, less)

no_more_at : (f : Job → Job) → ((job : Job) → unclaimed_of (f job) ≤ unclaimed_of job) → (k : ℕ) (jobs : List Job) → unclaimed (change_at k f jobs) ≤ unclaimed jobs
no_more_at f less k [] = omega arith
no_more_at f less zero (x ∷ xs) = let first = less x in omega (arith, first)
no_more_at f less (suc k) (x ∷ xs) = let rest = no_more_at f less k xs in omega (arith, rest)

no_more : (f : Job → Job) → ((job : Job) → unclaimed_of (f job) ≤ unclaimed_of job) → (j : ℕ) (jobs : List Job) → unclaimed (change_job j f jobs) ≤ unclaimed jobs
no_more f less zero jobs = omega arith
no_more f less (suc k) jobs = no_more_at f less k jobs

-- ---- a slot that is open no more

shut : (x : Standing) (slot : Slot) → is_open x ≡ false → open_weight (slot_stands x slot) ≡ 0
shut x slot h = ap (λ (b : Bool). if b then 1 else 0) h

open_no_more : (x : Standing) → is_open x ≡ false → (at : ℕ) (list : List Slot) → open_in (change_at at (slot_stands x) list) ≤ open_in list
open_no_more x h at [] = omega arith
open_no_more x h zero (y ∷ ys) = let none = shut x y h in omega (arith, none)
open_no_more x h (suc at) (y ∷ ys) = let rest = open_no_more x h at ys in omega (arith, rest)

open_fewer : (x : Standing) → is_open x ≡ false → (at : ℕ) (list : List Slot) (slot : Slot) → slice_get list at ≡ Some slot → is_open slot.standing ≡ true
    → open_in (change_at at (slot_stands x) list) < open_in list
open_fewer x h at [] slot e o = absurd cc
open_fewer x h zero (y ∷ ys) slot e o =
    let none = shut x y h in
    let one : open_weight y ≡ 1 = ap open_weight (same_some e) ∙ ap (λ (b : Bool). if b then 1 else 0) o in
    omega (arith, none, one)
open_fewer x h (suc at) (y ∷ ys) slot e o = let rest = open_fewer x h at ys slot e o in omega (arith, rest)

if_no_more : (b : Bool) (m n : ℕ) → m ≤ n → (if b then 0 else m) ≤ (if b then 0 else n)
if_no_more true m n h = omega arith
if_no_more false m n h = h

if_fewer : (b : Bool) (m n : ℕ) → b ≡ false → m < n → (if b then 0 else m) < (if b then 0 else n)
if_fewer true m n e h = absurd (true≢false e)
if_fewer false m n e h = h

stands_no_more : (x : Standing) → is_open x ≡ false → (at : ℕ) (job : Job) → unclaimed_of (stands_at at x job) ≤ unclaimed_of job
stands_no_more x h at job =
    let less = open_no_more x h at job.slots in
    if_no_more (is_some job.ended) (open_in (change_at at (slot_stands x) job.slots) + (if is_some job.composer then 0 else 1)) (open_in job.slots + (if is_some job.composer then 0 else 1)) (omega (arith, less))

stands_fewer : (x : Standing) → is_open x ≡ false → (at : ℕ) (job : Job) (slot : Slot) → slice_get job.slots at ≡ Some slot → job.ended ≡ None
    → is_open slot.standing ≡ true → unclaimed_of (stands_at at x job) < unclaimed_of job
stands_fewer x h at job slot e live o =
    let less = open_fewer x h at job.slots slot e o in
    if_fewer (is_some job.ended) (open_in (change_at at (slot_stands x) job.slots) + (if is_some job.composer then 0 else 1)) (open_in job.slots + (if is_some job.composer then 0 else 1)) (ap is_some live) (omega (arith, less))

composed_fewer : (job : Job) → job.ended ≡ None → job.composer ≡ None → unclaimed_of (composed_by 0 job) < unclaimed_of job
composed_fewer job live free =
    let one : ◌≡◌ {A = ℕ} (if is_some job.composer then 0 else 1) 1 = ap (λ (o : Option ℕ). if is_some o then 0 else 1) free in
    if_fewer (is_some job.ended) (open_in job.slots + 0) (open_in job.slots + (if is_some job.composer then 0 else 1)) (ap is_some live) (omega (arith, one))

-- ---- a job that ends

ended_none : (how : How) (job : Job) → unclaimed_of (with_end how job) ≡ 0
ended_none how job = by_end job.ended
  where
    by_end : (o : Option How) → (if is_some (option_or o (Some how)) then 0 else open_in job.slots + (if is_some job.composer then 0 else 1)) ≡ 0
    by_end None = refl
    by_end (Some x) = refl

ends_no_more : (how : How) (job : Job) → unclaimed_of (with_end how job) ≤ unclaimed_of job
ends_no_more how job = let none = ended_none how job in omega (arith, none)

-- ---- what is due has weight

look_weighs : (job : Job) (at : ℕ) (slot : Slot) → slice_get job.slots at ≡ Some slot → job.ended ≡ None → is_open slot.standing ≡ true → 0 < unclaimed_of job
look_weighs job at slot e live o = let less = stands_fewer (looked 0 true) refl at job slot e live o in omega (arith, less)

compose_weighs : (job : Job) → job.ended ≡ None → job.composer ≡ None → 0 < unclaimed_of job
compose_weighs job live free = let less = composed_fewer job live free in omega (arith, less)

ends_fewer : (how : How) (jobs : List Job) (j : ℕ) (job : Job) → job_in jobs j ≡ Some job → 0 < unclaimed_of job → unclaimed (change_job j (with_end how) jobs) < unclaimed jobs
ends_fewer how jobs j job e some =
    let none = ended_none how job in
    fewer (with_end how) jobs j job e (omega (arith, none, some))

looked_shut : (hit : Bool) → is_open (looked 0 hit) ≡ false
looked_shut true = refl
looked_shut false = refl

delivered_shut : (fate : Fate) → is_open (delivered fate) ≡ false
delivered_shut Stored = refl
delivered_shut Kept = refl
delivered_shut Dropped = refl

-- the job and the slot of a look that is due, and the job of a compose
at_look : (s : State) (j at : ℕ) (P : Type 0) → task s ≡ Some (Look j at)
    → ((job : Job) (slot : Slot) → job_in s.jobs j ≡ Some job → slice_get job.slots at ≡ Some slot → job.ended ≡ None → is_open slot.standing ≡ true → P) → P
at_look s j at P due f = by_job (job_in s.jobs j) refl (looks_are_of_live_jobs s j at due)
  where
    by_slot : (job : Job) (o : Option Slot) → job_in s.jobs j ≡ Some job → slice_get job.slots at ≡ o
        → IsSomeAnd o (λ slot. (job.ended ≡ None) × (is_open slot.standing ≡ true)) → P
    by_slot job None there is h = absurd h
    by_slot job (Some slot) there is h = f job slot there is h.0 h.1

    by_job : (o : Option Job) → job_in s.jobs j ≡ o → IsSomeAnd o (λ job. IsSomeAnd (slice_get job.slots at) (λ slot. (job.ended ≡ None) × (is_open slot.standing ≡ true))) → P
    by_job None there h = absurd h
    by_job (Some job) there h = by_slot job (slice_get job.slots at) there refl h

at_compose : (s : State) (j : ℕ) (P : Type 0) → task s ≡ Some (Compose j)
    → ((job : Job) → job_in s.jobs j ≡ Some job → job.ended ≡ None → job.composer ≡ None → P) → P
at_compose s j P due f = by_job (job_in s.jobs j) refl (composes_are_of_live_jobs s j due)
  where
    by_job : (o : Option Job) → job_in s.jobs j ≡ o → IsSomeAnd o (λ job. (job.ended ≡ None) × (all_ready job.slots ≡ true) × (job.composer ≡ None)) → P
    by_job None there h = absurd h
    by_job (Some job) there h = f job there h.0 h.2

-- ---- entries

claim_fewer : (s : State) (a : Act) → IsClaim a → Allows s 0 a → unclaimed (did s 0 a).jobs < unclaimed s.jobs
claim_fewer s (act.Look j at hit) m h =
    at_look s j at (unclaimed (did s 0 (act.Look j at hit)).jobs < unclaimed s.jobs) h.0
    (λ job slot there is live o. fewer (stands_at at (looked 0 hit)) s.jobs j job there (stands_fewer (looked 0 hit) (looked_shut hit) at job slot is live o))
claim_fewer s (act.Compose j) m h =
    at_compose s j (unclaimed (did s 0 (act.Compose j)).jobs < unclaimed s.jobs) h (λ job there live free. fewer (composed_by 0) s.jobs j job there (composed_fewer job live free))
claim_fewer s (act.Edit e v) m h = absurd m
claim_fewer s (act.View c view) m h = absurd m
claim_fewer s (act.Start c j) m h = absurd m
claim_fewer s (act.Deliver j at fate) m h = absurd m
claim_fewer s (act.Finish j) m h = absurd m
claim_fewer s (act.Fail j) m h = absurd m
claim_fewer s (act.Cancel j) m h = absurd m
claim_fewer s (act.Preview j ready) m h = absurd m
claim_fewer s (act.Save c j) m h = absurd m

claim_failed_fewer : (s : State) (j : ℕ) → IsSomeAnd (task s) (IsOfJob j) → unclaimed (did s 0 (act.Fail j)).jobs < unclaimed s.jobs
claim_failed_fewer s j h = by_task (task s) refl h
  where
    by_task : (o : Option Task) → task s ≡ o → IsSomeAnd o (IsOfJob j) → unclaimed (change_job j (with_end NoMemory) s.jobs) < unclaimed s.jobs
    by_task None e h = absurd h
    by_task (Some (Look k at)) e h =
        subst (λ (k : ℕ). unclaimed (change_job k (with_end NoMemory) s.jobs) < unclaimed s.jobs) h
        (at_look s k at (unclaimed (change_job k (with_end NoMemory) s.jobs) < unclaimed s.jobs) e
        (λ job slot there is live o. ends_fewer NoMemory s.jobs k job there (look_weighs job at slot is live o)))
    by_task (Some (Compose k)) e h =
        subst (λ (k : ℕ). unclaimed (change_job k (with_end NoMemory) s.jobs) < unclaimed s.jobs) h
        (at_compose s k (unclaimed (change_job k (with_end NoMemory) s.jobs) < unclaimed s.jobs) e
        (λ job there live free. ends_fewer NoMemory s.jobs k job there (compose_weighs job live free)))

done_no_more : (s : State) (t : Task) (a : Act) → MayDo t a → unclaimed (did s 0 a).jobs ≤ unclaimed s.jobs
done_no_more s (Look j at) a m =
    subst (λ (a : Act). unclaimed (did s 0 a).jobs ≤ unclaimed s.jobs) (sym m.1)
    (no_more (stands_at at (delivered m.0)) (λ job. stands_no_more (delivered m.0) (delivered_shut m.0) at job) j s.jobs)
done_no_more s (Compose j) a m =
    subst (λ (a : Act). unclaimed (did s 0 a).jobs ≤ unclaimed s.jobs) (sym m) (no_more (with_end Finished) (λ job. ends_no_more Finished job) j s.jobs)

served_no_more : (old new : History) (t : Task) → Served old new t → unclaimed (state new).jobs ≤ unclaimed (state old).jobs
served_no_more old new t (is_done a m notes) = subst (λ (s : State). unclaimed s.jobs ≤ unclaimed (state old).jobs) (sym notes.becomes) (done_no_more (state old) t a m)
served_no_more old new t (is_failed notes) =
    subst (λ (s : State). unclaimed s.jobs ≤ unclaimed (state old).jobs) (sym notes.becomes) (no_more (with_end NoMemory) (λ job. ends_no_more NoMemory job) (job_of_task t) (state old).jobs)
served_no_more old new t (is_let_go j is same over) = let e = ap (λ (h : History). unclaimed (state h).jobs) same in omega (arith, e)

-- the job of what is claimed has no end
claim_live : (s : State) (a : Act) (t : Task) → IsClaim a → Allows s 0 a → held_by a ≡ t ∷ [] → how (did s 0 a) (job_of_task t) ≡ None
claim_live s (act.Look j at true) t m h e = absurd cc
claim_live s (act.Look j at false) t m h e =
    at_look s j at (how (did s 0 (act.Look j at false)) (job_of_task t) ≡ None) h.0
    (λ job slot there is live o.
    let same : Look j at ≡ t = cc in
    ap (λ (u : Task). how (did s 0 (act.Look j at false)) (job_of_task u)) (sym same)
    ∙ ap (option_and_then (λ (x : Job). x.ended)) (after_one s 0 (act.Look j at false) j job h there)
    ∙ end_one j 0 (act.Look j at false) job ∙ ap (λ (o : Option How). option_or o None) live)
claim_live s (act.Compose j) t m h e =
    at_compose s j (how (did s 0 (act.Compose j)) (job_of_task t) ≡ None) h
    (λ job there live free.
    let same : Compose j ≡ t = cc in
    ap (λ (u : Task). how (did s 0 (act.Compose j)) (job_of_task u)) (sym same)
    ∙ ap (option_and_then (λ (x : Job). x.ended)) (after_one s 0 (act.Compose j) j job h there)
    ∙ end_one j 0 (act.Compose j) job ∙ ap (λ (o : Option How). option_or o None) live)
claim_live s (act.Edit e v) t m h is = absurd m
claim_live s (act.View c view) t m h is = absurd m
claim_live s (act.Start c j) t m h is = absurd m
claim_live s (act.Deliver j at fate) t m h is = absurd m
claim_live s (act.Finish j) t m h is = absurd m
claim_live s (act.Fail j) t m h is = absurd m
claim_live s (act.Cancel j) t m h is = absurd m
claim_live s (act.Preview j ready) t m h is = absurd m
claim_live s (act.Save c j) t m h is = absurd m

-- ---- steps of a wait

-- the cache served a slot
pub once_hit : (old new : Seat) (j : ℕ) → old.held ≡ [] → OfJob (now old) j (λ job. job.ended ≡ None) → Takes old new taken.Hit → WaitsOnce old new j
once_hit old new j none live goes =
    let a = goes.0.0 in
    let more = goes.0.1 in
    let held : new.held ≡ [] = goes.0.2 ∙ none in
    record {
      goes = record {
        moves = λ w cs e. works_claim w cs old new a (ap (map task_of) none) (subst (λ (k : ℕ). OfJob (now old) k (λ job. job.ended ≡ None)) (sym e) live) more.claim more.notes
            (ap (map task_of) held ∙ more.tasks) goes.1;
        jobs = jobs_noted old.history new.history a more.notes;
        none = held;
      };
      fewer = subst (λ (s : State). unclaimed s.jobs < unclaimed (now old).jobs) (sym more.notes.becomes) (claim_fewer (now old) a more.claim more.notes.allowed);
    }

-- the claim's job failed
pub once_failed : (old new : Seat) (j : ℕ) → old.held ≡ [] → OfJob (now old) j (λ job. job.ended ≡ None) → Takes old new taken.Failed → WaitsOnce old new j
once_failed old new j none live goes =
    let k = goes.0.0 in
    let notes = goes.0.1 in
    let due = goes.0.2 in
    let held : new.held ≡ [] = goes.0.3 ∙ none in
    record {
      goes = record {
        moves = λ w cs e. works_claim_failed w cs old new k (ap (map task_of) none) (subst (λ (k : ℕ). OfJob (now old) k (λ job. job.ended ≡ None)) (sym e) live) due notes
            (ap (map task_of) held) goes.1;
        jobs = jobs_noted old.history new.history (act.Fail k) notes;
        none = held;
      };
      fewer = subst (λ (s : State). unclaimed s.jobs < unclaimed (now old).jobs) (sym notes.becomes) (claim_failed_fewer (now old) k due);
    }

-- a task was claimed and is done
pub once_held : (old mid new : Seat) (j : ℕ) → old.held ≡ [] → OfJob (now old) j (λ job. job.ended ≡ None) → Takes old mid taken.Held → ServesFirst mid new
    → WaitsOnce old new j
once_held old mid new j none live goes f =
    let a = goes.0.0 in
    let t = goes.0.1.0 in
    let more = goes.0.1.1.0 in
    let alone : mid.held ≡ t ∷ [] = goes.0.1.1.1 ∙ ap (λ (ts : List HeldTask). ts ++ t ∷ []) none in
    let one : tasks_of mid ≡ task_of t ∷ [] = ap (map task_of) alone in
    let empty : new.held ≡ [] = f.held ∙ ap (drop 1) alone in
    let less = subst (λ (s : State). unclaimed s.jobs < unclaimed (now old).jobs) (sym more.notes.becomes) (claim_fewer (now old) a more.claim more.notes.allowed) in
    let rest = served_no_more mid.history new.history f.first f.served in
    record {
      goes = record {
        moves = λ w cs e.
            go_on (Works w) (Works w) (Works w) cs cs cs old mid new [] []
            (works_claim w cs old mid a (ap (map task_of) none) (subst (λ (k : ℕ). OfJob (now old) k (λ job. job.ended ≡ None)) (sym e) live) more.claim more.notes (one ∙ more.tasks) goes.1)
            (works_first w cs mid new f
            (λ u is. subst (λ (s : State). how s (job_of_task u) ≡ None) (sym more.notes.becomes) (claim_live (now old) a u more.claim more.notes.allowed (sym more.tasks ∙ sym one ∙ is)))
            (ap (map task_of) empty));
        jobs = λ k there. jobs_served mid.history new.history f.first f.served k (jobs_noted old.history mid.history a more.notes k there);
        none = empty;
      };
      fewer = omega (arith, less, rest);
    }

pub once_done : (old new : Seat) (j : ℕ) (end : Taken) → (end ≡ taken.Hit) ⊎ (end ≡ taken.Failed) → old.held ≡ [] → OfJob (now old) j (λ job. job.ended ≡ None)
    → Takes old new end → WaitsOnce old new j
once_done old new j taken.Hit is none live goes = once_hit old new j none live goes
once_done old new j taken.Failed is none live goes = once_failed old new j none live goes
once_done old new j taken.Held is none live goes = absurd (⊎_elim (λ e. clash_hit e) (λ e. clash_failed e) is)
  where
    clash_hit : taken.Held ≡ taken.Hit → ⊥
    clash_hit e = cc

    clash_failed : taken.Held ≡ taken.Failed → ⊥
    clash_failed e = cc
once_done old new j taken.Nothing is none live goes = absurd (⊎_elim (λ e. clash_hit e) (λ e. clash_failed e) is)
  where
    clash_hit : taken.Nothing ≡ taken.Hit → ⊥
    clash_hit e = cc

    clash_failed : taken.Nothing ≡ taken.Failed → ⊥
    clash_failed e = cc

-- while a job without end is waited for and nothing is held, something is due
pub not_nothing : (old new : Seat) (j : ℕ) → IsSeat old → old.held ≡ [] → OfJob (now old) j (λ job. job.ended ≡ None) → Takes old new taken.Nothing → ⊥
not_nothing old new j seat none live goes = clash (task (now old)) due goes.0.2
  where
    by_job : (o : Option Job) → job_in (now old).jobs j ≡ o → IsSomeAnd o (λ job. job.ended ≡ None) → Covers (now old) [] → is_some (task (now old)) ≡ true
    by_job None e h f = absurd h
    by_job (Some job) e h f = task_is_due (now old) ∙ any_in (now old).jobs j job e (has_one job j h (f j job e h))

    due : is_some (task (now old)) ≡ true
    due = by_job (job_in (now old).jobs j) refl live (subst (λ (ts : List HeldTask). Covers (now old) (map task_of ts)) none seat.covers)

    clash : (o : Option Task) → is_some o ≡ true → o ≡ None → ⊥
    clash None h e = false≢true h
    clash (Some t) h e = absurd cc
