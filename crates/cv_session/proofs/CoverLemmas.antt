-- Alone, caller 0 holds all that is owed for jobs without end, and so finds a task while it waits.
use Rattle.std.proofs.Common.{◌≡◌, inl, inr, ⊎_elim, refl, ap, sym, ◌∙◌, subst, ℕ, zero, suc, ◌==◌, Bool, true, false, ◌&&◌, ◌||◌, if◌then◌else◌}
use Rattle.std.proofs.Common.{List, [], ◌∷◌, ◌++◌, map, length, drop, slice_get, Option, Some, None, is_some, is_none, option_map, option_and_then, arith, IsSomeAnd}
use Rattle.std.specs.List.{list_any}
use Rattle.std.specs.Option.{option_or}
use Rattle.std.proofs.lemmas.List.{append-nil}
use Rattle.std.proofs.lemmas.Bool.{false≢true, true≢false, eqb-true}
use Rattle.std.proofs.lemmas.Bool.Decides.{nat_tests}
use Rattle.cv_model.specs.Layers.{Layer, slots}
use Rattle.cv_model.specs.Views.{PixelGrid}
use Rattle.cv_event.specs.declared.entry.Act.{Act}
use Rattle.cv_event.specs.declared.entry.Act.TheVariants as act
use Rattle.cv_event.specs.declared.entry.Entry.{Entry}
use Rattle.cv_event.specs.declared.entry.Fate.{Fate}
use Rattle.cv_event.specs.declared.entry.Fate.TheVariants.{Stored, Kept, Dropped}
use Rattle.cv_event.specs.declared.entry.How.{How}
use Rattle.cv_event.specs.declared.entry.How.TheVariants.{Cancelled, Finished, NoMemory}
use Rattle.cv_event.specs.declared.slot.Slot.{Slot}
use Rattle.cv_event.specs.declared.slot.Standing.{Standing}
use Rattle.cv_event.specs.declared.slot.Standing.TheVariants.{Open, Missed, Ready, Lost}
use Rattle.cv_event.specs.declared.slot.Task.{Task}
use Rattle.cv_event.specs.declared.slot.Task.TheVariants.{Look, Compose}
use Rattle.cv_event.specs.States.{Job, State, job_in, change_job, view_on, new_job, new_slot, started, cancelled_on, job_edited, stands_at, composed_by, with_end, looked, delivered, did}
use Rattle.cv_event.specs.Legality.{how, task, is_open, is_ready, all_ready, on_canvas, is_taken, fate_of, Allows, LegalFrom}
use Rattle.cv_event.specs.JobLaws.{has_task}
use Rattle.cv_event.specs.Histories.{ends}
use Rattle.cv_event.proofs.JobLemmas.{does, after_one, at_map}
use Rattle.cv_event.proofs.EndLemmas.{end_one, stays_where, edited_stays, edit_stays}
use Rattle.cv_event.proofs.SlotLemmas.{changed, on_slot, slot_does, slot_one, edit_part}
use Rattle.cv_event.proofs.DueLemmas.{task_is_due}
use Rattle.cv_script.specs.declared.script.Numbered.{Numbered}
use Rattle.cv_session.specs.Responses.{job_of_task, held_by}
use Rattle.cv_session.specs.Plays.{Awaited, Mode, Opens, Begins, GivesOne, GivesAll, Works, Closes, Play, planned_next, planned_held, planned_work, planned_in}
use Rattle.cv_session.specs.Plays.{claims_next, is_of_held, fails_work, fails_in, entered, through, next_in, next, Plays, stops, quiet, own, failed, other}
use Rattle.cv_session.specs.Entered.{MayDo}
use Rattle.cv_session.specs.HeldLaws.{AloneFindsTasks}
use Rattle.cv_session.specs.Covered.{Has, CoversSlot, CoversComposer, CoversJob, Covers}
use Rattle.cv_session.proofs.EnteredLemmas.{act_may, done_may, work_may}
use Rattle.cv_session.proofs.PlayLemmas.{Silently, turns, refuses, begins, lets, ends as finishes, ends_badly, silently, same_some}
use Rattle.cv_session.proofs.ScriptLemmas.{first_of}
use Rattle.cv_session.proofs.WriteLemmas.{state_silent, state_next}
use Rattle.cv_session.proofs.HeldLemmas.{is_delivery, claim_no_delivery, act_no_delivery}

has_more : (t : Task) (xs ys : List Task) → Has t xs → Has t (xs ++ ys)
has_more t [] ys h = absurd h
has_more t (x ∷ xs) ys h = ⊎_elim (λ e. inl e) (λ r. inr (has_more t xs ys r)) h

has_last : (t u : Task) (xs : List Task) → u ≡ t → Has t (xs ++ u ∷ [])
has_last t u [] e = inl e
has_last t u (x ∷ xs) e = inr (has_last t u xs e)

-- ---- a job behind an act was there, or is new

none_map : (f : Job → Job) (jobs : List Job) (j : ℕ) → job_in jobs j ≡ None → job_in (map f jobs) j ≡ None
none_map f jobs zero h = refl
none_map f jobs (suc m) h = at_map f jobs m ∙ ap (option_map f) h

none_change : (k : ℕ) (f : Job → Job) (jobs : List Job) (j : ℕ) → job_in jobs j ≡ None → job_in (change_job k f jobs) j ≡ None
none_change k f jobs zero h = refl
none_change zero f jobs (suc m) h = h
none_change (suc i) f jobs (suc m) h = changed f jobs i m ∙ ap (option_map (λ x. if i == m then f x else x)) h

last_at : (xs : List Job) (x y : Job) (m : ℕ) → slice_get xs m ≡ None → slice_get (xs ++ x ∷ []) m ≡ Some y → y ≡ x
last_at [] x y zero h g = sym (same_some g)
last_at [] x y (suc m) h g = absurd cc
last_at (z ∷ xs) x y zero h g = absurd cc
last_at (z ∷ xs) x y (suc m) h g = last_at xs x y m h g

last_in : (xs : List Job) (x y : Job) (j : ℕ) → job_in xs j ≡ None → job_in (xs ++ x ∷ []) j ≡ Some y → y ≡ x
last_in xs x y zero h g = absurd cc
last_in xs x y (suc m) h g = last_at xs x y m h g

-- a new job of a state
abbrev IsNew : State → Job → Type 0
IsNew s job = (c : ℕ) × ((view : PixelGrid) × (job ≡ new_job c s.project view))

none_some : (o : Option Job) (x : Job) → o ≡ None → o ≡ Some x → ⊥
none_some o x h g = absurd (clash x (sym h ∙ g))
  where
    clash : (x : Job) → None ≡ Some x → ⊥
    clash x h = absurd cc

new_one : (s : State) (who : ℕ) (a : Act) (j : ℕ) (job : Job) → job_in s.jobs j ≡ None → job_in (did s who a).jobs j ≡ Some job → IsNew s job
new_one s who (act.Edit e None) j job h g = absurd (none_some _ job (none_map (job_edited e) s.jobs j h) g)
new_one s who (act.Edit e (Some error)) j job h g = absurd (none_some _ job h g)
new_one s who (act.View c view) j job h g = absurd (none_some _ job h g)
new_one s who (act.Start c k) j job h g = by_view (view_on s c) g
  where
    by_view : (o : Option PixelGrid) → job_in (started c o s).jobs j ≡ Some job → IsNew s job
    by_view None g = absurd (none_some _ job h g)
    by_view (Some view) g = (c, (view, last_in (map (cancelled_on c) s.jobs) (new_job c s.project view) job j (none_map (cancelled_on c) s.jobs j h) g))
new_one s who (act.Look k i hit) j job h g = absurd (none_some _ job (none_change k (stands_at i (looked who hit)) s.jobs j h) g)
new_one s who (act.Deliver k i fate) j job h g = absurd (none_some _ job (none_change k (stands_at i (delivered fate)) s.jobs j h) g)
new_one s who (act.Compose k) j job h g = absurd (none_some _ job (none_change k (composed_by who) s.jobs j h) g)
new_one s who (act.Finish k) j job h g = absurd (none_some _ job (none_change k (with_end Finished) s.jobs j h) g)
new_one s who (act.Fail k) j job h g = absurd (none_some _ job (none_change k (with_end NoMemory) s.jobs j h) g)
new_one s who (act.Cancel k) j job h g = absurd (none_some _ job (none_change k (with_end Cancelled) s.jobs j h) g)
new_one s who (act.Preview k bits) j job h g = absurd (none_some _ job h g)
new_one s who (act.Save c k) j job h g = absurd (none_some _ job h g)

-- what holds of each job behind an act: of those that were there, and of a new one
each_job : (s : State) (a : Act) (P : ℕ → Job → Type 0) → Allows s 0 a
    → ((j : ℕ) (job : Job) → job_in s.jobs j ≡ Some job → (does j 0 a job).ended ≡ None → P j (does j 0 a job))
    → ((j c : ℕ) (view : PixelGrid) → P j (new_job c s.project view))
    → (j : ℕ) (job : Job) → job_in (did s 0 a).jobs j ≡ Some job → job.ended ≡ None → P j job
each_job s a P allowed old new j job is live = by_job (job_in s.jobs j) refl
  where
    by_job : (o : Option Job) → job_in s.jobs j ≡ o → P j job
    by_job None e =
        let n = new_one s 0 a j job e is in
        subst (P j) (sym n.1.1) (new j n.0 n.1.0)
    by_job (Some before) e =
        let same : does j 0 a before ≡ job = same_some (sym (after_one s 0 a j before allowed e) ∙ is) in
        subst (P j) same (old j before e (ap (λ (job : Job). job.ended) same ∙ live))

-- a new job has nothing to cover
new_open : (layers : List Layer) (at : ℕ) (slot : Slot) → slice_get (map new_slot layers) at ≡ Some slot → slot.standing ≡ Open
new_open [] at slot e = absurd cc
new_open (l ∷ layers) zero slot e = ap (λ (x : Slot). x.standing) (sym (same_some e))
new_open (l ∷ layers) (suc m) slot e = new_open layers m slot e

new_covers : (ts : List Task) (j c : ℕ) (s : State) (view : PixelGrid) → CoversJob ts j (new_job c s.project view)
new_covers ts j c s view = record {
  slots = λ at slot e. subst (CoversSlot ts j at) (sym (new_open (slots s.project view) at slot e)) tt;
  composer = tt;
}

-- ---- what an act leaves covered

or_none_first : (o p : Option How) → option_or o p ≡ None → o ≡ None
or_none_first None p h = refl
or_none_first (Some x) p h = absurd cc

or_none_second : (o p : Option How) → option_or o p ≡ None → p ≡ None
or_none_second None p h = h
or_none_second (Some x) p h = absurd cc

was_live : (j : ℕ) (a : Act) (job : Job) → (does j 0 a job).ended ≡ None → job.ended ≡ None
was_live j a job live = or_none_first job.ended (ends job.canvas j a) (sym (end_one j 0 a job) ∙ live)

-- a slot behind an act was one before it
slot_before : (j at : ℕ) (a : Act) (job : Job) (P : Slot → Type 0)
    → ((slot : Slot) → slice_get job.slots at ≡ Some slot → P (slot_does j at job 0 a slot))
    → (slot : Slot) → slice_get (does j 0 a job).slots at ≡ Some slot → P slot
slot_before j at a job P f slot e = by_slot (slice_get job.slots at) refl (sym (slot_one j 0 a job at) ∙ e)
  where
    by_slot : (o : Option Slot) → slice_get job.slots at ≡ o → option_map (slot_does j at job 0 a) o ≡ Some slot → P slot
    by_slot None g h = absurd cc
    by_slot (Some before) g h = subst P (same_some h) (f before g)

slot_grows : (ts us : List Task) (j at : ℕ) (x : Standing) → CoversSlot ts j at x → CoversSlot (ts ++ us) j at x
slot_grows ts us j at Open h = tt
slot_grows ts us j at (Missed who) h = has_more (Look j at) ts us h
slot_grows ts us j at Ready h = tt
slot_grows ts us j at Lost h = h

composer_grows : (ts us : List Task) (j : ℕ) (o : Option ℕ) → CoversComposer ts j o → CoversComposer (ts ++ us) j o
composer_grows ts us j None h = tt
composer_grows ts us j (Some who) h = has_more (Compose j) ts us h

looked_covers : (a b hit : Bool) (ts : List Task) (j k i at : ℕ) (slot : Slot) → (a ≡ true → k ≡ j) → (b ≡ true → i ≡ at)
    → CoversSlot ts j at slot.standing → CoversSlot (ts ++ held_by (act.Look k i hit)) j at (on_slot a b (looked 0 hit) slot).standing
looked_covers true true true ts j k i at slot e f h = tt
looked_covers true true false ts j k i at slot e f h = has_last (Look j at) (Look k i) ts (λ p. Look (e refl p) (f refl p))
looked_covers true false hit ts j k i at slot e f h = slot_grows ts _ j at slot.standing h
looked_covers false b hit ts j k i at slot e f h = slot_grows ts _ j at slot.standing h

slot_covers : (a : Act) (ts : List Task) (j at : ℕ) (job : Job) (slot : Slot) → is_delivery a ≡ false
    → CoversSlot ts j at slot.standing → CoversSlot (ts ++ held_by a) j at (slot_does j at job 0 a slot).standing
slot_covers (act.Edit e v) ts j at job slot n h =
    subst (CoversSlot (ts ++ []) j at) (sym (edit_part (λ (x : Slot). x.standing) job e v slot refl)) (slot_grows ts [] j at slot.standing h)
slot_covers (act.View c view) ts j at job slot n h = slot_grows ts [] j at slot.standing h
slot_covers (act.Start c k) ts j at job slot n h = slot_grows ts [] j at slot.standing h
slot_covers (act.Look k i hit) ts j at job slot n h =
    looked_covers (k == j) (i == at) hit ts j k i at slot (λ e. eqb-true k j e) (λ e. eqb-true i at e) h
slot_covers (act.Deliver k i fate) ts j at job slot n h = absurd (true≢false n)
slot_covers (act.Compose k) ts j at job slot n h = slot_grows ts (Compose k ∷ []) j at slot.standing h
slot_covers (act.Finish k) ts j at job slot n h = slot_grows ts [] j at slot.standing h
slot_covers (act.Fail k) ts j at job slot n h = slot_grows ts [] j at slot.standing h
slot_covers (act.Cancel k) ts j at job slot n h = slot_grows ts [] j at slot.standing h
slot_covers (act.Preview k bits) ts j at job slot n h = slot_grows ts [] j at slot.standing h
slot_covers (act.Save c k) ts j at job slot n h = slot_grows ts [] j at slot.standing h

composer_same : (ts us : List Task) (j : ℕ) (o p : Option ℕ) → p ≡ o → CoversComposer ts j o → CoversComposer (ts ++ us) j p
composer_same ts us j o p e h = subst (CoversComposer (ts ++ us) j) (sym e) (composer_grows ts us j o h)

compose_covers : (x : Bool) (ts : List Task) (j k : ℕ) (job : Job) → (x ≡ true → k ≡ j) → CoversComposer ts j job.composer
    → CoversComposer (ts ++ Compose k ∷ []) j (if x then composed_by 0 job else job).composer
compose_covers true ts j k job e h = has_last (Compose j) (Compose k) ts (ap Compose (e refl))
compose_covers false ts j k job e h = composer_grows ts (Compose k ∷ []) j job.composer h

composer_covers : (a : Act) (ts : List Task) (j : ℕ) (job : Job) → CoversComposer ts j job.composer
    → CoversComposer (ts ++ held_by a) j (does j 0 a job).composer
composer_covers (act.Edit e v) ts j job h =
    composer_same ts _ j job.composer _ (edit_stays (λ (k : Job). k.composer) e v job (edited_stays (λ (k : Job). k.composer) (is_some job.ended) job _ refl)) h
composer_covers (act.View c view) ts j job h = composer_grows ts _ j job.composer h
composer_covers (act.Start c k) ts j job h = composer_same ts _ j job.composer _ (stays_where (λ (k : Job). k.composer) (job.canvas == c) (with_end Cancelled) job refl) h
composer_covers (act.Look k i hit) ts j job h = composer_same ts _ j job.composer _ (stays_where (λ (k : Job). k.composer) (k == j) (stands_at i (looked 0 hit)) job refl) h
composer_covers (act.Deliver k i fate) ts j job h = composer_same ts _ j job.composer _ (stays_where (λ (k : Job). k.composer) (k == j) (stands_at i (delivered fate)) job refl) h
composer_covers (act.Compose k) ts j job h = compose_covers (k == j) ts j k job (λ e. eqb-true k j e) h
composer_covers (act.Finish k) ts j job h = composer_same ts _ j job.composer _ (stays_where (λ (k : Job). k.composer) (k == j) (with_end Finished) job refl) h
composer_covers (act.Fail k) ts j job h = composer_same ts _ j job.composer _ (stays_where (λ (k : Job). k.composer) (k == j) (with_end NoMemory) job refl) h
composer_covers (act.Cancel k) ts j job h = composer_same ts _ j job.composer _ (stays_where (λ (k : Job). k.composer) (k == j) (with_end Cancelled) job refl) h
composer_covers (act.Preview k bits) ts j job h = composer_grows ts _ j job.composer h
composer_covers (act.Save c k) ts j job h = composer_grows ts _ j job.composer h

pub covers_more : (s : State) (a : Act) (ts : List Task) → Allows s 0 a → is_delivery a ≡ false → Covers s ts → Covers (did s 0 a) (ts ++ held_by a)
covers_more s a ts allowed n f =
    each_job s a (CoversJob (ts ++ held_by a)) allowed
    (λ j job is live.
    let c = f j job is (was_live j a job live) in
    record {
      slots = λ at slot e. slot_before j at a job (λ (x : Slot). CoversSlot (ts ++ held_by a) j at x.standing)
          (λ before g. slot_covers a ts j at job before n (c.slots at before g)) slot e;
      composer = composer_covers a ts j job c.composer;
    })
    (λ j c view. new_covers (ts ++ held_by a) j c s view)

-- ---- tasks of ended jobs needn't be held

abbrev pub IsOver : State → ℕ → Type 0
IsOver s j = (job : Job) → job_in s.jobs j ≡ Some job → job.ended ≡ None → ⊥

drop_slot : (t : Task) (ts : List Task) (j at : ℕ) (x : Standing) → (t ≡ Look j at → ⊥) → CoversSlot (t ∷ ts) j at x → CoversSlot ts j at x
drop_slot t ts j at Open f h = tt
drop_slot t ts j at (Missed who) f h = ⊎_elim (λ e. absurd (f e)) (λ r. r) h
drop_slot t ts j at Ready f h = tt
drop_slot t ts j at Lost f h = h

drop_composer : (t : Task) (ts : List Task) (j : ℕ) (o : Option ℕ) → (t ≡ Compose j → ⊥) → CoversComposer (t ∷ ts) j o → CoversComposer ts j o
drop_composer t ts j None f h = tt
drop_composer t ts j (Some who) f h = ⊎_elim (λ e. absurd (f e)) (λ r. r) h

pub covers_drop : (s : State) (t : Task) (ts : List Task) → IsOver s (job_of_task t) → Covers s (t ∷ ts) → Covers s ts
covers_drop s t ts over f = λ j job is live. record {
  slots = λ at slot e. drop_slot t ts j at slot.standing (λ g. over job (ap (job_in s.jobs) (ap job_of_task g) ∙ is) live) ((f j job is live).slots at slot e);
  composer = drop_composer t ts j job.composer (λ g. over job (ap (job_in s.jobs) (ap job_of_task g) ∙ is) live) (f j job is live).composer;
}

over_act : (s : State) (k : ℕ) (a : Act) (job : Job) → Allows s 0 a → job_in s.jobs k ≡ Some job → is_some (ends job.canvas k a) ≡ true → IsOver (did s 0 a) k
over_act s k a job allowed is h = λ after_it there live.
    let same : does k 0 a job ≡ after_it = same_some (sym (after_one s 0 a k job allowed is) ∙ there) in
    none_is (ends job.canvas k a) (or_none_second job.ended (ends job.canvas k a) (sym (end_one k 0 a job) ∙ ap (λ (job : Job). job.ended) same ∙ live)) h
  where
    none_is : (o : Option How) → o ≡ None → is_some o ≡ true → ⊥
    none_is None e h = false≢true h
    none_is (Some x) e h = absurd cc

pub over_how : (s : State) (j : ℕ) → is_some (how s j) ≡ true → IsOver s j
over_how s j h = λ job is live. false≢true (sym (ap (λ (o : Option Job). is_some (option_and_then (λ (job : Job). job.ended) o)) is ∙ ap is_some live) ∙ h)

same_job : (k : ℕ) (h : How) → is_some (if k == k then Some h else None) ≡ true
same_job k h = by_test (k == k) (itself k)
  where
    itself : (n : ℕ) → (n == n) ≡ true
    itself n = grind (arith, nat_tests)

    by_test : (x : Bool) → x ≡ true → is_some (if x then Some h else None) ≡ true
    by_test true e = refl
    by_test false e = absurd (false≢true e)

pub over_failed : (s : State) (k : ℕ) → Allows s 0 (act.Fail k) → IsOver (did s 0 (act.Fail k)) k
over_failed s k allowed = by_job (job_in s.jobs k) refl allowed
  where
    by_job : (o : Option Job) → job_in s.jobs k ≡ o → IsSomeAnd o (λ job. job.ended ≡ None) → IsOver (did s 0 (act.Fail k)) k
    by_job None e h = absurd h
    by_job (Some job) e h = over_act s k (act.Fail k) job allowed e (same_job k NoMemory)

pub over_finished : (s : State) (k : ℕ) → Allows s 0 (act.Finish k) → IsOver (did s 0 (act.Finish k)) k
over_finished s k allowed = by_job (job_in s.jobs k) refl allowed
  where
    by_job : (o : Option Job) → job_in s.jobs k ≡ o → IsSomeAnd o (λ job. (job.composer ≡ Some 0) × (job.ended ≡ None)) → IsOver (did s 0 (act.Finish k)) k
    by_job None e h = absurd h
    by_job (Some job) e h = over_act s k (act.Finish k) job allowed e (same_job k Finished)

-- ---- a delivery

delivered_covers : (a b : Bool) (fate : Fate) (ts : List Task) (j k i at : ℕ) (slot : Slot) → (fate ≡ Dropped → a ≡ true → b ≡ true → ⊥)
    → (Look k i ≡ Look j at → (a ≡ true) × (b ≡ true))
    → CoversSlot (Look k i ∷ ts) j at slot.standing → CoversSlot ts j at (on_slot a b (delivered fate) slot).standing
delivered_covers true true Stored ts j k i at slot n e h = tt
delivered_covers true true Kept ts j k i at slot n e h = tt
delivered_covers true true Dropped ts j k i at slot n e h = absurd (n refl refl refl)
delivered_covers true false fate ts j k i at slot n e h = drop_slot (Look k i) ts j at slot.standing (λ g. false≢true (e g).1) h
delivered_covers false b fate ts j k i at slot n e h = drop_slot (Look k i) ts j at slot.standing (λ g. false≢true (e g).0) h

look_parts : (k i j at : ℕ) → Look k i ≡ Look j at → ((k == j) ≡ true) × ((i == at) ≡ true)
look_parts k i j at h =
    let a : k ≡ j = cc in
    let b : i ≡ at = cc in
    (same k j a, same i at b)
  where
    same : (m n : ℕ) → m ≡ n → (m == n) ≡ true
    same m n e = grind (arith, nat_tests)

-- of a job without end nothing is dropped
not_dropped : (s : State) (job : Job) (slot : Slot) → job.ended ≡ None → fate_of s job slot ≡ Dropped → ⊥
not_dropped s job slot live h = by_canvas (on_canvas is_taken s job slot) (sym (ap (λ (o : Option How). if is_some o then Dropped else if on_canvas is_taken s job slot then Stored else Kept) live) ∙ h)
  where
    by_canvas : (x : Bool) → (if x then Stored else Kept) ≡ Dropped → ⊥
    by_canvas true h = absurd cc
    by_canvas false h = absurd cc

pub covers_delivered : (s : State) (k i : ℕ) (fate : Fate) (ts : List Task) → Allows s 0 (act.Deliver k i fate) → Covers s (Look k i ∷ ts)
    → Covers (did s 0 (act.Deliver k i fate)) ts
covers_delivered s k i fate ts allowed f =
    each_job s (act.Deliver k i fate) (CoversJob ts) allowed
    (λ j job is live.
    let now = was_live j (act.Deliver k i fate) job live in
    let c = f j job is now in
    record {
      slots = λ at slot e. slot_before j at (act.Deliver k i fate) job (λ (x : Slot). CoversSlot ts j at x.standing)
          (λ before g. delivered_covers (k == j) (i == at) fate ts j k i at before
          (λ d a b. lost j at job before is now g d (eqb-true k j a) (eqb-true i at b)) (look_parts k i j at) (c.slots at before g)) slot e;
      composer = subst (CoversComposer ts j) (sym (stays_where (λ (k : Job). k.composer) (k == j) (stands_at i (delivered fate)) job refl))
          (drop_composer (Look k i) ts j job.composer (λ e. absurd cc) c.composer);
    })
    (λ j c view. new_covers ts j c s view)
  where
    lost : (j at : ℕ) (job : Job) (slot : Slot) → job_in s.jobs j ≡ Some job → job.ended ≡ None → slice_get job.slots at ≡ Some slot → fate ≡ Dropped
        → k ≡ j → i ≡ at → ⊥
    lost j at job slot is live g d e h =
        let of_job = subst (λ o. IsSomeAnd o (λ (job : Job). IsSomeAnd (slice_get job.slots i) (λ slot. (slot.standing ≡ Missed 0) × (fate ≡ fate_of s job slot)))) (ap (job_in s.jobs) e ∙ is) allowed in
        let of_slot = subst (λ o. IsSomeAnd o (λ (slot : Slot). (slot.standing ≡ Missed 0) × (fate ≡ fate_of s job slot))) (ap (slice_get job.slots) h ∙ g) of_job in
        not_dropped s job slot live (sym of_slot.1 ∙ d)

-- ---- plays

pub covers_done : (s : State) (t : Task) (ts : List Task) (d : Act) → Allows s 0 d → MayDo t d → Covers s (t ∷ ts) → Covers (did s 0 d) (ts ++ held_by d)
covers_done s (Look j at) ts d allowed m f =
    subst (λ (d : Act). Covers (did s 0 d) (ts ++ held_by d)) (sym m.1)
    (subst (Covers (did s 0 (act.Deliver j at m.0))) (sym (append-nil ts)) (covers_delivered s j at m.0 ts (subst (Allows s 0) m.1 allowed) f))
covers_done s (Compose j) ts d allowed m f =
    let now = subst (Allows s 0) m allowed in
    subst (λ (d : Act). Covers (did s 0 d) (ts ++ held_by d)) (sym m)
    (covers_drop (did s 0 (act.Finish j)) (Compose j) (ts ++ []) (over_finished s j now) (covers_more s (act.Finish j) (Compose j ∷ ts) now refl f))

covers_open : (c : ℕ) (views : List (Option PixelGrid)) (a : Play) (d : Act) → planned_in (Opens c views) a ≡ Some d → Allows a.state 0 d
    → Covers a.state a.held → Covers (did a.state 0 d) a.held
covers_open c [] a d e allowed f = absurd cc
covers_open c (None ∷ views) a d e allowed f = absurd cc
covers_open c (Some view ∷ views) a d e allowed f =
    subst (λ (d : Act). Covers (did a.state 0 d) a.held) (same_some e)
    (subst (Covers (did a.state 0 (act.View c view))) (append-nil a.held) (covers_more a.state (act.View c view) a.held (subst (Allows a.state 0) (sym (same_some e)) allowed) refl f))

covers_begin : (cs : List Numbered) (a : Play) (d : Act) → planned_next cs a ≡ Some d → Allows a.state 0 d → Covers a.state a.held
    → Covers (did a.state 0 d) (through cs d (entered d a)).held
covers_begin [] a d e allowed f = absurd cc
covers_begin (n ∷ rest) a d e allowed f =
    covers_more a.state d a.held allowed (act_no_delivery a.state (length a.held) n.command d (act_may a.state (length a.held) n.command d e)) f

covers_give : (ts : List Task) (a : Play) (d : Act) → planned_held ts a ≡ Some d → Allows a.state 0 d → Covers a.state ts
    → Covers (did a.state 0 d) (drop 1 ts ++ held_by d)
covers_give [] a d e allowed f = absurd cc
covers_give (t ∷ ts) a d e allowed f = covers_done a.state t ts d allowed (done_may a.state t d e) f

covers_work : (w : Awaited) (ts : List Task) (a : Play) (d : Act) → planned_work w ts a ≡ Some d → Allows a.state 0 d → Covers a.state ts
    → Covers (did a.state 0 d) (drop 1 ts ++ held_by d)
covers_work w [] a d e allowed f = covers_more a.state d [] allowed (claim_no_delivery d (work_may w [] a d e).1) f
covers_work w (t ∷ ts) a d e allowed f = covers_done a.state t ts d allowed (done_may a.state t d e) f

covers_next : (m : Mode) (a : Play) (d : Act) → planned_in m a ≡ Some d → Allows a.state 0 d → Covers a.state a.held
    → Covers (did a.state 0 d) (next_in m d (entered d a)).held
covers_next (Opens c views) a d e allowed f = covers_open c views a d e allowed f
covers_next Begins a d e allowed f = covers_begin a.commands a d e allowed f
covers_next GivesOne a d e allowed f = covers_give a.held a d e allowed f
covers_next (GivesAll w) a d e allowed f = covers_give a.held a d e allowed f
covers_next (Works w) a d e allowed f = covers_work w a.held a d e allowed f
covers_next Closes a d e allowed f = covers_give a.held a d e allowed f

covers_claim_failed : (cs : List Numbered) (a : Play) (j : ℕ) → claims_next (length a.held) cs ≡ true → Allows a.state 0 (act.Fail j) → Covers a.state a.held
    → Covers (did a.state 0 (act.Fail j)) (through cs (act.Fail j) (entered (act.Fail j) a)).held
covers_claim_failed [] a j e allowed f = absurd (false≢true e)
covers_claim_failed (n ∷ rest) a j e allowed f = covers_more a.state (act.Fail j) a.held allowed refl f

pub covers_task_failed : (ts : List Task) (s : State) (j : ℕ) → is_of_held ts j ≡ true → Allows s 0 (act.Fail j) → Covers s ts
    → Covers (did s 0 (act.Fail j)) (drop 1 ts ++ [])
covers_task_failed [] s j e allowed f = absurd (false≢true e)
covers_task_failed (t ∷ ts) s j e allowed f =
    covers_drop (did s 0 (act.Fail j)) t (ts ++ []) (subst (IsOver (did s 0 (act.Fail j))) (sym (eqb-true (job_of_task t) j e)) (over_failed s j allowed))
    (covers_more s (act.Fail j) (t ∷ ts) allowed refl f)

covers_work_failed : (w : Awaited) (ts : List Task) (a : Play) (j : ℕ) → fails_work w ts a j ≡ true → Allows a.state 0 (act.Fail j) → Covers a.state ts
    → Covers (did a.state 0 (act.Fail j)) (drop 1 ts ++ [])
covers_work_failed w [] a j e allowed f = covers_more a.state (act.Fail j) [] allowed refl f
covers_work_failed w (t ∷ ts) a j e allowed f = covers_task_failed (t ∷ ts) a.state j e allowed f

covers_failed : (m : Mode) (a : Play) (j : ℕ) → fails_in m a j ≡ true → Allows a.state 0 (act.Fail j) → Covers a.state a.held
    → Covers (did a.state 0 (act.Fail j)) (next_in m (act.Fail j) (entered (act.Fail j) a)).held
covers_failed (Opens c views) a j e allowed f = absurd (false≢true e)
covers_failed Begins a j e allowed f = covers_claim_failed a.commands a j (first_of _ _ e) allowed f
covers_failed GivesOne a j e allowed f = covers_task_failed a.held a.state j e allowed f
covers_failed (GivesAll w) a j e allowed f = covers_task_failed a.held a.state j e allowed f
covers_failed (Works w) a j e allowed f = covers_work_failed w a.held a j e allowed f
covers_failed Closes a j e allowed f = covers_task_failed a.held a.state j e allowed f

covers_tail : (s : State) (us ts : List Task) (t : Task) → us ≡ t ∷ ts → is_some (how s (job_of_task t)) ≡ true → Covers s us → Covers s ts
covers_tail s us ts t e h f = covers_drop s t ts (over_how s (job_of_task t) h) (subst (Covers s) e f)

covers_silent : {a b : Play} → Silently a b → Covers a.state a.held → Covers b.state b.held
covers_silent (turns m x) f = f
covers_silent (refuses n rest why c e) f = f
covers_silent (begins n rest m c e g x) f = f
covers_silent {a} (lets m t ts e x g) f = covers_tail a.state a.held ts t e g f
covers_silent (finishes w m e g) f = f
covers_silent (ends_badly w m e g) f = f

covers_played : {a c : Play} {es : List Entry} → Plays 0 a es c → LegalFrom a.state es → Covers a.state a.held → Covers c.state c.held
covers_played (stops a) legal f = f
covers_played (quiet a b c es e rest) legal f =
    let kind = silently a b e in
    covers_played rest (subst (λ (s : State). LegalFrom s es) (sym (state_silent kind)) legal) (covers_silent kind f)
covers_played (own a c d es e rest) legal f =
    let same : (next d a).state ≡ did a.state 0 d = state_next a.mode d (entered d a) in
    covers_played rest (subst (λ (s : State). LegalFrom s es) (sym same) legal.1)
    (subst (λ (s : State). Covers s (next d a).held) (sym same) (covers_next a.mode a d e legal.0 f))
covers_played (failed a c j es e rest) legal f =
    let same : (next (act.Fail j) a).state ≡ did a.state 0 (act.Fail j) = state_next a.mode (act.Fail j) (entered (act.Fail j) a) in
    covers_played rest (subst (λ (s : State). LegalFrom s es) (sym same) legal.1)
    (subst (λ (s : State). Covers s (next (act.Fail j) a).held) (sym same) (covers_failed a.mode a j e legal.0 f))
covers_played (other a c e es low high is rest) legal f = absurd (omega (arith, low, high))

-- ---- a job without end has a task

-- a slot isn't waited for
abbrev Settled : Standing → Type 0
Settled Open = Unit {0}
Settled (Missed who) = ⊥
Settled Ready = Unit {0}
Settled Lost = ⊥

settled_slot : (j at : ℕ) (x : Standing) → CoversSlot [] j at x → Settled x
settled_slot j at Open h = tt
settled_slot j at (Missed who) h = h
settled_slot j at Ready h = tt
settled_slot j at Lost h = h

open_or_ready : (x : Standing) → Settled x → is_open x ≡ false → is_ready x ≡ true
open_or_ready Open h e = absurd (true≢false e)
open_or_ready (Missed who) h e = absurd h
open_or_ready Ready h e = refl
open_or_ready Lost h e = absurd h

either_false : (a b : Bool) → (a || b) ≡ false → (a ≡ false) × (b ≡ false)
either_false true b h = absurd (true≢false h)
either_false false b h = (refl, h)

both : (a b : Bool) → a ≡ true → b ≡ true → (a && b) ≡ true
both true b e f = f
both false b e f = absurd (false≢true e)

slots_ready : (xs : List Slot) → ((at : ℕ) (slot : Slot) → slice_get xs at ≡ Some slot → Settled slot.standing)
    → list_any (λ (slot : Slot). is_open slot.standing) xs ≡ false → all_ready xs ≡ true
slots_ready [] f h = refl
slots_ready (x ∷ xs) f h =
    let parts = either_false (is_open x.standing) (list_any (λ (slot : Slot). is_open slot.standing) xs) h in
    both (is_ready x.standing) (all_ready xs) (open_or_ready x.standing (f 0 x refl) parts.0) (slots_ready xs (λ at slot e. f (suc at) slot e) parts.1)

free : (j : ℕ) (o : Option ℕ) → CoversComposer [] j o → is_none o ≡ true
free j None h = refl
free j (Some who) h = absurd h

pub has_one : (job : Job) (j : ℕ) → job.ended ≡ None → CoversJob [] j job → has_task job ≡ true
has_one job j live c =
    both (is_none job.ended) _ (ap is_none live) (by_open (list_any (λ (slot : Slot). is_open slot.standing) job.slots) refl)
  where
    by_open : (x : Bool) → list_any (λ (slot : Slot). is_open slot.standing) job.slots ≡ x
        → (list_any (λ (slot : Slot). is_open slot.standing) job.slots || (all_ready job.slots && is_none job.composer)) ≡ true
    by_open true e = ap (λ (x : Bool). x || (all_ready job.slots && is_none job.composer)) e
    by_open false e =
        ap (λ (x : Bool). x || (all_ready job.slots && is_none job.composer)) e
        ∙ both (all_ready job.slots) (is_none job.composer)
        (slots_ready job.slots (λ at slot g. settled_slot j at slot.standing (c.slots at slot g)) e) (free j job.composer c.composer)

any_at : (jobs : List Job) (m : ℕ) (job : Job) → slice_get jobs m ≡ Some job → has_task job ≡ true → list_any has_task jobs ≡ true
any_at [] m job e h = absurd cc
any_at (x ∷ xs) zero job e h = ap (λ (b : Bool). b || list_any has_task xs) (ap has_task (same_some e) ∙ h)
any_at (x ∷ xs) (suc m) job e h = ap (λ (b : Bool). has_task x || b) (any_at xs m job e h) ∙ or_true (has_task x)
  where
    or_true : (b : Bool) → (b || true) ≡ true
    or_true true = refl
    or_true false = refl

pub any_in : (jobs : List Job) (j : ℕ) (job : Job) → job_in jobs j ≡ Some job → has_task job ≡ true → list_any has_task jobs ≡ true
any_in jobs zero job e h = absurd cc
any_in jobs (suc m) job e h = any_at jobs m job e h

pub alone_finds_tasks : AloneFindsTasks
alone_finds_tasks o views script journal last w legal p works held live =
    let f = covers_played p legal (λ j job e l. absurd (nothing j job e)) in
    by_job (job_in last.state.jobs w.job) refl live (subst (Covers last.state) held f)
  where
    nothing : (j : ℕ) (job : Job) → job_in [] j ≡ Some job → ⊥
    nothing zero job e = absurd cc
    nothing (suc m) job e = absurd cc

    by_job : (o : Option Job) → job_in last.state.jobs w.job ≡ o → IsSomeAnd o (λ job. job.ended ≡ None) → Covers last.state [] → is_some (task last.state) ≡ true
    by_job None e h f = absurd h
    by_job (Some job) e h f = task_is_due last.state ∙ any_in last.state.jobs w.job job e (has_one job w.job h (f w.job job e h))
