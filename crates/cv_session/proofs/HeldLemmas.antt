-- What caller 0 holds is owed by it, and each task once.
use Rattle.std.proofs.Common.{◌≡◌, refl, ap, sym, ◌∙◌, subst, ◌≤◌, ℕ, ◌==◌, Bool, true, false, if◌then◌else◌}
use Rattle.std.proofs.Common.{List, [], ◌∷◌, ◌++◌, length, drop, slice_get, Option, Some, None, is_some, option_map, arith, IsSomeAnd, Result, Ok, Err}
use Rattle.std.specs.List.{AllByRecursion}
use Rattle.std.proofs.lemmas.List.{append-nil}
use Rattle.std.proofs.lemmas.Bool.{false≢true, true≢false, eqb-true}
use Rattle.std.proofs.lemmas.Bool.Decides.{nat_tests}
use Rattle.cv_model.specs.Views.{PixelGrid}
use Rattle.cv_geom.specs.declared.views.ViewError.{ViewError}
use Rattle.cv_geom.specs.Views.{view_of, pan, zoom}
use Rattle.cv_event.specs.declared.entry.Act.{Act}
use Rattle.cv_event.specs.declared.entry.Act.TheVariants as act
use Rattle.cv_event.specs.declared.entry.Entry.{Entry}
use Rattle.cv_event.specs.declared.slot.Slot.{Slot}
use Rattle.cv_event.specs.declared.slot.Standing.{Standing}
use Rattle.cv_event.specs.declared.slot.Standing.TheVariants.{Missed}
use Rattle.cv_event.specs.declared.slot.Task.{Task}
use Rattle.cv_event.specs.declared.slot.Task.TheVariants.{Look, Compose}
use Rattle.cv_event.specs.States.{Job, Canvas, State, job_in, view_on, looked, delivered, stands_at, composed_by, with_end, did}
use Rattle.cv_event.specs.declared.entry.How.TheVariants.{Cancelled, Finished, NoMemory}
use Rattle.cv_event.specs.Legality.{OfJob, OfSlot, task, is_open, all_ready, Allows, LegalFrom}
use Rattle.cv_event.proofs.JobLemmas.{does, after_one}
use Rattle.cv_event.proofs.EndLemmas.{stays_where, edited_stays, edit_stays}
use Rattle.cv_event.proofs.SlotLemmas.{on_slot, slot_does, slot_one, edit_part, look_open, delivery_missed}
use Rattle.cv_event.proofs.DueLemmas.{looks_are_of_live_jobs, composes_are_of_live_jobs}
use Rattle.cv_script.specs.declared.script.Command.{Command}
use Rattle.cv_script.specs.declared.script.Command.TheVariants as command
use Rattle.cv_script.specs.declared.script.Numbered.{Numbered}
use Rattle.cv_session.specs.Responses.{last_job, held_by}
use Rattle.cv_session.specs.Plays.{Awaited, Mode, Opens, Begins, GivesOne, GivesAll, Works, Closes, Play, planned_next, planned_held, planned_work, planned_in}
use Rattle.cv_session.specs.Plays.{claims_next, fails_in, entered, through, next_in, next, Plays, stops, quiet, own, failed, other}
use Rattle.cv_session.specs.Entered.{IsClaim, IsViewed, MayDo, MayAct}
use Rattle.cv_session.specs.HeldLaws.{Owes, AreApart, HoldsTasks, HeldTasksAreOwed}
use Rattle.cv_session.proofs.EnteredLemmas.{act_may, done_may, work_may}
use Rattle.cv_session.proofs.WriteLemmas.{state_silent, state_next}
use Rattle.cv_session.proofs.PlayLemmas.{Silently, turns, refuses, begins, lets, ends, ends_badly, silently, same_some}
use Rattle.cv_session.proofs.ScriptLemmas.{from_some, first_of}

-- ---- what is owed stays so, but for its own delivery

-- an act of a caller isn't caller 0's delivery of a task
abbrev pub Undone : ℕ → Act → Task → Type 0
Undone who (act.Deliver k i fate) (Look j at) = who ≡ 0 → k ≡ j → i ≡ at → ⊥
Undone who a t = Unit {0}

missed_not_open : (x : Standing) → x ≡ Missed 0 → is_open x ≡ true → ⊥
missed_not_open x e h = false≢true (sym (ap is_open e) ∙ h)

missed_is : (v w : ℕ) → Missed v ≡ Missed w → v ≡ w
missed_is v w h = ap number h
  where
    number : Standing → ℕ
    number (Missed who) = who
    number _ = 0

-- a slot that is missed stays so where an act doesn't speak of it
unless_both : (a b : Bool) (standing : Standing) (slot : Slot) → slot.standing ≡ Missed 0 → (a ≡ true → b ≡ true → ⊥)
    → (on_slot a b standing slot).standing ≡ Missed 0
unless_both true true standing slot h no_one = absurd (no_one refl refl)
unless_both true false standing slot h no_one = h
unless_both false b standing slot h no_one = h

slot_still : (s : State) (who j at : ℕ) (a : Act) (job : Job) (slot : Slot) → Allows s who a → job_in s.jobs j ≡ Some job
    → slice_get job.slots at ≡ Some slot → Undone who a (Look j at) → slot.standing ≡ Missed 0
    → (slot_does j at job who a slot).standing ≡ Missed 0
slot_still s who j at (act.Edit e v) job slot allowed there is undone h = edit_part (λ (x : Slot). x.standing) job e v slot refl ∙ h
slot_still s who j at (act.View c view) job slot allowed there is undone h = h
slot_still s who j at (act.Start c k) job slot allowed there is undone h = h
slot_still s who j at (act.Look k i hit) job slot allowed there is undone h =
    unless_both (k == j) (i == at) (looked who hit) slot h
    (λ a b. missed_not_open slot.standing h (look_open s j k i at job slot allowed.0 there is a b))
slot_still s who j at (act.Deliver k i fate) job slot allowed there is undone h =
    unless_both (k == j) (i == at) (delivered fate) slot h
    (λ a b. undone (sym (missed_is 0 who (sym h ∙ delivery_missed s who j k i at job slot fate allowed there is a b))) (eqb-true k j a) (eqb-true i at b))
slot_still s who j at (act.Compose k) job slot allowed there is undone h = h
slot_still s who j at (act.Finish k) job slot allowed there is undone h = h
slot_still s who j at (act.Fail k) job slot allowed there is undone h = h
slot_still s who j at (act.Cancel k) job slot allowed there is undone h = h
slot_still s who j at (act.Preview k bits) job slot allowed there is undone h = h
slot_still s who j at (act.Save c k) job slot allowed there is undone h = h

-- a job that is composed next has no composer
free_composer : (s : State) (k : ℕ) (job : Job) → task s ≡ Some (Compose k) → job_in s.jobs k ≡ Some job → job.composer ≡ None
free_composer s k job due there =
    (subst (λ o. IsSomeAnd o (λ (job : Job). (job.ended ≡ None) × (all_ready job.slots ≡ true) × (job.composer ≡ None))) there (composes_are_of_live_jobs s k due)).2

-- a job's composer stays
composed_once : (s : State) (j k who : ℕ) (job : Job) → task s ≡ Some (Compose k) → job_in s.jobs j ≡ Some job
    → job.composer ≡ Some 0 → (x : Bool) → (k == j) ≡ x → (if x then composed_by who job else job).composer ≡ Some 0
composed_once s j k who job due there h true e = absurd (none_some (sym (free_composer s k job due (ap (job_in s.jobs) (eqb-true k j e) ∙ there)) ∙ h))
  where
    none_some : ◌≡◌ {A = Option ℕ} None (Some 0) → ⊥
    none_some h = absurd cc
composed_once s j k who job due there h false e = h

composer_still : (s : State) (who j : ℕ) (a : Act) (job : Job) → Allows s who a → job_in s.jobs j ≡ Some job
    → job.composer ≡ Some 0 → (does j who a job).composer ≡ Some 0
composer_still s who j (act.Edit e v) job allowed there h =
    edit_stays (λ (k : Job). k.composer) e v job (edited_stays (λ (k : Job). k.composer) (is_some job.ended) job _ refl) ∙ h
composer_still s who j (act.View c view) job allowed there h = h
composer_still s who j (act.Start c k) job allowed there h = stays_where (λ (k : Job). k.composer) (job.canvas == c) (with_end Cancelled) job refl ∙ h
composer_still s who j (act.Look k i hit) job allowed there h = stays_where (λ (k : Job). k.composer) (k == j) (stands_at i (looked who hit)) job refl ∙ h
composer_still s who j (act.Deliver k i fate) job allowed there h = stays_where (λ (k : Job). k.composer) (k == j) (stands_at i (delivered fate)) job refl ∙ h
composer_still s who j (act.Compose k) job allowed there h = composed_once s j k who job allowed there h (k == j) refl
composer_still s who j (act.Finish k) job allowed there h = stays_where (λ (k : Job). k.composer) (k == j) (with_end Finished) job refl ∙ h
composer_still s who j (act.Fail k) job allowed there h = stays_where (λ (k : Job). k.composer) (k == j) (with_end NoMemory) job refl ∙ h
composer_still s who j (act.Cancel k) job allowed there h = stays_where (λ (k : Job). k.composer) (k == j) (with_end Cancelled) job refl ∙ h
composer_still s who j (act.Preview k bits) job allowed there h = h
composer_still s who j (act.Save c k) job allowed there h = h

-- a fact of a job that is there
at_job_there : (s : State) (j : ℕ) (P : Job → Type 0) (job : Job) → job_in s.jobs j ≡ Some job → P job → OfJob s j P
at_job_there s j P job there h = subst (λ o. IsSomeAnd o P) (sym there) h

still_owed : (s : State) (who : ℕ) (a : Act) (t : Task) → Allows s who a → Undone who a t → Owes s 0 t → Owes (did s who a) 0 t
still_owed s who a (Compose j) allowed undone h = by_job (job_in s.jobs j) refl h
  where
    by_job : (o : Option Job) → job_in s.jobs j ≡ o → IsSomeAnd o (λ job. job.composer ≡ Some 0) → OfJob (did s who a) j (λ job. job.composer ≡ Some 0)
    by_job None e h = absurd h
    by_job (Some job) e h =
        at_job_there (did s who a) j (λ job. job.composer ≡ Some 0) (does j who a job) (after_one s who a j job allowed e) (composer_still s who j a job allowed e h)
still_owed s who a (Look j at) allowed undone h = by_job (job_in s.jobs j) refl h
  where
    by_slot : (job : Job) (o : Option Slot) → job_in s.jobs j ≡ Some job → slice_get job.slots at ≡ o → IsSomeAnd o (λ slot. slot.standing ≡ Missed 0)
        → OfSlot (did s who a) j at (λ job slot. slot.standing ≡ Missed 0)
    by_slot job None e is h = absurd h
    by_slot job (Some slot) e is h =
        at_job_there (did s who a) j (λ job. IsSomeAnd (slice_get job.slots at) (λ slot. slot.standing ≡ Missed 0)) (does j who a job) (after_one s who a j job allowed e)
        (subst (λ o. IsSomeAnd o (λ (slot : Slot). slot.standing ≡ Missed 0)) (sym (slot_one j who a job at ∙ ap (option_map (slot_does j at job who a)) is))
        (slot_still s who j at a job slot allowed e is undone h))

    by_job : (o : Option Job) → job_in s.jobs j ≡ o → IsSomeAnd o (λ job. IsSomeAnd (slice_get job.slots at) (λ slot. slot.standing ≡ Missed 0))
        → OfSlot (did s who a) j at (λ job slot. slot.standing ≡ Missed 0)
    by_job None e h = absurd h
    by_job (Some job) e h = by_slot job (slice_get job.slots at) e refl h

-- ---- lists of tasks

all_still : (s : State) (who : ℕ) (a : Act) (ts : List Task) → Allows s who a → AllByRecursion (Undone who a) ts → AllByRecursion (Owes s 0) ts
    → AllByRecursion (Owes (did s who a) 0) ts
all_still s who a [] allowed f g = tt
all_still s who a (t ∷ ts) allowed f g = (still_owed s who a t allowed f.0 g.0, all_still s who a ts allowed f.1 g.1)

-- an act that is no delivery by caller 0 does no task
abbrev pub is_delivery : Act → Bool
is_delivery (act.Deliver j at fate) = true
is_delivery _ = false

undone_by : (who : ℕ) (a : Act) (t : Task) → is_delivery a ≡ false → Undone who a t
undone_by who (act.Deliver k i fate) t h = absurd (true≢false h)
undone_by who (act.Edit e v) t h = tt
undone_by who (act.View c view) t h = tt
undone_by who (act.Start c k) t h = tt
undone_by who (act.Look k i hit) t h = tt
undone_by who (act.Compose k) t h = tt
undone_by who (act.Finish k) t h = tt
undone_by who (act.Fail k) t h = tt
undone_by who (act.Cancel k) t h = tt
undone_by who (act.Preview k bits) t h = tt
undone_by who (act.Save c k) t h = tt

undone_by_other : (who : ℕ) (a : Act) (t : Task) → 1 ≤ who → Undone who a t
undone_by_other who (act.Deliver k i fate) (Look j at) low = λ e f g. absurd (omega (arith, low, e))
undone_by_other who (act.Deliver k i fate) (Compose j) low = tt
undone_by_other who (act.Edit e v) t low = tt
undone_by_other who (act.View c view) t low = tt
undone_by_other who (act.Start c k) t low = tt
undone_by_other who (act.Look k i hit) t low = tt
undone_by_other who (act.Compose k) t low = tt
undone_by_other who (act.Finish k) t low = tt
undone_by_other who (act.Fail k) t low = tt
undone_by_other who (act.Cancel k) t low = tt
undone_by_other who (act.Preview k bits) t low = tt
undone_by_other who (act.Save c k) t low = tt

all_tasks : (P : Task → Type 0) (ts : List Task) → ((t : Task) → P t) → AllByRecursion P ts
all_tasks P [] f = tt
all_tasks P (t ∷ ts) f = (f t, all_tasks P ts f)

all_from : (P Q : Task → Type 0) (ts : List Task) → ((t : Task) → P t → Q t) → AllByRecursion P ts → AllByRecursion Q ts
all_from P Q [] f g = tt
all_from P Q (t ∷ ts) f g = (f t g.0, all_from P Q ts f g.1)

all_behind : (P : Task → Type 0) (xs ys : List Task) → AllByRecursion P xs → AllByRecursion P ys → AllByRecursion P (xs ++ ys)
all_behind P [] ys f g = g
all_behind P (x ∷ xs) ys f g = (f.0, all_behind P xs ys f.1 g)

-- a task more that differs from the others
apart_more : (ts : List Task) (u : Task) → AreApart ts → AllByRecursion (λ t. t ≡ u → ⊥) ts → AreApart (ts ++ u ∷ [])
apart_more [] u f g = (tt, tt)
apart_more (t ∷ ts) u f g = (all_behind (λ u. u ≡ t → ⊥) ts (u ∷ []) f.0 (λ e. g.0 (sym e), tt), apart_more ts u f.1 g.1)

-- ---- what a claim makes caller 0 hold

new_slot_owed : (s : State) (j at : ℕ) → Allows s 0 (act.Look j at false) → Owes (did s 0 (act.Look j at false)) 0 (Look j at)
new_slot_owed s j at allowed = by_job (job_in s.jobs j) refl (looks_are_of_live_jobs s j at allowed.0)
  where
    itself : (n : ℕ) → (n == n) ≡ true
    itself n = grind (arith, nat_tests)

    both : (a b : Bool) (slot : Slot) → a ≡ true → b ≡ true → (on_slot a b (Missed 0) slot).standing ≡ Missed 0
    both true true slot e f = refl
    both true false slot e f = absurd (false≢true f)
    both false b slot e f = absurd (false≢true e)

    by_slot : (job : Job) (o : Option Slot) → job_in s.jobs j ≡ Some job → slice_get job.slots at ≡ o → IsSomeAnd o (λ slot. (job.ended ≡ None) × (is_open slot.standing ≡ true))
        → Owes (did s 0 (act.Look j at false)) 0 (Look j at)
    by_slot job None e is h = absurd h
    by_slot job (Some slot) e is h =
        at_job_there (did s 0 (act.Look j at false)) j (λ job. IsSomeAnd (slice_get job.slots at) (λ slot. slot.standing ≡ Missed 0)) (does j 0 (act.Look j at false) job)
        (after_one s 0 (act.Look j at false) j job allowed e)
        (subst (λ o. IsSomeAnd o (λ (slot : Slot). slot.standing ≡ Missed 0)) (sym (slot_one j 0 (act.Look j at false) job at ∙ ap (option_map (slot_does j at job 0 (act.Look j at false))) is))
        (both (j == j) (at == at) slot (itself j) (itself at)))

    by_job : (o : Option Job) → job_in s.jobs j ≡ o → IsSomeAnd o (λ job. IsSomeAnd (slice_get job.slots at) (λ slot. (job.ended ≡ None) × (is_open slot.standing ≡ true)))
        → Owes (did s 0 (act.Look j at false)) 0 (Look j at)
    by_job None e h = absurd h
    by_job (Some job) e h = by_slot job (slice_get job.slots at) e refl h

new_compose_owed : (s : State) (j : ℕ) → Allows s 0 (act.Compose j) → Owes (did s 0 (act.Compose j)) 0 (Compose j)
new_compose_owed s j allowed = by_job (job_in s.jobs j) refl (composes_are_of_live_jobs s j allowed)
  where
    same : (n : ℕ) → (n == n) ≡ true
    same n = grind (arith, nat_tests)

    composed : (x : Bool) (job : Job) → x ≡ true → (if x then composed_by 0 job else job).composer ≡ Some 0
    composed true job e = refl
    composed false job e = absurd (false≢true e)

    by_job : (o : Option Job) → job_in s.jobs j ≡ o → IsSomeAnd o (λ job. (job.ended ≡ None) × (all_ready job.slots ≡ true) × (job.composer ≡ None))
        → Owes (did s 0 (act.Compose j)) 0 (Compose j)
    by_job None e h = absurd h
    by_job (Some job) e h =
        at_job_there (did s 0 (act.Compose j)) j (λ job. job.composer ≡ Some 0) (does j 0 (act.Compose j) job) (after_one s 0 (act.Compose j) j job allowed e)
        (composed (j == j) job (same j))

-- what is owed already isn't claimed
not_open : (s : State) (j at : ℕ) (t : Task) → task s ≡ Some (Look j at) → Owes s 0 t → t ≡ Look j at → ⊥
not_open s j at t due h e = clash (job_in s.jobs j) (subst (Owes s 0) e h) (looks_are_of_live_jobs s j at due)
  where
    clash_slot : (job : Job) (o : Option Slot) → IsSomeAnd o (λ slot. slot.standing ≡ Missed 0) → IsSomeAnd o (λ slot. (job.ended ≡ None) × (is_open slot.standing ≡ true)) → ⊥
    clash_slot job None f g = f
    clash_slot job (Some slot) f g = missed_not_open slot.standing f g.1

    clash : (o : Option Job) → IsSomeAnd o (λ job. IsSomeAnd (slice_get job.slots at) (λ slot. slot.standing ≡ Missed 0))
        → IsSomeAnd o (λ job. IsSomeAnd (slice_get job.slots at) (λ slot. (job.ended ≡ None) × (is_open slot.standing ≡ true))) → ⊥
    clash None f g = f
    clash (Some job) f g = clash_slot job (slice_get job.slots at) f g

not_composed : (s : State) (j : ℕ) (t : Task) → task s ≡ Some (Compose j) → Owes s 0 t → t ≡ Compose j → ⊥
not_composed s j t due h e = clash (job_in s.jobs j) (subst (Owes s 0) e h) (composes_are_of_live_jobs s j due)
  where
    some_none : (o : Option ℕ) → o ≡ Some 0 → o ≡ None → ⊥
    some_none None f g = absurd cc
    some_none (Some x) f g = absurd cc

    clash : (o : Option Job) → IsSomeAnd o (λ job. job.composer ≡ Some 0)
        → IsSomeAnd o (λ job. (job.ended ≡ None) × (all_ready job.slots ≡ true) × (job.composer ≡ None)) → ⊥
    clash None f g = f
    clash (Some job) f g = some_none job.composer f g.2

-- behind an act that does no task, with what it makes held
pub held_more : (s : State) (a : Act) (ts : List Task) → Allows s 0 a → is_delivery a ≡ false → HoldsTasks s ts → HoldsTasks (did s 0 a) (ts ++ held_by a)
held_more s a ts allowed no_delivery h = by_act a allowed no_delivery
  where
    stay : (a : Act) → Allows s 0 a → is_delivery a ≡ false → AllByRecursion (Owes (did s 0 a) 0) ts
    stay a allowed no_delivery = all_still s 0 a ts allowed (all_tasks (Undone 0 a) ts (λ t. undone_by 0 a t no_delivery)) h.owed

    none : (a : Act) → Allows s 0 a → is_delivery a ≡ false → held_by a ≡ [] → HoldsTasks (did s 0 a) (ts ++ held_by a)
    none a allowed no_delivery e =
        subst (λ (us : List Task). HoldsTasks (did s 0 a) (ts ++ us)) (sym e) (subst (HoldsTasks (did s 0 a)) (sym (append-nil ts)) (record { owed = stay a allowed no_delivery; apart = h.apart }))

    by_act : (a : Act) → Allows s 0 a → is_delivery a ≡ false → HoldsTasks (did s 0 a) (ts ++ held_by a)
    by_act (act.Look j at false) allowed no_delivery = record {
      owed = all_behind (Owes (did s 0 (act.Look j at false)) 0) ts (Look j at ∷ []) (stay (act.Look j at false) allowed no_delivery) (new_slot_owed s j at allowed, tt);
      apart = apart_more ts (Look j at) h.apart (all_from (Owes s 0) (λ t. t ≡ Look j at → ⊥) ts (λ t f. not_open s j at t allowed.0 f) h.owed);
    }
    by_act (act.Look j at true) allowed no_delivery = none (act.Look j at true) allowed no_delivery refl
    by_act (act.Compose j) allowed no_delivery = record {
      owed = all_behind (Owes (did s 0 (act.Compose j)) 0) ts (Compose j ∷ []) (stay (act.Compose j) allowed no_delivery) (new_compose_owed s j allowed, tt);
      apart = apart_more ts (Compose j) h.apart (all_from (Owes s 0) (λ t. t ≡ Compose j → ⊥) ts (λ t f. not_composed s j t allowed f) h.owed);
    }
    by_act (act.Edit e v) allowed no_delivery = none (act.Edit e v) allowed no_delivery refl
    by_act (act.View c view) allowed no_delivery = none (act.View c view) allowed no_delivery refl
    by_act (act.Start c j) allowed no_delivery = none (act.Start c j) allowed no_delivery refl
    by_act (act.Deliver j at fate) allowed no_delivery = absurd (true≢false no_delivery)
    by_act (act.Finish j) allowed no_delivery = none (act.Finish j) allowed no_delivery refl
    by_act (act.Fail j) allowed no_delivery = none (act.Fail j) allowed no_delivery refl
    by_act (act.Cancel j) allowed no_delivery = none (act.Cancel j) allowed no_delivery refl
    by_act (act.Preview j ready) allowed no_delivery = none (act.Preview j ready) allowed no_delivery refl
    by_act (act.Save c j) allowed no_delivery = none (act.Save c j) allowed no_delivery refl

-- behind the entry of the task that is held longest
pub held_done : (s : State) (t : Task) (ts : List Task) (a : Act) → Allows s 0 a → MayDo t a → HoldsTasks s (t ∷ ts) → HoldsTasks (did s 0 a) (ts ++ held_by a)
held_done s (Look j at) ts a allowed m h =
    let e = m.1 in
    subst (λ (a : Act). HoldsTasks (did s 0 a) (ts ++ held_by a)) (sym e)
    (subst (HoldsTasks (did s 0 (act.Deliver j at m.0))) (sym (append-nil ts)) (record {
      owed = all_still s 0 (act.Deliver j at m.0) ts (subst (Allows s 0) e allowed)
          (all_from (λ u. u ≡ Look j at → ⊥) (Undone 0 (act.Deliver j at m.0)) ts (λ u f. differ u f) h.apart.0) h.owed.1;
      apart = h.apart.1;
    }))
  where
    differ : (u : Task) → (u ≡ Look j at → ⊥) → Undone 0 (act.Deliver j at m.0) u
    differ (Look k i) f = λ x y z. f (λ p. Look (sym y p) (sym z p))
    differ (Compose k) f = tt
held_done s (Compose j) ts a allowed m h =
    subst (λ (a : Act). HoldsTasks (did s 0 a) (ts ++ held_by a)) (sym m)
    (subst (HoldsTasks (did s 0 (act.Finish j))) (sym (append-nil ts)) (record {
      owed = all_still s 0 (act.Finish j) ts (subst (Allows s 0) m allowed) (all_tasks (Undone 0 (act.Finish j)) ts (λ t. tt)) h.owed.1;
      apart = h.apart.1;
    }))

-- ---- plays

-- a command's act is no delivery
viewed_no_delivery : (c : ℕ) (r : Result PixelGrid ViewError) (d : Act) → IsViewed c r d → is_delivery d ≡ false
viewed_no_delivery c (Ok view) d h = ap is_delivery h
viewed_no_delivery c (Err error) d h = absurd h

pub claim_no_delivery : (d : Act) → IsClaim d → is_delivery d ≡ false
claim_no_delivery (act.Look j at hit) m = refl
claim_no_delivery (act.Compose j) m = refl
claim_no_delivery (act.Edit e v) m = absurd m
claim_no_delivery (act.View c view) m = absurd m
claim_no_delivery (act.Start c j) m = absurd m
claim_no_delivery (act.Deliver j at fate) m = absurd m
claim_no_delivery (act.Finish j) m = absurd m
claim_no_delivery (act.Fail j) m = absurd m
claim_no_delivery (act.Cancel j) m = absurd m
claim_no_delivery (act.Preview j ready) m = absurd m
claim_no_delivery (act.Save c j) m = absurd m

pub act_no_delivery : (s : State) (held : ℕ) (c : Command) (d : Act) → MayAct s held c d → is_delivery d ≡ false
act_no_delivery s held (command.Edit e) d m = ap is_delivery m.1
act_no_delivery s held (command.View c e) d m =
    from_some (λ (k : Canvas). IsViewed c (view_of e k.spec.w k.spec.h) d) (slice_get s.canvases c) _ m (λ k g. viewed_no_delivery c _ d g)
act_no_delivery s held (command.Pan c dx dy) d m =
    from_some (λ (v : PixelGrid). IsViewed c (pan v dx dy) d) (view_on s c) _ m (λ v g. viewed_no_delivery c _ d g)
act_no_delivery s held (command.Zoom c num den) d m =
    from_some (λ (v : PixelGrid). IsViewed c (zoom v num den) d) (view_on s c) _ m (λ v g. viewed_no_delivery c _ d g)
act_no_delivery s held (command.Start c) d m = ap is_delivery m.1
act_no_delivery s held (command.Cancel c) d m = from_some (λ (j : ℕ). d ≡ act.Cancel j) (last_job s c) _ m.1 (λ j g. ap is_delivery g)
act_no_delivery s held (command.Preview c file) d m =
    from_some (λ (j : ℕ). (ready : ℕ) × (d ≡ act.Preview j ready)) (last_job s c) _ m.1 (λ j g. ap is_delivery g.1)
act_no_delivery s held (command.Save c file) d m = ap is_delivery m.1
act_no_delivery s held command.Take d m = claim_no_delivery d m.1
act_no_delivery s held (command.Wait c) d m = absurd m
act_no_delivery s held command.Give d m = absurd m

holds_open : (c : ℕ) (views : List (Option PixelGrid)) (a : Play) (d : Act) → planned_in (Opens c views) a ≡ Some d → Allows a.state 0 d
    → HoldsTasks a.state a.held → HoldsTasks (did a.state 0 d) a.held
holds_open c [] a d e allowed h = absurd cc
holds_open c (None ∷ views) a d e allowed h = absurd cc
holds_open c (Some view ∷ views) a d e allowed h =
    subst (λ (d : Act). HoldsTasks (did a.state 0 d) a.held) (same_some e)
    (subst (HoldsTasks (did a.state 0 (act.View c view))) (append-nil a.held) (held_more a.state (act.View c view) a.held (subst (Allows a.state 0) (sym (same_some e)) allowed) refl h))

holds_begin : (cs : List Numbered) (a : Play) (d : Act) → planned_next cs a ≡ Some d → Allows a.state 0 d → HoldsTasks a.state a.held
    → HoldsTasks (did a.state 0 d) (through cs d (entered d a)).held
holds_begin [] a d e allowed h = absurd cc
holds_begin (n ∷ rest) a d e allowed h =
    held_more a.state d a.held allowed (act_no_delivery a.state (length a.held) n.command d (act_may a.state (length a.held) n.command d e)) h

holds_give : (ts : List Task) (a : Play) (d : Act) → planned_held ts a ≡ Some d → Allows a.state 0 d → HoldsTasks a.state ts
    → HoldsTasks (did a.state 0 d) (drop 1 ts ++ held_by d)
holds_give [] a d e allowed h = absurd cc
holds_give (t ∷ ts) a d e allowed h = held_done a.state t ts d allowed (done_may a.state t d e) h

holds_work : (w : Awaited) (ts : List Task) (a : Play) (d : Act) → planned_work w ts a ≡ Some d → Allows a.state 0 d → HoldsTasks a.state ts
    → HoldsTasks (did a.state 0 d) (drop 1 ts ++ held_by d)
holds_work w [] a d e allowed h = held_more a.state d [] allowed (claim_no_delivery d (work_may w [] a d e).1) h
holds_work w (t ∷ ts) a d e allowed h = held_done a.state t ts d allowed (done_may a.state t d e) h

holds_next : (m : Mode) (a : Play) (d : Act) → planned_in m a ≡ Some d → Allows a.state 0 d → HoldsTasks a.state a.held
    → HoldsTasks (did a.state 0 d) (next_in m d (entered d a)).held
holds_next (Opens c views) a d e allowed h = holds_open c views a d e allowed h
holds_next Begins a d e allowed h = holds_begin a.commands a d e allowed h
holds_next GivesOne a d e allowed h = holds_give a.held a d e allowed h
holds_next (GivesAll w) a d e allowed h = holds_give a.held a d e allowed h
holds_next (Works w) a d e allowed h = holds_work w a.held a d e allowed h
holds_next Closes a d e allowed h = holds_give a.held a d e allowed h

holds_rest : (s : State) (ts : List Task) → HoldsTasks s ts → HoldsTasks s (drop 1 ts)
holds_rest s [] h = h
holds_rest s (t ∷ ts) h = record { owed = h.owed.1; apart = h.apart.1 }

holds_claim_failed : (cs : List Numbered) (a : Play) (j : ℕ) → claims_next (length a.held) cs ≡ true → Allows a.state 0 (act.Fail j) → HoldsTasks a.state a.held
    → HoldsTasks (did a.state 0 (act.Fail j)) (through cs (act.Fail j) (entered (act.Fail j) a)).held
holds_claim_failed [] a j e allowed h = absurd (false≢true e)
holds_claim_failed (n ∷ rest) a j e allowed h = held_more a.state (act.Fail j) a.held allowed refl h

holds_failed : (m : Mode) (a : Play) (j : ℕ) → fails_in m a j ≡ true → Allows a.state 0 (act.Fail j) → HoldsTasks a.state a.held
    → HoldsTasks (did a.state 0 (act.Fail j)) (next_in m (act.Fail j) (entered (act.Fail j) a)).held
holds_failed (Opens c views) a j e allowed h = absurd (false≢true e)
holds_failed Begins a j e allowed h = holds_claim_failed a.commands a j (first_of _ _ e) allowed h
holds_failed GivesOne a j e allowed h = held_more a.state (act.Fail j) (drop 1 a.held) allowed refl (holds_rest a.state a.held h)
holds_failed (GivesAll w) a j e allowed h = held_more a.state (act.Fail j) (drop 1 a.held) allowed refl (holds_rest a.state a.held h)
holds_failed (Works w) a j e allowed h = held_more a.state (act.Fail j) (drop 1 a.held) allowed refl (holds_rest a.state a.held h)
holds_failed Closes a j e allowed h = held_more a.state (act.Fail j) (drop 1 a.held) allowed refl (holds_rest a.state a.held h)

holds_tail : (s : State) (us ts : List Task) (t : Task) → us ≡ t ∷ ts → HoldsTasks s us → HoldsTasks s ts
holds_tail s us ts t e h = holds_rest s (t ∷ ts) (subst (HoldsTasks s) e h)

holds_silent : {a b : Play} → Silently a b → HoldsTasks a.state a.held → HoldsTasks b.state b.held
holds_silent (turns m x) h = h
holds_silent (refuses n rest why c e) h = h
holds_silent (begins n rest m c e f x) h = h
holds_silent {a} (lets m t ts e x g) h = holds_tail a.state a.held ts t e h
holds_silent (ends w m e g) h = h
holds_silent (ends_badly w m e g) h = h

pub holds_played : {n : ℕ} {a c : Play} {es : List Entry} → Plays n a es c → LegalFrom a.state es → HoldsTasks a.state a.held → HoldsTasks c.state c.held
holds_played (stops a) legal h = h
holds_played (quiet a b c es e rest) legal h =
    let kind = silently a b e in
    holds_played rest (subst (λ (s : State). LegalFrom s es) (sym (state_silent kind)) legal) (holds_silent kind h)
holds_played (own a c d es e rest) legal h =
    let same : (next d a).state ≡ did a.state 0 d = state_next a.mode d (entered d a) in
    holds_played rest (subst (λ (s : State). LegalFrom s es) (sym same) legal.1)
    (subst (λ (s : State). HoldsTasks s (next d a).held) (sym same) (holds_next a.mode a d e legal.0 h))
holds_played (failed a c j es e rest) legal h =
    let same : (next (act.Fail j) a).state ≡ did a.state 0 (act.Fail j) = state_next a.mode (act.Fail j) (entered (act.Fail j) a) in
    holds_played rest (subst (λ (s : State). LegalFrom s es) (sym same) legal.1)
    (subst (λ (s : State). HoldsTasks s (next (act.Fail j) a).held) (sym same) (holds_failed a.mode a j e legal.0 h))
holds_played (other a c e es low high is rest) legal h =
    holds_played rest legal.1
    (record {
      owed = all_still a.state e.caller e.act a.held legal.0 (all_tasks (Undone e.caller e.act) a.held (λ t. undone_by_other e.caller e.act t low)) h.owed;
      apart = h.apart;
    })

pub held_tasks_are_owed : HeldTasksAreOwed
held_tasks_are_owed o views script workers journal last legal p =
    holds_played p legal (record { owed = tt; apart = tt })
