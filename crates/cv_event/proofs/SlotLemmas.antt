-- The slots of a job behind a journal: laws of looks, deliveries, edits and compositions.
use Rattle.std.proofs.Common.{◌≡◌, ◌∙◌, sym, ap, refl, ℕ, zero, suc, ◌+◌, ◌==◌, Bool, true, false, not, ◌&&◌}
use Rattle.std.proofs.Common.{◌||◌, List, [], ◌∷◌, map, Option, Some, None, is_some, is_none, slice_get}
use Rattle.std.proofs.Common.{option_map, IsSomeAnd, fold, arith, if◌then◌else◌, subst}
use Rattle.std.specs.List.{cons_option, list_any}
use Rattle.std.specs.Option.{option_or}
use Rattle.std.proofs.lemmas.Bool.Decides.{nat_tests}
use Rattle.std.proofs.lemmas.Bool.{false≢true}
use Rattle.cv_model.specs.declared.edit.Edit.{Edit}
use Rattle.cv_model.specs.declared.edit.EditError.{EditError}
use Rattle.cv_model.specs.Layers.{Layer, Opening, deps, slots}
use Rattle.cv_model.specs.Edits.{touches_any}
use Rattle.cv_event.specs.declared.entry.Act.{Act}
use Rattle.cv_event.specs.declared.entry.Act.TheVariants as act
use Rattle.cv_event.specs.declared.entry.Entry.{Entry}
use Rattle.cv_event.specs.declared.entry.Fate.{Fate}
use Rattle.cv_event.specs.declared.entry.Fate.TheVariants.{Stored, Kept, Dropped}
use Rattle.cv_event.specs.declared.entry.How.{How}
use Rattle.cv_event.specs.declared.entry.How.TheVariants.{Finished, Cancelled, NoMemory}
use Rattle.cv_event.specs.declared.slot.Slot.{Slot}
use Rattle.cv_event.specs.declared.slot.Standing.{Standing}
use Rattle.cv_event.specs.declared.slot.Standing.TheVariants.{Open, Missed, Ready, Lost}
use Rattle.cv_event.specs.declared.slot.Task.{Task}
use Rattle.cv_event.specs.declared.slot.Task.TheVariants.{Look, Compose}
use Rattle.cv_event.specs.States.{Job, State, change_at, job_in, slot_edited, with_end}
use Rattle.cv_event.specs.States.{new_slot, new_job, looked, delivered, slot_stands, stands_at, composed_by}
use Rattle.cv_event.specs.States.{after, replay}
use Rattle.cv_event.specs.Legality.{is_ready, is_open, open_slot, all_ready, task_behind}
use Rattle.cv_event.specs.Legality.{open_task, task_from, task, fate_of, Allows, LegalFrom, IsLegal}
use Rattle.cv_event.specs.Histories.{accepted_edit, edits, looks_at, is_kept, makes_ready, composes, some_act}
use Rattle.cv_event.specs.Histories.{first_end}
use Rattle.cv_event.specs.Laws.{entry_of, started_between, SlotsAreAsLooked, TouchedByEdits}
use Rattle.cv_event.specs.Laws.{ComposerIsOfCompose}
use Rattle.cv_event.proofs.JobLemmas.{at_map, does, edit_does, job_does, after_one, began, zero_suc}
use Rattle.cv_event.proofs.JobLemmas.{suc_zero, suc_suc}
use Rattle.cv_event.proofs.EndLemmas.{fixed_one, fixed_more, end_more, end_one}

-- ---- the slot that is to be looked at

-- the first open slot, of slots numbered from k
pub record OpenIs (k : ℕ) (xs : List Slot) (at : ℕ) : Type 0 where
  pub before : ℕ
  pub slot : Slot
  pub number : at ≡ k + before
  pub slot_is : slice_get xs before ≡ Some slot
  pub open_is : is_open slot.standing ≡ true

pub open_slot_is : (k : ℕ) (xs : List Slot) (at : ℕ) → open_slot k xs ≡ Some at → OpenIs k xs at
open_slot_is k [] at h = absurd cc
open_slot_is k (x ∷ xs) at h = by (is_open x.standing) refl h (open_slot_is (suc k) xs at)
  where
    by : (b : Bool) → is_open x.standing ≡ b → (if b then Some k else open_slot (suc k) xs) ≡ Some at
        → (open_slot (suc k) xs ≡ Some at → OpenIs (suc k) xs at) → OpenIs k (x ∷ xs) at
    by true is h others =
        let same : k ≡ at = cc in
        record { before = 0; slot = x; number = omega (arith, same); slot_is = refl; open_is = is }
    by false is h others = more (others h)
      where
        more : OpenIs (suc k) xs at → OpenIs k (x ∷ xs) at
        more r = record {
          before = suc r.before;
          slot = r.slot;
          number = omega (arith, r.number);
          slot_is = r.slot_is;
          open_is = r.open_is;
        }

-- the job whose slot is to be looked at, of jobs numbered from k
pub record LookIs (k : ℕ) (jobs : List Job) (j at : ℕ) : Type 0 where
  pub before : ℕ
  pub job : Job
  pub number : j ≡ k + before
  pub job_is : slice_get jobs before ≡ Some job
  pub live : job.ended ≡ None
  pub open_is : open_slot 0 job.slots ≡ Some at

pub open_task_is : (k : ℕ) (job : Job) (j at : ℕ) → open_task k job ≡ Some (Look j at)
    → (k ≡ j) × (job.ended ≡ None) × (open_slot 0 job.slots ≡ Some at)
open_task_is k job j at h = by job.ended refl h
  where
    composed : (b : Bool) → (if b then Some (Compose k) else None) ≡ Some (Look j at) → ⊥
    composed true h = absurd cc
    composed false h = absurd cc

    of_open : (o : Option ℕ) → open_slot 0 job.slots ≡ o → task_behind k job o ≡ Some (Look j at) → job.ended ≡ None
        → (k ≡ j) × (job.ended ≡ None) × (open_slot 0 job.slots ≡ Some at)
    of_open None is h live = absurd (composed (all_ready job.slots && is_none job.composer) h)
    of_open (Some n) is h live =
        let same : n ≡ at = cc in
        let number : k ≡ j = cc in
        (number, live, is ∙ ap Some same)

    by : (e : Option How) → job.ended ≡ e → (if is_some e then None else task_behind k job (open_slot 0 job.slots)) ≡
        Some (Look j at)
        → (k ≡ j) × (job.ended ≡ None) × (open_slot 0 job.slots ≡ Some at)
    by None live h = of_open (open_slot 0 job.slots) refl h live
    by (Some how) live h = absurd cc

pub look_is : (k : ℕ) (jobs : List Job) (j at : ℕ) → task_from k jobs ≡ Some (Look j at) → LookIs k jobs j at
look_is k [] j at h = absurd cc
look_is k (job ∷ jobs) j at h = by (open_task k job) refl h (look_is (suc k) jobs j at)
  where
    by : (o : Option Task) → open_task k job ≡ o → option_or o (task_from (suc k) jobs) ≡ Some (Look j at)
        → (task_from (suc k) jobs ≡ Some (Look j at) → LookIs (suc k) jobs j at) → LookIs k (job ∷ jobs) j at
    by (Some t) is h others =
        let r = open_task_is k job j at (is ∙ h) in
        record { before = 0; job = job; number = omega (arith, r.0); job_is = refl; live = r.1; open_is = r.2 }
    by None is h others = more (others h)
      where
        more : LookIs (suc k) jobs j at → LookIs k (job ∷ jobs) j at
        more r = record {
          before = suc r.before;
          job = r.job;
          number = omega (arith, r.number);
          job_is = r.job_is;
          live = r.live;
          open_is = r.open_is;
        }

pub same_some : {A : Type 0} {x y : A} (o : Option A) → o ≡ Some x → o ≡ Some y → x ≡ y
same_some o h g = cc

-- the slot of the task is open
pub task_slot_open : (s : State) (j at : ℕ) (job : Job) (slot : Slot) → task s ≡ Some (Look j at) → job_in s.jobs j ≡
    Some job
    → slice_get job.slots at ≡ Some slot → is_open slot.standing ≡ true
task_slot_open s j at job slot due there is =
    let r = look_is 1 s.jobs j at due in
    let number : j ≡ suc r.before = omega (arith, r.number) in
    let job_is : job_in s.jobs j ≡ Some r.job = ap (job_in s.jobs) number ∙ r.job_is in
    let same : job ≡ r.job = same_some (job_in s.jobs j) there job_is in
    let q = open_slot_is 0 r.job.slots at r.open_is in
    let place : at ≡ q.before = omega (arith, q.number) in
    let slot_is : slice_get job.slots at ≡ Some q.slot =
    ap (λ (k : Job). slice_get k.slots at) same ∙ ap (slice_get r.job.slots) place ∙ q.slot_is in
    ap (λ (x : Slot). is_open x.standing) (same_some (slice_get job.slots at) is slot_is) ∙ q.open_is

-- ---- what an act does to a slot

-- a change of slot `at` of job j, where the act speaks of them
abbrev pub on_slot : Bool → Bool → Standing → Slot → Slot
on_slot a b standing slot = if a then (if b then slot_stands standing slot else slot) else slot

abbrev pub edit_does_slot : Job → Edit → Option EditError → Slot → Slot
edit_does_slot job e None slot = if is_some job.ended then slot else slot_edited job.project e slot
edit_does_slot job e (Some error) slot = slot

abbrev pub slot_does : ℕ → ℕ → Job → ℕ → Act → Slot → Slot
slot_does j at job who (act.Edit e v) slot = edit_does_slot job e v slot
slot_does j at job who (act.View c view) slot = slot
slot_does j at job who (act.Start c k) slot = slot
slot_does j at job who (act.Look k i hit) slot = on_slot (k == j) (i == at) (looked who hit) slot
slot_does j at job who (act.Deliver k i fate) slot = on_slot (k == j) (i == at) (delivered fate) slot
slot_does j at job who (act.Compose k) slot = slot
slot_does j at job who (act.Finish k) slot = slot
slot_does j at job who (act.Fail k) slot = slot
slot_does j at job who (act.Cancel k) slot = slot
slot_does j at job who (act.Preview k bits) slot = slot
slot_does j at job who (act.Save c k) slot = slot

map_same : {A : Type 0} (o : Option A) → o ≡ option_map (λ x. x) o
map_same None = refl
map_same (Some x) = refl

pub changed : {A : Type 0} (change : A → A) (xs : List A) (i m : ℕ) → slice_get (change_at i change xs) m ≡ option_map (λ
    x. if i == m then change x else x) (slice_get xs m)
changed change [] i m = refl
changed change (y ∷ ys) zero zero = refl
changed change (y ∷ ys) zero (suc m) =
    map_same (slice_get ys m) ∙ ap (λ b. option_map (λ x. if b then change x else x) (slice_get ys m)) (sym (zero_suc
    m))
changed change (y ∷ ys) (suc i) zero = ap (λ b. Some (if b then change y else y)) (sym (suc_zero i))
changed change (y ∷ ys) (suc i) (suc m) =
    changed change ys i m ∙ ap (λ b. option_map (λ x. if b then change x else x) (slice_get ys m)) (sym (suc_suc i
    m))

stands_where : (b : Bool) (i at : ℕ) (standing : Standing) (job : Job) → slice_get (if b then stands_at i standing
    job else job).slots at ≡ option_map (on_slot b (i == at) standing) (slice_get job.slots at)
stands_where true i at standing job = changed (slot_stands standing) job.slots i at
stands_where false i at standing job = map_same (slice_get job.slots at)

-- a change that leaves the slots
slots_where : (b : Bool) (change : Job → Job) (job : Job) (at : ℕ) → (change job).slots ≡ job.slots → slice_get (if b
    then change job else job).slots at ≡ option_map (λ slot. slot) (slice_get job.slots at)
slots_where true change job at same = ap (λ xs. slice_get xs at) same ∙ map_same (slice_get job.slots at)
slots_where false change job at same = map_same (slice_get job.slots at)

edited_where : (b : Bool) (e : Edit) (job : Job) (at : ℕ) → slice_get (if b then job else record job {
  slots = map
      (slot_edited job.project e) job.slots;
}).slots at ≡ option_map (λ slot. if b then slot else slot_edited
    job.project e slot) (slice_get job.slots at)
edited_where true e job at = map_same (slice_get job.slots at)
edited_where false e job at = at_map (slot_edited job.project e) job.slots at

edit_slot : (e : Edit) (v : Option EditError) (job : Job) (at : ℕ) → slice_get (edit_does e v job).slots at ≡
    option_map (edit_does_slot job e v) (slice_get job.slots at)
edit_slot e None job at = edited_where (is_some job.ended) e job at
edit_slot e (Some error) job at = map_same (slice_get job.slots at)

pub slot_one : (j who : ℕ) (a : Act) (job : Job) (at : ℕ) → slice_get (does j who a job).slots at ≡ option_map
    (slot_does j at job who a) (slice_get job.slots at)
slot_one j who (act.Edit e v) job at = edit_slot e v job at
slot_one j who (act.View c view) job at = map_same (slice_get job.slots at)
slot_one j who (act.Start c k) job at = slots_where (job.canvas == c) (with_end Cancelled) job at refl
slot_one j who (act.Look k i hit) job at = stands_where (k == j) i at (looked who hit) job
slot_one j who (act.Deliver k i fate) job at = stands_where (k == j) i at (delivered fate) job
slot_one j who (act.Compose k) job at = slots_where (k == j) (composed_by who) job at refl
slot_one j who (act.Finish k) job at = slots_where (k == j) (with_end Finished) job at refl
slot_one j who (act.Fail k) job at = slots_where (k == j) (with_end NoMemory) job at refl
slot_one j who (act.Cancel k) job at = slots_where (k == j) (with_end Cancelled) job at refl
slot_one j who (act.Preview k bits) job at = map_same (slice_get job.slots at)
slot_one j who (act.Save c k) job at = map_same (slice_get job.slots at)

-- ---- ready and open slots

pub or_false : (b : Bool) → b ≡ (b || false)
or_false true = refl
or_false false = refl

pub and_true : (b : Bool) → b ≡ (b && true)
and_true true = refl
and_true false = refl

pub and_false : (b : Bool) → false ≡ (b && false)
and_false true = refl
and_false false = refl

-- a part of a slot that no edit changes
pub edit_part : {A : Type 0} (part : Slot → A) (job : Job) (e : Edit) (v : Option EditError) (slot : Slot) → part
    (slot_edited job.project e slot) ≡ part slot → part (edit_does_slot job e v slot) ≡ part slot
edit_part part job e None slot same = by (is_some job.ended)
  where
    by : (b : Bool) → part (if b then slot else slot_edited job.project e slot) ≡ part slot
    by true = refl
    by false = same
edit_part part job e (Some error) slot same = refl

-- a standing that is open isn't ready, nor is a missed one open or ready
open_not_ready : (x : Standing) → is_open x ≡ true → is_ready x ≡ false
open_not_ready Open h = refl
open_not_ready (Missed who) h = refl
open_not_ready Ready h = absurd (false≢true h)
open_not_ready Lost h = refl

looked_ready : (who : ℕ) (hit : Bool) → is_ready (looked who hit) ≡ hit
looked_ready who true = refl
looked_ready who false = refl

looked_open : (who : ℕ) (hit : Bool) → is_open (looked who hit) ≡ false
looked_open who true = refl
looked_open who false = refl

delivered_ready : (fate : Fate) → is_ready (delivered fate) ≡ is_kept fate
delivered_ready Stored = refl
delivered_ready Kept = refl
delivered_ready Dropped = refl

delivered_open : (fate : Fate) → is_open (delivered fate) ≡ false
delivered_open Stored = refl
delivered_open Kept = refl
delivered_open Dropped = refl

-- a slot for which an act isn't meant stays; the other is as the act says
ready_where : (a b c : Bool) (standing : Standing) (slot : Slot) → is_ready standing ≡ c
    → (a ≡ true → b ≡ true → is_ready slot.standing ≡ false)
    → is_ready (on_slot a b standing slot).standing ≡ (is_ready slot.standing || (a && (b && c)))
ready_where true true c standing slot is was = is ∙ sym (ap (λ x. x || c) (was refl refl))
ready_where true false c standing slot is was = or_false (is_ready slot.standing)
ready_where false b c standing slot is was = or_false (is_ready slot.standing)

looked_where : (a b : Bool) (standing : Standing) (slot : Slot) → is_open standing ≡ false
    → is_open (on_slot a b standing slot).standing ≡ (is_open slot.standing && not (a && b))
looked_where true true standing slot is = is ∙ and_false (is_open slot.standing)
looked_where true false standing slot is = and_true (is_open slot.standing)
looked_where false b standing slot is = and_true (is_open slot.standing)

delivered_where : (a b : Bool) (standing : Standing) (slot : Slot) → is_open standing ≡ false
    → (a ≡ true → b ≡ true → is_open slot.standing ≡ false)
    → is_open (on_slot a b standing slot).standing ≡ (is_open slot.standing && true)
delivered_where true true standing slot is was = is ∙ sym (was refl refl) ∙ and_true (is_open slot.standing)
delivered_where true false standing slot is was = and_true (is_open slot.standing)
delivered_where false b standing slot is was = and_true (is_open slot.standing)

-- the slot of an allowed look is open
pub look_open : (s : State) (j k i at : ℕ) (job : Job) (slot : Slot) → task s ≡ Some (Look k i) → job_in s.jobs j ≡ Some
    job
    → slice_get job.slots at ≡ Some slot → (k == j) ≡ true → (i == at) ≡ true → is_open slot.standing ≡ true
look_open s j k i at job slot due there is a b =
    let number : k ≡ j = grind (arith, nat_tests) in
    let place : i ≡ at = grind (arith, nat_tests) in
    task_slot_open s j at job slot (due ∙ (λ d. Some (Look (number d) (place d)))) there is

-- the slot of an allowed delivery is missed
pub delivery_missed : (s : State) (who j k i at : ℕ) (job : Job) (slot : Slot) (fate : Fate) → Allows s who (act.Deliver
    k i fate) → job_in s.jobs j ≡ Some job
    → slice_get job.slots at ≡ Some slot → (k == j) ≡ true → (i == at) ≡ true → slot.standing ≡ Missed who
delivery_missed s who j k i at job slot fate allowed there is a b =
    let number : k ≡ j = grind (arith, nat_tests) in
    let place : i ≡ at = grind (arith, nat_tests) in
    let of_job = subst (λ o. IsSomeAnd o (λ (job : Job). IsSomeAnd (slice_get job.slots i) (λ slot. (slot.standing ≡
    Missed who) × (fate ≡ fate_of s job slot)))) (ap (job_in s.jobs) number ∙ there) allowed in
    let of_slot = subst (λ o. IsSomeAnd o (λ (slot : Slot). (slot.standing ≡ Missed who) × (fate ≡ fate_of s job
    slot))) (ap (slice_get job.slots) place ∙ is) of_job in
    of_slot.0

pub ready_one : (s : State) (j who : ℕ) (a : Act) (job : Job) (at : ℕ) (slot : Slot) → Allows s who a → job_in s.jobs
    j ≡ Some job
    → slice_get job.slots at ≡ Some slot → is_ready (slot_does j at job who a slot).standing ≡ (is_ready
    slot.standing || makes_ready j at a)
ready_one s j who (act.Edit e v) job at slot allowed there is = edit_part (λ (x : Slot). is_ready x.standing) job e v
    slot refl ∙ or_false (is_ready slot.standing)
ready_one s j who (act.View c view) job at slot allowed there is = or_false (is_ready slot.standing)
ready_one s j who (act.Start c k) job at slot allowed there is = or_false (is_ready slot.standing)
ready_one s j who (act.Look k i hit) job at slot allowed there is =
    ready_where (k == j) (i == at) hit (looked who hit) slot (looked_ready who hit)
    (λ a b. open_not_ready slot.standing (look_open s j k i at job slot allowed.0 there is a b))
ready_one s j who (act.Deliver k i fate) job at slot allowed there is =
    ready_where (k == j) (i == at) (is_kept fate) (delivered fate) slot (delivered_ready fate)
    (λ a b. ap is_ready (delivery_missed s who j k i at job slot fate allowed there is a b))
ready_one s j who (act.Compose k) job at slot allowed there is = or_false (is_ready slot.standing)
ready_one s j who (act.Finish k) job at slot allowed there is = or_false (is_ready slot.standing)
ready_one s j who (act.Fail k) job at slot allowed there is = or_false (is_ready slot.standing)
ready_one s j who (act.Cancel k) job at slot allowed there is = or_false (is_ready slot.standing)
ready_one s j who (act.Preview k bits) job at slot allowed there is = or_false (is_ready slot.standing)
ready_one s j who (act.Save c k) job at slot allowed there is = or_false (is_ready slot.standing)

pub open_one : (s : State) (j who : ℕ) (a : Act) (job : Job) (at : ℕ) (slot : Slot) → Allows s who a → job_in s.jobs
    j ≡ Some job
    → slice_get job.slots at ≡ Some slot → is_open (slot_does j at job who a slot).standing ≡ (is_open slot.standing
    && not (looks_at j at a))
open_one s j who (act.Edit e v) job at slot allowed there is = edit_part (λ (x : Slot). is_open x.standing) job e v
    slot refl ∙ and_true (is_open slot.standing)
open_one s j who (act.View c view) job at slot allowed there is = and_true (is_open slot.standing)
open_one s j who (act.Start c k) job at slot allowed there is = and_true (is_open slot.standing)
open_one s j who (act.Look k i hit) job at slot allowed there is = looked_where (k == j) (i == at) (looked who hit)
    slot (looked_open who hit)
open_one s j who (act.Deliver k i fate) job at slot allowed there is =
    delivered_where (k == j) (i == at) (delivered fate) slot (delivered_open fate)
    (λ a b. ap is_open (delivery_missed s who j k i at job slot fate allowed there is a b))
open_one s j who (act.Compose k) job at slot allowed there is = and_true (is_open slot.standing)
open_one s j who (act.Finish k) job at slot allowed there is = and_true (is_open slot.standing)
open_one s j who (act.Fail k) job at slot allowed there is = and_true (is_open slot.standing)
open_one s j who (act.Cancel k) job at slot allowed there is = and_true (is_open slot.standing)
open_one s j who (act.Preview k bits) job at slot allowed there is = and_true (is_open slot.standing)
open_one s j who (act.Save c k) job at slot allowed there is = and_true (is_open slot.standing)

-- ---- touched slots

-- an act that is an accepted edit touches one of these layers
abbrev pub act_touches : List ℕ → Act → Bool
act_touches ids a = list_any (λ e. touches_any e ids) (cons_option (accepted_edit a) [])

touched_where : (a b : Bool) (standing : Standing) (slot : Slot) → (on_slot a b standing slot).touched ≡
    (slot.touched || false)
touched_where true true standing slot = or_false slot.touched
touched_where true false standing slot = or_false slot.touched
touched_where false b standing slot = or_false slot.touched

layer_where : (a b : Bool) (standing : Standing) (slot : Slot) → (on_slot a b standing slot).layer ≡ slot.layer
layer_where true true standing slot = refl
layer_where true false standing slot = refl
layer_where false b standing slot = refl

edit_touched : (job : Job) (e : Edit) (v : Option EditError) (slot : Slot) → job.ended ≡ None → (edit_does_slot job e
    v slot).touched ≡ (slot.touched || act_touches (deps job.project slot.layer) (act.Edit e v))
edit_touched job e None slot live =
    ap (λ (o : Option How). (if is_some o then slot else slot_edited job.project e slot).touched) live
    ∙ ap (λ b. slot.touched || b) (or_false (touches_any e (deps job.project slot.layer)))
edit_touched job e (Some error) slot live = or_false slot.touched

pub touched_one : (j who : ℕ) (a : Act) (job : Job) (at : ℕ) (slot : Slot) → job.ended ≡ None
    → (slot_does j at job who a slot).touched ≡ (slot.touched || act_touches (deps job.project slot.layer) a)
touched_one j who (act.Edit e v) job at slot live = edit_touched job e v slot live
touched_one j who (act.View c view) job at slot live = or_false slot.touched
touched_one j who (act.Start c k) job at slot live = or_false slot.touched
touched_one j who (act.Look k i hit) job at slot live = touched_where (k == j) (i == at) (looked who hit) slot
touched_one j who (act.Deliver k i fate) job at slot live = touched_where (k == j) (i == at) (delivered fate) slot
touched_one j who (act.Compose k) job at slot live = or_false slot.touched
touched_one j who (act.Finish k) job at slot live = or_false slot.touched
touched_one j who (act.Fail k) job at slot live = or_false slot.touched
touched_one j who (act.Cancel k) job at slot live = or_false slot.touched
touched_one j who (act.Preview k bits) job at slot live = or_false slot.touched
touched_one j who (act.Save c k) job at slot live = or_false slot.touched

pub layer_one : (j who : ℕ) (a : Act) (job : Job) (at : ℕ) (slot : Slot) → (slot_does j at job who a slot).layer ≡
    slot.layer
layer_one j who (act.Edit e v) job at slot = edit_part (λ (x : Slot). x.layer) job e v slot refl
layer_one j who (act.View c view) job at slot = refl
layer_one j who (act.Start c k) job at slot = refl
layer_one j who (act.Look k i hit) job at slot = layer_where (k == j) (i == at) (looked who hit) slot
layer_one j who (act.Deliver k i fate) job at slot = layer_where (k == j) (i == at) (delivered fate) slot
layer_one j who (act.Compose k) job at slot = refl
layer_one j who (act.Finish k) job at slot = refl
layer_one j who (act.Fail k) job at slot = refl
layer_one j who (act.Cancel k) job at slot = refl
layer_one j who (act.Preview k bits) job at slot = refl
layer_one j who (act.Save c k) job at slot = refl

-- ---- a slot behind a journal

-- the slot behind these entries, and what they made of it
pub record SlotBehind (j : ℕ) (job : Job) (at : ℕ) (slot : Slot) (rest : List Entry) : Type 0 where
  pub now : Slot
  pub is : slice_get (fold (job_does j) job rest).slots at ≡ Some now
  pub layer : now.layer ≡ slot.layer
  pub ready : is_ready now.standing ≡ (is_ready slot.standing || some_act (makes_ready j at) rest)
  pub opened : is_open now.standing ≡ (is_open slot.standing && not (some_act (looks_at j at) rest))
  pub touched : (fold (job_does j) job rest).ended ≡ None → now.touched ≡ (slot.touched || list_any (λ e.
      touches_any e (deps job.project slot.layer)) (edits rest))

pub or_more : (a b c : Bool) → ((a || b) || c) ≡ (a || (b || c))
or_more true b c = refl
or_more false b c = refl

and_more : (a b c : Bool) → ((a && not b) && not c) ≡ (a && not (b || c))
and_more true true c = refl
and_more true false c = refl
and_more false b c = refl

any_cons : {A : Type 0} (test : A → Bool) (o : Option A) (xs : List A) → list_any test (cons_option o xs) ≡ (list_any
    test (cons_option o []) || list_any test xs)
any_cons test None xs = refl
any_cons test (Some x) xs = ap (λ b. b || list_any test xs) (or_false (test x))

or_is_none : {A : Type 0} (o p : Option A) → option_or o p ≡ None → o ≡ None
or_is_none None p h = refl
or_is_none (Some x) p h = absurd cc

pub slot_more : (s : State) (rest : List Entry) (j : ℕ) (job : Job) (at : ℕ) (slot : Slot) → LegalFrom s rest →
    job_in s.jobs j ≡ Some job
    → slice_get job.slots at ≡ Some slot → SlotBehind j job at slot rest
slot_more s [] j job at slot legal there is = record {
  now = slot;
  is = is;
  layer = refl;
  ready = or_false (is_ready slot.standing);
  opened = and_true (is_open slot.standing);
  touched = λ live. or_false slot.touched;
}
slot_more s (entry ∷ rest) j job at slot legal there is =
    let next = job_does j job entry in
    let slot2 = slot_does j at job entry.caller entry.act slot in
    let there2 = after_one s entry.caller entry.act j job legal.0 there in
    let is2 : slice_get next.slots at ≡ Some slot2 =
    slot_one j entry.caller entry.act job at ∙ ap (option_map (slot_does j at job entry.caller entry.act)) is in
    let more = slot_more (after s entry) rest j next at slot2 legal.1 there2 is2 in
    let layer2 = layer_one j entry.caller entry.act job at slot in
    let project2 = fixed_one (λ (k : Job). k.project) (record {
      slots = λ job slots. refl;
      composer = λ job o. refl;
      ended = λ job o. refl;
    }) j entry.caller entry.act job in
    record {
      now = more.now;
      is = more.is;
      layer = more.layer ∙ layer2;
      ready = more.ready
          ∙ ap (λ b. b || some_act (makes_ready j at) rest) (ready_one s j entry.caller entry.act job at slot legal.0
          there is)
          ∙ or_more (is_ready slot.standing) (makes_ready j at entry.act) (some_act (makes_ready j at) rest);
      opened = more.opened
          ∙ ap (λ b. b && not (some_act (looks_at j at) rest)) (open_one s j entry.caller entry.act job at slot
          legal.0 there is)
          ∙ and_more (is_open slot.standing) (looks_at j at entry.act) (some_act (looks_at j at) rest);
      touched = λ live.
          let ids = deps job.project slot.layer in
          let live2 : next.ended ≡ None = or_is_none next.ended (first_end next.canvas j rest) (sym (end_more j rest
          next) ∙ live) in
          let live1 : job.ended ≡ None = or_is_none job.ended _ (sym (end_one j entry.caller entry.act job) ∙ live2)
          in
          more.touched live
          ∙ (λ i. slot2.touched || list_any (λ e. touches_any e (deps (project2 i) (layer2 i))) (edits rest))
          ∙ ap (λ b. b || list_any (λ e. touches_any e ids) (edits rest)) (touched_one j entry.caller entry.act job
          at slot live1)
          ∙ or_more slot.touched (act_touches ids entry.act) (list_any (λ e. touches_any e ids) (edits rest))
          ∙ ap (λ b. slot.touched || b) (sym (any_cons (λ e. touches_any e ids) (accepted_edit entry.act) (edits
          rest)));
    }

-- ---- the laws

pub some_none : {A : Type 0} (x : A) → Some x ≡ None → ⊥
some_none x h = absurd cc

-- a place of which a job behind a journal has a slot had one at the start
pub slots_none : (j : ℕ) (rest : List Entry) (job : Job) (at : ℕ) → slice_get job.slots at ≡ None → slice_get (fold
    (job_does j) job rest).slots at ≡ None
slots_none j [] job at h = h
slots_none j (entry ∷ rest) job at h =
    slots_none j rest (job_does j job entry) at (slot_one j entry.caller entry.act job at ∙ ap (option_map
    (slot_does j at job entry.caller entry.act)) h)

-- what became of the slot of a job that is started there
pub record SlotNow (j at : ℕ) (job : Job) (slot : Slot) (rest : List Entry) : Type 0 where
  pub ready : is_ready slot.standing ≡ some_act (makes_ready j at) rest
  pub opened : is_open slot.standing ≡ not (some_act (looks_at j at) rest)
  pub touched : job.ended ≡ None → slot.touched ≡ list_any (λ e. touches_any e (deps job.project slot.layer)) (edits
      rest)

pub slot_now : (o : Opening) (past rest : List Entry) (who c j at : ℕ) → IsLegal o (started_between past who c j
    rest)
    → (job : Job) (slot : Slot) → job_in (replay o (started_between past who c j rest)).jobs j ≡ Some job
    → slice_get job.slots at ≡ Some slot → SlotNow j at job slot rest
slot_now o past rest who c j at legal job slot there is =
    by (slice_get (slots (replay o past).project (began o past rest who c j legal).view) at) refl
  where
    by : (l : Option Layer) → slice_get (slots (replay o past).project (began o past rest who c j legal).view) at ≡
        l
        → SlotNow j at job slot rest
    by None none =
        let b = began o past rest who c j legal in
        let first = new_job c (replay o past).project b.view in
        let same : job ≡ fold (job_does j) first rest = same_some (job_in (replay o (started_between past who c j
        rest)).jobs j) there b.job_is in
        let gone = slots_none j rest first at (at_map new_slot (slots (replay o past).project b.view) at ∙ ap
        (option_map new_slot) none) in
        absurd (some_none slot (sym is ∙ ap (λ (k : Job). slice_get k.slots at) same ∙ gone))
    by (Some l) some =
        let b = began o past rest who c j legal in
        let first = new_job c (replay o past).project b.view in
        let same : job ≡ fold (job_does j) first rest = same_some (job_in (replay o (started_between past who c j
        rest)).jobs j) there b.job_is in
        let more = slot_more (after (replay o past) (entry_of who (act.Start c j))) rest j first at (new_slot l)
        b.legal b.new_is (at_map new_slot (slots (replay o past).project b.view) at ∙ ap (option_map new_slot)
        some) in
        let now : slot ≡ more.now = same_some (slice_get job.slots at) is (ap (λ (k : Job). slice_get k.slots at)
        same ∙ more.is) in
        let project : job.project ≡ first.project = ap (λ (k : Job). k.project) same ∙ fixed_more (λ (k : Job).
        k.project) (record { slots = λ job slots. refl; composer = λ job o. refl; ended = λ job o. refl }) j rest
        first in
        let layer : slot.layer ≡ l.core.id = ap (λ (x : Slot). x.layer) now ∙ more.layer in
        record {
          ready = ap (λ (x : Slot). is_ready x.standing) now ∙ more.ready;
          opened = ap (λ (x : Slot). is_open x.standing) now ∙ more.opened;
          touched = λ live. ap (λ (x : Slot). x.touched) now ∙ more.touched (ap (λ (k : Job). k.ended) (sym same) ∙
              live)
              ∙ sym (λ i. list_any (λ e. touches_any e (deps (project i) (layer i))) (edits rest));
        }

pub slots_are_as_looked : SlotsAreAsLooked
slots_are_as_looked o past rest who c j at legal job slot there is =
    let r = slot_now o past rest who c j at legal job slot there is in (r.opened, r.ready)

pub touched_by_edits : TouchedByEdits
touched_by_edits o past rest who c j at legal job slot there is live =
    (slot_now o past rest who c j at legal job slot there is).touched live

-- ---- the composer

composer_where : (b : Bool) (who : ℕ) (job : Job) → is_none (if b then composed_by who job else job).composer ≡
    (is_none job.composer && not b)
composer_where true who job = and_false (is_none job.composer)
composer_where false who job = and_true (is_none job.composer)

stays_composer : (b : Bool) (change : Job → Job) (job : Job) → (change job).composer ≡ job.composer → is_none (if b
    then change job else job).composer ≡ (is_none job.composer && true)
stays_composer true change job same = ap is_none same ∙ and_true (is_none job.composer)
stays_composer false change job same = and_true (is_none job.composer)

edited_composer : (b : Bool) (e : Edit) (job : Job) → (if b then job else record job {
  slots = map (slot_edited
      job.project e) job.slots;
}).composer ≡ job.composer
edited_composer true e job = refl
edited_composer false e job = refl

edit_composer : (e : Edit) (v : Option EditError) (job : Job) → is_none (edit_does e v job).composer ≡ (is_none
    job.composer && true)
edit_composer e None job = ap is_none (edited_composer (is_some job.ended) e job) ∙ and_true (is_none job.composer)
edit_composer e (Some error) job = and_true (is_none job.composer)

pub composer_one : (j who : ℕ) (a : Act) (job : Job) → is_none (does j who a job).composer ≡ (is_none job.composer && not
    (composes j a))
composer_one j who (act.Edit e v) job = edit_composer e v job
composer_one j who (act.View c view) job = and_true (is_none job.composer)
composer_one j who (act.Start c k) job = stays_composer (job.canvas == c) (with_end Cancelled) job refl
composer_one j who (act.Look k i hit) job = stays_composer (k == j) (stands_at i (looked who hit)) job refl
composer_one j who (act.Deliver k i fate) job = stays_composer (k == j) (stands_at i (delivered fate)) job refl
composer_one j who (act.Compose k) job = composer_where (k == j) who job
composer_one j who (act.Finish k) job = stays_composer (k == j) (with_end Finished) job refl
composer_one j who (act.Fail k) job = stays_composer (k == j) (with_end NoMemory) job refl
composer_one j who (act.Cancel k) job = stays_composer (k == j) (with_end Cancelled) job refl
composer_one j who (act.Preview k bits) job = and_true (is_none job.composer)
composer_one j who (act.Save c k) job = and_true (is_none job.composer)

composer_more : (j : ℕ) (rest : List Entry) (job : Job) → is_none (fold (job_does j) job rest).composer ≡ (is_none
    job.composer && not (some_act (composes j) rest))
composer_more j [] job = and_true (is_none job.composer)
composer_more j (entry ∷ rest) job =
    composer_more j rest (job_does j job entry)
    ∙ ap (λ b. b && not (some_act (composes j) rest)) (composer_one j entry.caller entry.act job)
    ∙ and_more (is_none job.composer) (composes j entry.act) (some_act (composes j) rest)

pub composer_is_of_compose : ComposerIsOfCompose
composer_is_of_compose o past rest who c j legal =
    let b = began o past rest who c j legal in
    subst (λ o2. IsSomeAnd o2 (λ (job : Job). is_none job.composer ≡ not (some_act (composes j) rest))) (sym
    b.job_is)
    (composer_more j rest (new_job c (replay o past).project b.view))
