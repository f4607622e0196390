-- How a job ends: the laws of ends.
use Rattle.std.proofs.Common.{◌≡◌, ◌∙◌, sym, ap, refl, ℕ, ◌==◌, Bool, true, false, List, [], ◌∷◌}
use Rattle.std.proofs.Common.{Option, Some, None, is_some, slice_get, option_and_then, IsSomeAnd, fold, arith}
use Rattle.std.proofs.Common.{if◌then◌else◌, map, subst}
use Rattle.std.specs.List.{AllByRecursion}
use Rattle.std.specs.Option.{option_or}
use Rattle.std.proofs.lemmas.Bool.Decides.{nat_tests}
use Rattle.cv_model.specs.declared.edit.Edit.{Edit}
use Rattle.cv_model.specs.declared.edit.EditError.{EditError}
use Rattle.cv_event.specs.declared.entry.Act.{Act}
use Rattle.cv_event.specs.declared.entry.Act.TheVariants as act
use Rattle.cv_event.specs.declared.entry.Entry.{Entry}
use Rattle.cv_event.specs.declared.entry.Fate.{Fate}
use Rattle.cv_event.specs.declared.entry.Fate.TheVariants.{Dropped}
use Rattle.cv_event.specs.declared.entry.How.{How}
use Rattle.cv_event.specs.declared.entry.How.TheVariants.{Finished, Cancelled, NoMemory}
use Rattle.cv_event.specs.declared.slot.Slot.{Slot}
use Rattle.cv_event.specs.declared.slot.Standing.TheVariants.{Missed}
use Rattle.cv_event.specs.States.{slot_edited}
use Rattle.cv_event.specs.States.{Job, State, job_in, job_edited, with_end, new_job, looked}
use Rattle.cv_event.specs.States.{delivered, stands_at, composed_by, after, begin, replay}
use Rattle.cv_event.specs.Legality.{Allows, LegalFrom, how, fate_of}
use Rattle.cv_event.specs.Histories.{ends, first_end}
use Rattle.cv_event.specs.Laws.{entry_of, EndIsFirst, EndsStay, IsVoid, EndedJobsAreVoid}
use Rattle.cv_event.specs.Laws.{CancelledJobsAreVoid, SupersededJobsAreVoid}
use Rattle.cv_event.proofs.JobLemmas.{edit_does, does, job_does, after_one, job_after, legal_parts}
use Rattle.cv_event.proofs.JobLemmas.{replayed, began}

-- ---- an end and an act

pub or_none : {A : Type 0} (o : Option A) → option_or o None ≡ o
or_none None = refl
or_none (Some x) = refl

pub or_more : {A : Type 0} (a b c : Option A) → option_or (option_or a b) c ≡ option_or a (option_or b c)
or_more None b c = refl
or_more (Some x) b c = refl

-- an end that is made where a test passes
end_where : (h : How) (b : Bool) (job : Job) → (if b then with_end h job else job).ended ≡ option_or job.ended (if b
    then Some h else None)
end_where h true job = refl
end_where h false job = sym (or_none job.ended)

-- a change that leaves the end
no_end_where : (b : Bool) (change : Job → Job) (job : Job) → (change job).ended ≡ job.ended
    → (if b then change job else job).ended ≡ option_or job.ended None
no_end_where true change job same = same ∙ sym (or_none job.ended)
no_end_where false change job same = sym (or_none job.ended)

edited_end : (e : Edit) (b : Bool) (job : Job) → is_some job.ended ≡ b → (job_edited e job).ended ≡ job.ended
edited_end e true job is = ap (λ (b : Bool). (if b then job else record job {
  slots = map (slot_edited job.project e)
      job.slots;
}).ended) is
edited_end e false job is = ap (λ (b : Bool). (if b then job else record job {
  slots = map (slot_edited job.project
      e) job.slots;
}).ended) is

edit_end : (e : Edit) (v : Option EditError) (job : Job) → (edit_does e v job).ended ≡ job.ended
edit_end e None job = edited_end e (is_some job.ended) job refl
edit_end e (Some error) job = refl

-- an act ends a job that had no end, where it is one of those that end it
pub end_one : (j who : ℕ) (a : Act) (job : Job) → (does j who a job).ended ≡ option_or job.ended (ends job.canvas j
    a)
end_one j who (act.Edit e v) job = edit_end e v job ∙ sym (or_none job.ended)
end_one j who (act.View c view) job = sym (or_none job.ended)
end_one j who (act.Start c k) job = end_where Cancelled (job.canvas == c) job
end_one j who (act.Look k at hit) job = no_end_where (k == j) (stands_at at (looked who hit)) job refl
end_one j who (act.Deliver k at fate) job = no_end_where (k == j) (stands_at at (delivered fate)) job refl
end_one j who (act.Compose k) job = no_end_where (k == j) (composed_by who) job refl
end_one j who (act.Finish k) job = end_where Finished (k == j) job
end_one j who (act.Fail k) job = end_where NoMemory (k == j) job
end_one j who (act.Cancel k) job = end_where Cancelled (k == j) job
end_one j who (act.Preview k bits) job = sym (or_none job.ended)
end_one j who (act.Save c k) job = sym (or_none job.ended)

-- ---- what stays of a job

-- a change that leaves a part of a job, where a test passes
pub stays_where : {A : Type 0} (part : Job → A) (b : Bool) (change : Job → Job) (job : Job) → part (change job) ≡ part
    job → part (if b then change job else job) ≡ part job
stays_where part true change job same = same
stays_where part false change job same = refl

pub edited_stays : {A : Type 0} (part : Job → A) (b : Bool) (job more : Job) → part more ≡ part job → part (if b then job
    else more) ≡ part job
edited_stays part true job more same = refl
edited_stays part false job more same = same

pub edit_stays : {A : Type 0} (part : Job → A) (e : Edit) (v : Option EditError) (job : Job) → part (job_edited e job) ≡
    part job → part (edit_does e v job) ≡ part job
edit_stays part e None job same = same
edit_stays part e (Some error) job same = refl

-- a part of a job that none of the changes touches
pub record IsFixed {A : Type 0} (part : Job → A) : Type 0 where
  pub slots : (job : Job) (slots : List Slot) → part (record job { slots = slots }) ≡ part job
  pub composer : (job : Job) (o : Option ℕ) → part (record job { composer = o }) ≡ part job
  pub ended : (job : Job) (o : Option How) → part (record job { ended = o }) ≡ part job

pub fixed_one : {A : Type 0} (part : Job → A) → IsFixed part → (j who : ℕ) (a : Act) (job : Job) → part (does j who a
    job) ≡ part job
fixed_one part fixed j who (act.Edit e v) job = edit_stays part e v job (edited_stays part (is_some job.ended) job _
    (fixed.slots job _))
fixed_one part fixed j who (act.View c view) job = refl
fixed_one part fixed j who (act.Start c k) job = stays_where part (job.canvas == c) (with_end Cancelled) job
    (fixed.ended job _)
fixed_one part fixed j who (act.Look k at hit) job = stays_where part (k == j) (stands_at at (looked who hit)) job
    (fixed.slots job _)
fixed_one part fixed j who (act.Deliver k at fate) job = stays_where part (k == j) (stands_at at (delivered fate))
    job (fixed.slots job _)
fixed_one part fixed j who (act.Compose k) job = stays_where part (k == j) (composed_by who) job (fixed.composer job
    _)
fixed_one part fixed j who (act.Finish k) job = stays_where part (k == j) (with_end Finished) job (fixed.ended job _)
fixed_one part fixed j who (act.Fail k) job = stays_where part (k == j) (with_end NoMemory) job (fixed.ended job _)
fixed_one part fixed j who (act.Cancel k) job = stays_where part (k == j) (with_end Cancelled) job (fixed.ended job
    _)
fixed_one part fixed j who (act.Preview k bits) job = refl
fixed_one part fixed j who (act.Save c k) job = refl

pub fixed_more : {A : Type 0} (part : Job → A) → IsFixed part → (j : ℕ) (rest : List Entry) (job : Job) → part (fold
    (job_does j) job rest) ≡ part job
fixed_more part fixed j [] job = refl
fixed_more part fixed j (entry ∷ rest) job =
    fixed_more part fixed j rest (job_does j job entry) ∙ fixed_one part fixed j entry.caller entry.act job

pub canvas_fixed : IsFixed (λ (job : Job). job.canvas)
canvas_fixed = record { slots = λ job slots. refl; composer = λ job o. refl; ended = λ job o. refl }

-- ---- an end and a journal

pub end_more : (j : ℕ) (rest : List Entry) (job : Job) → (fold (job_does j) job rest).ended ≡ option_or job.ended
    (first_end job.canvas j rest)
end_more j [] job = sym (or_none job.ended)
end_more j (entry ∷ rest) job =
    end_more j rest (job_does j job entry)
    ∙ ap (λ (c : ℕ). option_or (job_does j job entry).ended (first_end c j rest)) (fixed_one (λ (k : Job). k.canvas)
    canvas_fixed j entry.caller entry.act job)
    ∙ ap (λ o. option_or o (first_end job.canvas j rest)) (end_one j entry.caller entry.act job)
    ∙ or_more job.ended (ends job.canvas j entry.act) (first_end job.canvas j rest)

pub end_is_first : EndIsFirst
end_is_first o past rest who c j legal =
    let b = began o past rest who c j legal in
    ap (option_and_then (λ (job : Job). job.ended)) b.job_is ∙ end_more j rest (new_job c (replay o past).project
    b.view)

-- a job that is there and has an end keeps it
pub ended_more : (s : State) (rest : List Entry) (j : ℕ) (h : How) → LegalFrom s rest → how s j ≡ Some h → how (fold
    after s rest) j ≡ Some h
ended_more s rest j h legal is = by (job_in s.jobs j) refl is
  where
    by : (o : Option Job) → job_in s.jobs j ≡ o → option_and_then (λ (job : Job). job.ended) o ≡ Some h → how (fold
        after s rest) j ≡ Some h
    by None at has = absurd cc
    by (Some job) at has =
        ap (option_and_then (λ (job : Job). job.ended)) (job_after s rest j job legal at) ∙ end_more j rest job
        ∙ ap (λ o. option_or o (first_end job.canvas j rest)) has

pub ends_stay : EndsStay
ends_stay o past rest j h legal is =
    ap (λ (s : State). how s j) (replayed o past rest)
    ∙ ended_more (replay o past) rest j h (legal_parts (begin o) past rest legal).1 is

-- ---- nothing behind an end

-- an end of a job that is there
ended_is : (s : State) (j : ℕ) (h : How) (job : Job) → job_in s.jobs j ≡ Some job → how s j ≡ Some h → job.ended ≡
    Some h
ended_is s j h job at is = sym (ap (option_and_then (λ (job : Job). job.ended)) at) ∙ is

no_finish : (s : State) (who j k : ℕ) (h : How) → how s j ≡ Some h → Allows s who (act.Finish k) → k ≡ j → ⊥
no_finish s who j k h is allowed same = by (job_in s.jobs k) refl allowed
  where
    by : (o : Option Job) → job_in s.jobs k ≡ o → IsSomeAnd o (λ job. (job.composer ≡ Some who) × (job.ended ≡
        None)) → ⊥
    by None at never = never
    by (Some job) at had =
        let has = ended_is s j h job (ap (job_in s.jobs) (sym same) ∙ at) is in absurd cc

all_dropped : (s : State) (who j k at : ℕ) (h : How) (fate : Fate) → how s j ≡ Some h → Allows s who (act.Deliver k
    at fate) → k ≡ j → fate ≡ Dropped
all_dropped s who j k at h fate is allowed same = by (job_in s.jobs k) refl allowed
  where
    of_slot : (job : Job) (o : Option Slot) → job.ended ≡ Some h → IsSomeAnd o (λ slot. (slot.standing ≡ Missed who)
        × (fate ≡ fate_of s job slot)) → fate ≡ Dropped
    of_slot job None has never = absurd never
    of_slot job (Some slot) has had =
        had.1 ∙ ap (λ (e : Option How). fate_of s (record job { ended = e }) slot) has

    by : (o : Option Job) → job_in s.jobs k ≡ o → IsSomeAnd o (λ (job : Job). IsSomeAnd (slice_get job.slots at) (λ
        slot. (slot.standing ≡ Missed who) × (fate ≡ fate_of s job slot))) → fate ≡ Dropped
    by None there never = absurd never
    by (Some job) there had =
        of_slot job (slice_get job.slots at) (ended_is s j h job (ap (job_in s.jobs) (sym same) ∙ there) is) had

void_one : (s : State) (who j : ℕ) (h : How) (a : Act) → how s j ≡ Some h → Allows s who a → IsVoid j a
void_one s who j h (act.Edit e v) is allowed = tt
void_one s who j h (act.View c view) is allowed = tt
void_one s who j h (act.Start c k) is allowed = tt
void_one s who j h (act.Look k at hit) is allowed = tt
void_one s who j h (act.Deliver k at fate) is allowed = all_dropped s who j k at h fate is allowed
void_one s who j h (act.Compose k) is allowed = tt
void_one s who j h (act.Finish k) is allowed = no_finish s who j k h is allowed
void_one s who j h (act.Fail k) is allowed = tt
void_one s who j h (act.Cancel k) is allowed = tt
void_one s who j h (act.Preview k bits) is allowed = tt
void_one s who j h (act.Save c k) is allowed = tt

pub void_more : (s : State) (rest : List Entry) (j : ℕ) (h : How) → LegalFrom s rest → how s j ≡ Some h
    → AllByRecursion (λ (entry : Entry). IsVoid j entry.act) rest
void_more s [] j h legal is = tt
void_more s (entry ∷ rest) j h legal is = (
  void_one s entry.caller j h entry.act is legal.0,
  void_more (after s entry) rest j h legal.1 (ended_more s
      (entry ∷ []) j h (legal.0, tt) is),
)

pub ended_jobs_are_void : EndedJobsAreVoid
ended_jobs_are_void o past rest j h legal is =
    void_more (replay o past) rest j h (legal_parts (begin o) past rest legal).1 is

pub cancelled_jobs_are_void : CancelledJobsAreVoid
cancelled_jobs_are_void o past rest who j legal = by (job_in (replay o past).jobs j) refl (legal_parts (begin o) past
    (entry_of who (act.Cancel j) ∷ rest) legal).1
  where
    by : (o2 : Option Job) → job_in (replay o past).jobs j ≡ o2
        → LegalFrom (replay o past) (entry_of who (act.Cancel j) ∷ rest)
        → AllByRecursion (λ (entry : Entry). IsVoid j entry.act) rest
    by None at parts = absurd (subst (λ o3. IsSomeAnd o3 (λ (job : Job). job.ended ≡ None)) at parts.0)
    by (Some job) at parts =
        let s = replay o past in
        let none = subst (λ o3. IsSomeAnd o3 (λ (job : Job). job.ended ≡ None)) at parts.0 in
        let there = after_one s who (act.Cancel j) j job parts.0 at in
        let same : (j == j) ≡ true = grind (arith, nat_tests) in
        void_more (after s (entry_of who (act.Cancel j))) rest j Cancelled parts.1
        (ap (option_and_then (λ (job : Job). job.ended)) there
        ∙ end_one j who (act.Cancel j) job
        ∙ ap (λ b. option_or job.ended (if b then Some Cancelled else None)) same
        ∙ ap (λ o3. option_or o3 (Some Cancelled)) none)

-- an end that a job has, or is given
some_end : (o : Option How) (h : How) → (g : How) × (option_or o (Some h) ≡ Some g)
some_end None h = (h, refl)
some_end (Some g) h = (g, refl)

pub superseded_jobs_are_void : SupersededJobsAreVoid
superseded_jobs_are_void o past rest who c j k on legal = by (job_in (replay o past).jobs j) refl on (legal_parts
    (begin o) past (entry_of who (act.Start c k) ∷ rest) legal).1
  where
    by : (o2 : Option Job) → job_in (replay o past).jobs j ≡ o2 → IsSomeAnd o2 (λ (job : Job). job.canvas ≡ c)
        → LegalFrom (replay o past) (entry_of who (act.Start c k) ∷ rest)
        → AllByRecursion (λ (entry : Entry). IsVoid j entry.act) rest
    by None at never parts = absurd never
    by (Some job) at is parts =
        let s = replay o past in
        let there = after_one s who (act.Start c k) j job parts.0 at in
        let same : (job.canvas == c) ≡ true = grind (arith, nat_tests) in
        let end = some_end job.ended Cancelled in
        void_more (after s (entry_of who (act.Start c k))) rest j end.0 parts.1
        (ap (option_and_then (λ (job : Job). job.ended)) there
        ∙ end_one j who (act.Start c k) job
        ∙ ap (λ b. option_or job.ended (if b then Some Cancelled else None)) same
        ∙ end.1)
