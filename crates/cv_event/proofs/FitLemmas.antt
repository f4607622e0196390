-- The numbers of a legal journal's acts are of their types.
use Rattle.std.proofs.Common.{◌≡◌, ◌∙◌, sym, ap, refl, subst, ℕ, zero, suc, ◌+◌, ◌*◌, ◌^◌, ◌<◌, ◌≤◌, ◌==◌, Bool, true, false}
use Rattle.std.proofs.Common.{List, [], ◌∷◌, ◌++◌, length, map, filter, Option, Some, None, is_some}
use Rattle.std.proofs.Common.{slice_get, option_map, option_and_then, IsSomeAnd, fold, arith, if◌then◌else◌, nat_lt, nat_le}
use Rattle.std.proofs.Common.{ℤ, pos, negsuc, ◌+ℤ◌, ◌*ℤ◌, ◌≤ℤ◌}
use Rattle.std.specs.Int.Signed.{mag}
use Rattle.std.specs.List.{AllByRecursion}
use Rattle.std.specs.Option.{option_or}
use Rattle.std.proofs.lemmas.Bool.Decides.{nat_tests}
use Rattle.std.proofs.lemmas.Bool.{false≢true}
use Rattle.std.proofs.lemmas.Int.{ints}
use Rattle.std.proofs.lemmas.List.{length-map, length-reverse}
use Rattle.std.proofs.Math.Nat.{le-mul_of_pos_right, pow-succ', one-le-pow}
use Rattle.cv_model.specs.declared.edit.Edit.{Edit}
use Rattle.cv_model.specs.declared.edit.EditError.{EditError}
use Rattle.cv_model.specs.declared.edit.EditError.TheVariants as error
use Rattle.cv_model.specs.declared.project.CanvasSpec.{CanvasSpec}
use Rattle.cv_model.specs.Positions.{IsDoubled}
use Rattle.cv_model.specs.Views.{PixelGrid, IsView}
use Rattle.cv_model.specs.Layers.{Project, Opening, is_slot, slots}
use Rattle.cv_model.specs.Edits.{step, step_layers, is_over, most_edits, names_too_much, first_refusal, verdict}
use Rattle.cv_model.specs.Edits.{lacks_layer, lacks_feature, is_wrong_kind, is_duplicate, passes_limit, is_bad_place}
use Rattle.cv_event.specs.declared.entry.Act.{Act}
use Rattle.cv_event.specs.declared.entry.Act.TheVariants as act
use Rattle.cv_event.specs.declared.entry.Entry.{Entry}
use Rattle.cv_event.specs.declared.entry.Fate.{Fate}
use Rattle.cv_event.specs.declared.entry.How.TheVariants.{Finished, Cancelled, NoMemory}
use Rattle.cv_event.specs.declared.slot.Slot.{Slot}
use Rattle.cv_event.specs.declared.slot.Standing.{Standing}
use Rattle.cv_event.specs.declared.slot.Standing.TheVariants.{Missed}
use Rattle.cv_event.specs.States.{Taken, Job, Canvas, State, change_at, job_in, change_job, view_on, slot_edited}
use Rattle.cv_event.specs.States.{job_edited, with_end, cancelled_on, new_slot, new_job, started, looked, delivered}
use Rattle.cv_event.specs.States.{slot_stands, stands_at, composed_by, did, after, new_canvas, begin}
use Rattle.cv_event.specs.Legality.{is_ready, ready_bits, fate_of, Allows, LegalFrom}
use Rattle.cv_event.specs.Histories.{taken}
use Rattle.cv_event.specs.Readings.{IsShort, HasTypes, FitsAct}
use Rattle.cv_event.specs.JobLaws.{IsJudged, NoMemoryNeverStands}
use Rattle.cv_event.specs.ShownLaws.{published_on, is_on, finished_by}
use Rattle.cv_event.specs.TextLaws.{FitsSpec, FitsOpening, LegalActsFit, JobsHaveFewSlots}
use Rattle.cv_event.proofs.SlotLemmas.{look_is, open_slot_is}
use Rattle.cv_event.proofs.PresentLemmas.{all_map, all_change, all_more, all_at, neither}
use Rattle.cv_event.proofs.TakenLemmas.{project_one}
use Rattle.cv_event.proofs.ShownLemmas.{settled_one, presence, presence_seen, IsThere, publish_one}
use Rattle.cv_event.proofs.DueLemmas.{compose_is, spec_first}

-- ---- views

mag_doubled : (z : ℤ) → IsDoubled z → mag z < 2 ^ 63
mag_doubled (pos n) h = omega (arith, ints, h.1)
mag_doubled (negsuc n) h = omega (arith, ints, h.0)

mag_unit : (left u : ℤ) (w : ℕ) → 1 ≤ w → pos 1 ≤ℤ u → IsDoubled left → IsDoubled (left +ℤ pos (2 * w) *ℤ u)
    → mag u < 2 ^ 63
mag_unit left (negsuc n) w wide unit a b = absurd (omega (arith, ints, unit))
mag_unit left (pos n) w wide unit a b =
    let most : n ≤ n * (2 * w) = le-mul_of_pos_right n (omega (arith, wide)) in
    let product : pos (2 * w) *ℤ pos n ≡ pos (n * (2 * w)) = omega (arith, ints) in
    omega (arith, ints, most, product, a.0, b.1)

fits_view : (view : PixelGrid) → IsView view → IsShort view.w → IsShort view.h → HasTypes view
fits_view view is wide high = record {
  left = mag_doubled view.lx2 is.left;
  top = mag_doubled view.ty2 is.top;
  unit = mag_unit view.lx2 view.u view.w is.wide is.unit is.left is.right;
  width = wide;
  height = high;
}

-- ---- places

place_is : {A : Type 0} (xs : List A) (i : ℕ) (x : A) → slice_get xs i ≡ Some x → i < length xs
place_is [] i x h = absurd cc
place_is (y ∷ xs) zero x h = omega arith
place_is (y ∷ xs) (suc i) x h = omega (arith, place_is xs i x h)

job_place : (jobs : List Job) (j : ℕ) (job : Job) → job_in jobs j ≡ Some job → j ≤ length jobs
job_place jobs zero job h = absurd cc
job_place jobs (suc before) job h = omega (arith, place_is jobs before job h)

length_change : {A : Type 0} (i : ℕ) (change : A → A) (xs : List A) → length (change_at i change xs) ≡ length xs
length_change i change [] = refl
length_change zero change (x ∷ xs) = refl
length_change (suc i) change (x ∷ xs) = ap suc (length_change i change xs)

pub length_job : (j : ℕ) (change : Job → Job) (jobs : List Job) → length (change_job j change jobs) ≡ length jobs
length_job zero change jobs = refl
length_job (suc before) change jobs = length_change before change jobs

pub length_one : {A : Type 0} (xs : List A) (x : A) → length (xs ++ x ∷ []) ≡ suc (length xs)
length_one [] x = refl
length_one (y ∷ xs) x = ap suc (length_one xs x)

few_passed : {A : Type 0} (test : A → Bool) (xs : List A) → length (filter test xs) ≤ length xs
few_passed test [] = omega arith
few_passed {A} test (x ∷ xs) = by (test x) (few_passed test xs)
  where
    by : (b : Bool) → length (filter test xs) ≤ length xs
        → length (if b then x ∷ filter test xs else filter test xs) ≤ suc (length xs)
    by true few = omega (arith, few)
    by false few = omega (arith, few)

-- ---- edits

-- what is accepted passes no test
passes : (a b c d e f : Bool) (u v w x y z : EditError)
    → first_refusal ((a, u) ∷ (b, v) ∷ (c, w) ∷ (d, x) ∷ (e, y) ∷ (f, z) ∷ []) ≡ None → e ≡ false
passes true b c d e f u v w x y z h = absurd cc
passes false true c d e f u v w x y z h = absurd cc
passes false false true d e f u v w x y z h = absurd cc
passes false false false true e f u v w x y z h = absurd cc
passes false false false false true f u v w x y z h = absurd cc
passes false false false false false f u v w x y z h = refl

not_below : (a b : ℕ) → nat_lt a b ≡ false → b ≤ a
not_below a b h = grind (arith, nat_tests)

few_layers : (p : Project) (k : ℕ) (e : Edit) → None ≡ verdict p k e → length (step p e).layers ≤ 32
unfolding verdict is_over
few_layers p k e h =
    let limit = passes (lacks_layer p.layers e) (lacks_feature p.layers e) (is_wrong_kind p.layers e)
    (is_duplicate p.layers e) (passes_limit p.layers k e) (is_bad_place p.layers e) _ _ _ _ _ _ (sym h) in
    let behind = neither (nat_le most_edits k) _ limit in
    let over = neither (is_over (step_layers p.layers e)) (names_too_much e) behind.1 in
    let layers = neither (nat_lt 32 (length (step_layers p.layers e))) _ over.0 in
    not_below 32 (length (step_layers p.layers e)) layers.0

-- ---- what stays small

abbrev IsFewJob : Job → Type 0
IsFewJob job = length job.slots ≤ 32

pub record Fit (o : Opening) (s : State) : Type 0 where
  pub layers : length s.project.layers ≤ 32
  pub jobs : length s.jobs ≤ 4294967295
  pub slots : AllByRecursion IsFewJob s.jobs
  pub specs : (c : ℕ) → option_and_then (λ (k : Canvas). Some k.spec) (slice_get s.canvases c) ≡ slice_get o.canvases c
  pub published : (c : ℕ) → IsThere s c → (t : Taken) → published_on s c ≡ Some t → t.job ≤ length s.jobs

layers_one : (s : State) (who : ℕ) (a : Act) → Allows s who a → length s.project.layers ≤ 32
    → length (did s who a).project.layers ≤ 32
layers_one s who (act.Edit e None) allowed few = few_layers s.project s.accepted e allowed
layers_one s who (act.Edit e (Some error)) allowed few = few
layers_one s who (act.View c view) allowed few = few
layers_one s who (act.Start c j) allowed few =
    subst (λ (p : Project). length p.layers ≤ 32) (sym (project_one s who (act.Start c j))) few
layers_one s who (act.Look j at hit) allowed few = few
layers_one s who (act.Deliver j at fate) allowed few = few
layers_one s who (act.Compose j) allowed few = few
layers_one s who (act.Finish j) allowed few = few
layers_one s who (act.Fail j) allowed few = few
layers_one s who (act.Cancel j) allowed few = few
layers_one s who (act.Preview j bits) allowed few = few
layers_one s who (act.Save c j) allowed few = few

-- jobs become more, and no more than can be numbered
abbrev Grows : State → State → Type 0
Grows s t = (length s.jobs ≤ length t.jobs) × (length t.jobs ≤ 4294967295)

stays_long : (s t : State) → length t.jobs ≡ length s.jobs → length s.jobs ≤ 4294967295 → Grows s t
stays_long s t same most = (omega (arith, same), omega (arith, same, most))

started_long : (s : State) (c j : ℕ) (v : Option PixelGrid) → is_some v ≡ true → j ≡ suc (length s.jobs) → j ≤ 4294967295
    → Grows s (started c v s)
started_long s c j None there number most = absurd (false≢true there)
started_long s c j (Some view) there number most =
    let longer : length (started c (Some view) s).jobs ≡ suc (length s.jobs) =
    length_one (map (cancelled_on c) s.jobs) (new_job c s.project view) ∙ ap suc (length-map s.jobs (cancelled_on c)) in
    (omega (arith, longer), omega (arith, longer, number, most))

jobs_one : (s : State) (who : ℕ) (a : Act) → Allows s who a → length s.jobs ≤ 4294967295 → Grows s (did s who a)
jobs_one s who (act.Edit e None) allowed most =
    stays_long s (did s who (act.Edit e None)) (length-map s.jobs (job_edited e)) most
jobs_one s who (act.Edit e (Some error)) allowed most = stays_long s s refl most
jobs_one s who (act.View c view) allowed most = stays_long s (did s who (act.View c view)) refl most
jobs_one s who (act.Start c j) allowed most =
    started_long s c j (view_on s c) allowed.0 allowed.1 allowed.2
jobs_one s who (act.Look j at hit) allowed most =
    stays_long s (did s who (act.Look j at hit)) (length_job j (stands_at at (looked who hit)) s.jobs) most
jobs_one s who (act.Deliver j at fate) allowed most =
    stays_long s (did s who (act.Deliver j at fate)) (length_job j (stands_at at (delivered fate)) s.jobs) most
jobs_one s who (act.Compose j) allowed most =
    stays_long s (did s who (act.Compose j)) (length_job j (composed_by who) s.jobs) most
jobs_one s who (act.Finish j) allowed most =
    stays_long s (did s who (act.Finish j)) (length_job j (with_end Finished) s.jobs) most
jobs_one s who (act.Fail j) allowed most =
    stays_long s (did s who (act.Fail j)) (length_job j (with_end NoMemory) s.jobs) most
jobs_one s who (act.Cancel j) allowed most =
    stays_long s (did s who (act.Cancel j)) (length_job j (with_end Cancelled) s.jobs) most
jobs_one s who (act.Preview j bits) allowed most = stays_long s s refl most
jobs_one s who (act.Save c j) allowed most = stays_long s s refl most

-- jobs keep their few slots
few_in : (j : ℕ) (change : Job → Job) (jobs : List Job) → ((job : Job) → IsFewJob job → IsFewJob (change job))
    → AllByRecursion IsFewJob jobs → AllByRecursion IsFewJob (change_job j change jobs)
few_in zero change jobs keeps few = few
few_in (suc before) change jobs keeps few = all_change IsFewJob change keeps jobs before few

few_stand : (at : ℕ) (standing : Standing) (job : Job) → IsFewJob job → IsFewJob (stands_at at standing job)
few_stand at standing job few = omega (arith, few, length_change at (slot_stands standing) job.slots)

few_edited : (e : Edit) (job : Job) → IsFewJob job → IsFewJob (job_edited e job)
few_edited e job few = by (is_some job.ended)
  where
    by : (b : Bool) → IsFewJob (if b then job else record job { slots = map (slot_edited job.project e) job.slots })
    by true = few
    by false = omega (arith, few, length-map job.slots (slot_edited job.project e))

few_cancelled : (c : ℕ) (job : Job) → IsFewJob job → IsFewJob (cancelled_on c job)
few_cancelled c job few = by (job.canvas == c)
  where
    by : (b : Bool) → IsFewJob (if b then with_end Cancelled job else job)
    by true = few
    by false = few

few_new : (c : ℕ) (p : Project) (view : PixelGrid) → length p.layers ≤ 32 → IsFewJob (new_job c p view)
few_new c p view few =
    omega (arith, few, length-map (slots p view) new_slot, length-reverse (filter (is_slot view) p.layers), few_passed (is_slot view) p.layers)

few_started : (s : State) (c : ℕ) (v : Option PixelGrid) → length s.project.layers ≤ 32 → AllByRecursion IsFewJob s.jobs
    → AllByRecursion IsFewJob (started c v s).jobs
few_started s c None layers few = few
few_started s c (Some view) layers few =
    all_more IsFewJob (map (cancelled_on c) s.jobs) (new_job c s.project view ∷ [])
    (all_map IsFewJob IsFewJob (cancelled_on c) (few_cancelled c) s.jobs few)
    (few_new c s.project view layers, tt)

slots_one : (s : State) (who : ℕ) (a : Act) → length s.project.layers ≤ 32 → AllByRecursion IsFewJob s.jobs
    → AllByRecursion IsFewJob (did s who a).jobs
slots_one s who (act.Edit e None) layers few = all_map IsFewJob IsFewJob (job_edited e) (few_edited e) s.jobs few
slots_one s who (act.Edit e (Some error)) layers few = few
slots_one s who (act.View c view) layers few = few
slots_one s who (act.Start c j) layers few = few_started s c (view_on s c) layers few
slots_one s who (act.Look j at hit) layers few =
    few_in j (stands_at at (looked who hit)) s.jobs (few_stand at (looked who hit)) few
slots_one s who (act.Deliver j at fate) layers few =
    few_in j (stands_at at (delivered fate)) s.jobs (few_stand at (delivered fate)) few
slots_one s who (act.Compose j) layers few = few_in j (composed_by who) s.jobs (λ job h. h) few
slots_one s who (act.Finish j) layers few = few_in j (with_end Finished) s.jobs (λ job h. h) few
slots_one s who (act.Fail j) layers few = few_in j (with_end NoMemory) s.jobs (λ job h. h) few
slots_one s who (act.Cancel j) layers few = few_in j (with_end Cancelled) s.jobs (λ job h. h) few
slots_one s who (act.Preview j bits) layers few = few
slots_one s who (act.Save c j) layers few = few

-- what is published is of a job that is there
taken_place : (t : State) (j : ℕ) (x : Taken) → taken t j ≡ Some x → x.job ≤ length t.jobs
taken_place t j x h = by (job_in t.jobs j) refl h
  where
    by : (o : Option Job) → job_in t.jobs j ≡ o
        → option_map (λ (job : Job). record { job = j; project = job.project; view = job.view }) o ≡ Some x
        → x.job ≤ length t.jobs
    by None is h = absurd cc
    by (Some job) is h =
        let number : j ≡ x.job = cc in
        omega (arith, number, job_place t.jobs j job is)

finished_place : (t : State) (c : ℕ) (a : Act) (x : Taken) → finished_by t c a ≡ Some x → x.job ≤ length t.jobs
finished_place t c (act.Edit e v) x h = absurd cc
finished_place t c (act.View k view) x h = absurd cc
finished_place t c (act.Start k j) x h = absurd cc
finished_place t c (act.Look j at hit) x h = absurd cc
finished_place t c (act.Deliver j at fate) x h = absurd cc
finished_place t c (act.Compose j) x h = absurd cc
finished_place t c (act.Finish j) x h = by (is_on t c j) h
  where
    by : (b : Bool) → (if b then taken t j else None) ≡ Some x → x.job ≤ length t.jobs
    by true h = taken_place t j x h
    by false h = absurd cc
finished_place t c (act.Fail j) x h = absurd cc
finished_place t c (act.Cancel j) x h = absurd cc
finished_place t c (act.Preview j bits) x h = absurd cc
finished_place t c (act.Save k j) x h = absurd cc

published_one : (o : Opening) (s : State) (who c : ℕ) (a : Act) → Fit o s → Allows s who a → IsThere (did s who a) c
    → (x : Taken) → published_on (did s who a) c ≡ Some x → x.job ≤ length (did s who a).jobs
published_one o s who c a fit allowed there x h =
    by (finished_by (did s who a) c a) refl (sym (publish_one s [] who c a (allowed, tt) before) ∙ h)
  where
    before : IsThere s c
    before = sym (settled_one presence presence_seen (λ j job k. refl) s who c a) ∙ there

    by : (p : Option Taken) → finished_by (did s who a) c a ≡ p → option_or p (published_on s c) ≡ Some x
        → x.job ≤ length (did s who a).jobs
    by None is h = omega (arith, fit.published c before x h, (jobs_one s who a allowed fit.jobs).0)
    by (Some y) is h = finished_place (did s who a) c a x (is ∙ h)

fit_one : (o : Opening) (s : State) (who : ℕ) (a : Act) → Fit o s → Allows s who a → Fit o (did s who a)
fit_one o s who a fit allowed = record {
  layers = layers_one s who a allowed fit.layers;
  jobs = (jobs_one s who a allowed fit.jobs).1;
  slots = slots_one s who a fit.layers fit.slots;
  specs = λ c.
      settled_one (λ (k : Canvas). Some k.spec) (record { viewed = λ view k. refl; cache = λ cache k. refl })
      (λ j job k. refl) s who c a ∙ fit.specs c;
  published = λ c there x h. published_one o s who c a fit allowed there x h;
}

-- ---- the numbers of an act

spec_of : (o : Opening) (s : State) (c : ℕ) (k : Canvas) → FitsOpening o → Fit o s → slice_get s.canvases c ≡ Some k
    → IsShort c × FitsSpec k.spec
spec_of o s c k small fit is =
    let opened : slice_get o.canvases c ≡ Some k.spec =
    sym (fit.specs c) ∙ ap (option_and_then (λ (k : Canvas). Some k.spec)) is in
    (omega (arith, small.count, place_is o.canvases c k.spec opened), all_at FitsSpec o.canvases c k.spec small.sizes opened)

bits_below : (left : ℕ) (xs : List Slot) → length xs ≤ left → ready_bits xs < 2 ^ left
bits_below left [] few = one-le-pow left 2 (omega arith)
bits_below zero (x ∷ xs) few = absurd (omega (arith, few))
bits_below (suc left) (x ∷ xs) few = by (is_ready x.standing) (bits_below left xs (omega (arith, few)))
  where
    by : (b : Bool) → ready_bits xs < 2 ^ left → 2 * ready_bits xs + (if b then 1 else 0) < 2 ^ suc left
    by true below = omega (arith, below, pow-succ' 2 left)
    by false below = omega (arith, below, pow-succ' 2 left)

few_of : (jobs : List Job) (j : ℕ) (job : Job) → AllByRecursion IsFewJob jobs → job_in jobs j ≡ Some job → IsFewJob job
few_of jobs zero job few is = absurd cc
few_of jobs (suc before) job few is = all_at IsFewJob jobs before job few is

fits_looked : (o : Opening) (s : State) (who j at : ℕ) (hit : Bool) → Fit o s → Allows s who (act.Look j at hit)
    → IsShort j × IsShort at
fits_looked o s who j at hit fit allowed =
    let r = look_is 1 s.jobs j at allowed.0 in
    let q = open_slot_is 0 r.job.slots at r.open_is in
    let few = all_at IsFewJob s.jobs r.before r.job fit.slots r.job_is in
    (omega (arith, r.number, fit.jobs, place_is s.jobs r.before r.job r.job_is), omega (arith, q.number, few, place_is r.job.slots q.before q.slot q.slot_is))

fits_delivered : (o : Opening) (s : State) (who j at : ℕ) (fate : Fate) → Fit o s → Allows s who (act.Deliver j at fate)
    → IsShort j × IsShort at
fits_delivered o s who j at fate fit allowed = by (job_in s.jobs j) refl allowed
  where
    of_slot : (job : Job) → job_in s.jobs j ≡ Some job → (p : Option Slot) → slice_get job.slots at ≡ p
        → IsSomeAnd p (λ slot. (slot.standing ≡ Missed who) × (fate ≡ fate_of s job slot)) → IsShort j × IsShort at
    of_slot job there None is h = absurd h
    of_slot job there (Some slot) is h =
        (omega (arith, fit.jobs, job_place s.jobs j job there), omega (arith, few_of s.jobs j job fit.slots there, place_is job.slots at slot is))

    by : (p : Option Job) → job_in s.jobs j ≡ p
        → IsSomeAnd p (λ (job : Job). IsSomeAnd (slice_get job.slots at) (λ slot. (slot.standing ≡ Missed who) × (fate ≡ fate_of s job slot)))
        → IsShort j × IsShort at
    by None there h = absurd h
    by (Some job) there h = of_slot job there (slice_get job.slots at) refl h

-- a job that is there
fits_job : (o : Opening) (s : State) (j : ℕ) (P : Job → Type 0) → Fit o s → IsSomeAnd (job_in s.jobs j) P → IsShort j
fits_job o s j P fit h = by (job_in s.jobs j) refl h
  where
    by : (p : Option Job) → job_in s.jobs j ≡ p → IsSomeAnd p P → IsShort j
    by None there h = absurd h
    by (Some job) there h = omega (arith, fit.jobs, job_place s.jobs j job there)

fits_shown : (o : Opening) (s : State) (who j bits : ℕ) → Fit o s → Allows s who (act.Preview j bits) → IsShort bits
fits_shown o s who j bits fit allowed = by (job_in s.jobs j) refl allowed
  where
    by : (p : Option Job) → job_in s.jobs j ≡ p → IsSomeAnd p (λ job. (job.ended ≡ None) × (bits ≡ ready_bits job.slots))
        → IsShort bits
    by None there h = absurd h
    by (Some job) there h =
        subst (λ n. n < 2 ^ 32) (sym h.1) (bits_below 32 job.slots (few_of s.jobs j job fit.slots there))

fits_viewed : (o : Opening) (s : State) (who c : ℕ) (view : PixelGrid) → FitsOpening o → Fit o s
    → Allows s who (act.View c view) → IsShort c × HasTypes view
fits_viewed o s who c view small fit allowed = by (slice_get s.canvases c) refl allowed
  where
    by : (p : Option Canvas) → slice_get s.canvases c ≡ p
        → IsSomeAnd p (λ canvas. IsView view × (view.w ≡ canvas.spec.w) × (view.h ≡ canvas.spec.h))
        → IsShort c × HasTypes view
    by None is h = absurd h
    by (Some k) is h =
        let spec = spec_of o s c k small fit is in
        (spec.0, fits_view view h.0 (subst IsShort (sym h.1) spec.1.0) (subst IsShort (sym h.2) spec.1.1))

fits_started : (o : Opening) (s : State) (who c j : ℕ) → FitsOpening o → Fit o s → Allows s who (act.Start c j)
    → IsShort c × IsShort j
fits_started o s who c j small fit allowed = by (slice_get s.canvases c) refl allowed.0
  where
    by : (p : Option Canvas) → slice_get s.canvases c ≡ p → is_some (option_and_then (λ (k : Canvas). k.view) p) ≡ true
        → IsShort c × IsShort j
    by None is h = absurd (false≢true h)
    by (Some k) is h = ((spec_of o s c k small fit is).0, omega (arith, allowed.2))

fits_saved : (o : Opening) (s : State) (who c j : ℕ) → FitsOpening o → Fit o s → Allows s who (act.Save c j)
    → IsShort c × IsShort j
fits_saved o s who c j small fit allowed = by (slice_get s.canvases c) refl allowed
  where
    of_published : (k : Canvas) → slice_get s.canvases c ≡ Some k → (p : Option Taken) → k.published ≡ p
        → IsSomeAnd p (λ t. t.job ≡ j) → IsShort j
    of_published k is None shown h = absurd h
    of_published k is (Some t) shown h =
        omega (arith, h, fit.jobs, fit.published c (ap (option_and_then presence) is) t (ap (option_and_then (λ (k : Canvas). k.published)) is ∙ shown))

    by : (p : Option Canvas) → slice_get s.canvases c ≡ p
        → IsSomeAnd p (λ canvas. IsSomeAnd canvas.published (λ t. t.job ≡ j)) → IsShort c × IsShort j
    by None is h = absurd h
    by (Some k) is h = ((spec_of o s c k small fit is).0, of_published k is k.published refl h)

fits_act : (o : Opening) (s : State) (who : ℕ) (a : Act) → FitsOpening o → Fit o s → Allows s who a → FitsAct a
fits_act o s who (act.Edit e v) small fit allowed = tt
fits_act o s who (act.View c view) small fit allowed = fits_viewed o s who c view small fit allowed
fits_act o s who (act.Start c j) small fit allowed = fits_started o s who c j small fit allowed
fits_act o s who (act.Look j at hit) small fit allowed = fits_looked o s who j at hit fit allowed
fits_act o s who (act.Deliver j at fate) small fit allowed = fits_delivered o s who j at fate fit allowed
fits_act o s who (act.Compose j) small fit allowed =
    let r = compose_is 1 s.jobs j allowed in
    omega (arith, r.number, fit.jobs, place_is s.jobs r.before r.job r.job_is)
fits_act o s who (act.Finish j) small fit allowed = fits_job o s j _ fit allowed
fits_act o s who (act.Fail j) small fit allowed = fits_job o s j _ fit allowed
fits_act o s who (act.Cancel j) small fit allowed = fits_job o s j _ fit allowed
fits_act o s who (act.Preview j bits) small fit allowed =
    (fits_job o s j _ fit allowed, fits_shown o s who j bits fit allowed)
fits_act o s who (act.Save c j) small fit allowed = fits_saved o s who c j small fit allowed

-- ---- the journal

acts_fit : (o : Opening) (s : State) (rest : List Entry) → FitsOpening o → Fit o s → LegalFrom s rest
    → AllByRecursion (λ (entry : Entry). FitsAct entry.act) rest
acts_fit o s [] small fit legal = tt
acts_fit o s (entry ∷ rest) small fit legal =
    (fits_act o s entry.caller entry.act small fit legal.0, acts_fit o (after s entry) rest small (fit_one o s entry.caller entry.act fit legal.0) legal.1)

none_published : (specs : List CanvasSpec) (c : ℕ) (t : Taken)
    → option_and_then (λ (k : Canvas). k.published) (slice_get (map new_canvas specs) c) ≡ Some t → t.job ≤ 0
none_published [] c t h = absurd cc
none_published (spec ∷ specs) zero t h = absurd cc
none_published (spec ∷ specs) (suc c) t h = none_published specs c t h

fit_first : (o : Opening) → FitsOpening o → Fit o (begin o)
fit_first o small = record {
  layers = small.layers;
  jobs = omega arith;
  slots = tt;
  specs = spec_first o.canvases;
  published = λ c there t h. none_published o.canvases c t h;
}

pub legal_acts_fit : LegalActsFit
legal_acts_fit o journal small legal = acts_fit o (begin o) journal small (fit_first o small) legal

fit_more : (o : Opening) (s : State) (rest : List Entry) → Fit o s → LegalFrom s rest → Fit o (fold after s rest)
fit_more o s [] fit legal = fit
fit_more o s (entry ∷ rest) fit legal =
    fit_more o (after s entry) rest (fit_one o s entry.caller entry.act fit legal.0) legal.1

pub jobs_have_few_slots : JobsHaveFewSlots
jobs_have_few_slots o journal small legal = (fit_more o (begin o) journal (fit_first o small) legal).slots

-- ---- verdicts

judged : (a b c d e f : Bool)
    → first_refusal ((a, error.UnknownLayer) ∷ (b, error.UnknownFeature) ∷ (c, error.WrongKind) ∷ (d, error.DuplicateId)
    ∷ (e, error.Limit) ∷ (f, error.BadPlace) ∷ [])
    ≡ Some error.NoMemory → ⊥
judged true b c d e f h = absurd cc
judged false true c d e f h = absurd cc
judged false false true d e f h = absurd cc
judged false false false true e f h = absurd cc
judged false false false false true f h = absurd cc
judged false false false false false true h = absurd cc
judged false false false false false false h = absurd cc

never_memory : (p : Project) (k : ℕ) (e : Edit) → verdict p k e ≡ Some error.NoMemory → ⊥
unfolding verdict
never_memory p k e h =
    judged (lacks_layer p.layers e) (lacks_feature p.layers e) (is_wrong_kind p.layers e) (is_duplicate p.layers e)
    (passes_limit p.layers k e) (is_bad_place p.layers e) h

judged_one : (s : State) (who : ℕ) (a : Act) → Allows s who a → IsJudged a
judged_one s who (act.Edit e v) allowed = λ h. never_memory s.project s.accepted e (sym allowed ∙ h)
judged_one s who (act.View c view) allowed = tt
judged_one s who (act.Start c j) allowed = tt
judged_one s who (act.Look j at hit) allowed = tt
judged_one s who (act.Deliver j at fate) allowed = tt
judged_one s who (act.Compose j) allowed = tt
judged_one s who (act.Finish j) allowed = tt
judged_one s who (act.Fail j) allowed = tt
judged_one s who (act.Cancel j) allowed = tt
judged_one s who (act.Preview j bits) allowed = tt
judged_one s who (act.Save c j) allowed = tt

judged_all : (s : State) (rest : List Entry) → LegalFrom s rest → AllByRecursion (λ (entry : Entry). IsJudged entry.act) rest
judged_all s [] legal = tt
judged_all s (entry ∷ rest) legal = (judged_one s entry.caller entry.act legal.0, judged_all (after s entry) rest legal.1)

pub no_memory_never_stands : NoMemoryNeverStands
no_memory_never_stands o journal legal = judged_all (begin o) journal legal
