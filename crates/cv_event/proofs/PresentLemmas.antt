-- Untouched slots of jobs without end show what the present project has, and what an act leaves in a cache.
use Rattle.std.proofs.Common.{◌≡◌, ◌∙◌, sym, ap, refl, ℕ, zero, suc, ◌==◌, Bool, true, false, not, cond, ◌&&◌, ◌||◌}
use Rattle.std.proofs.Common.{List, [], ◌∷◌, ◌++◌, map, filter, find, take, Option, Some, None, is_some, slice_get}
use Rattle.std.proofs.Common.{option_map, option_to_list, subst}
use Rattle.std.proofs.Common.{if◌then◌else◌}
use Rattle.std.specs.List.{AllByRecursion}
use Rattle.std.specs.Option.{option_or, option_map_or}
use Rattle.std.proofs.lemmas.Bool.{false≢true}
use Rattle.cv_model.specs.declared.edit.Edit.{Edit}
use Rattle.cv_model.specs.declared.edit.EditError.{EditError}
use Rattle.cv_model.specs.declared.project.CanvasSpec.{CanvasSpec}
use Rattle.cv_model.specs.Views.{PixelGrid}
use Rattle.cv_model.specs.Layers.{Core, Parts, Layer, Project, core_in, parts, parts_among, deps, deps_of}
use Rattle.cv_model.specs.Layers.{slots}
use Rattle.cv_model.specs.Edits.{step, touches_any}
use Rattle.cv_model.proofs.LawLemmas.{untouched_parts_stay}
use Rattle.cv_event.specs.declared.entry.Act.{Act}
use Rattle.cv_event.specs.declared.entry.Act.TheVariants as act
use Rattle.cv_event.specs.declared.entry.Fate.{Fate}
use Rattle.cv_event.specs.declared.entry.Fate.TheVariants.{Stored, Kept, Dropped}
use Rattle.cv_event.specs.declared.entry.How.{How}
use Rattle.cv_event.specs.declared.entry.How.TheVariants.{Finished, Cancelled, NoMemory}
use Rattle.cv_event.specs.declared.slot.Slot.{Slot}
use Rattle.cv_event.specs.declared.slot.Standing.{Standing}
use Rattle.cv_event.specs.States.{Job, Cached, Canvas, State, change_at, job_in, change_job, view_on, is_of}
use Rattle.cv_event.specs.States.{drop_first, to_front, put_front, stays, slot_edited, job_edited}
use Rattle.cv_event.specs.States.{with_end, cancelled_on, new_slot, new_job, started, looked, delivered}
use Rattle.cv_event.specs.States.{slot_stands, stands_at, composed_by, edit_made, did}
use Rattle.cv_event.specs.States.{new_canvas}
use Rattle.cv_event.specs.Legality.{shows, is_fresh, on_canvas, is_taken, fate_of}
use Rattle.cv_event.specs.Histories.{cached, capacity_on, image_on, cache_behind}
use Rattle.cv_event.proofs.EndLemmas.{IsFixed}
use Rattle.cv_event.proofs.TakenLemmas.{project_one}

-- ---- lists

pub all_map : {A B : Type 0} (P : A → Type 0) (Q : B → Type 0) (f : A → B) → ((x : A) → P x → Q (f x)) → (xs : List A) →
    AllByRecursion P xs → AllByRecursion Q (map f xs)
all_map P Q f keeps [] h = tt
all_map P Q f keeps (x ∷ xs) h = (keeps x h.0, all_map P Q f keeps xs h.1)

pub all_same : {A : Type 0} (P Q : A → Type 0) → ((x : A) → P x → Q x) → (xs : List A) → AllByRecursion P xs →
    AllByRecursion Q xs
all_same P Q keeps [] h = tt
all_same P Q keeps (x ∷ xs) h = (keeps x h.0, all_same P Q keeps xs h.1)

pub all_change : {A : Type 0} (P : A → Type 0) (f : A → A) → ((x : A) → P x → P (f x)) → (xs : List A) (i : ℕ) →
    AllByRecursion P xs → AllByRecursion P (change_at i f xs)
all_change P f keeps [] i h = tt
all_change P f keeps (x ∷ xs) zero h = (keeps x h.0, h.1)
all_change P f keeps (x ∷ xs) (suc i) h = (h.0, all_change P f keeps xs i h.1)

pub all_more : {A : Type 0} (P : A → Type 0) (xs ys : List A) → AllByRecursion P xs → AllByRecursion P ys →
    AllByRecursion P (xs ++ ys)
all_more P [] ys h g = g
all_more P (x ∷ xs) ys h g = (h.0, all_more P xs ys h.1 g)

pub all_at : {A : Type 0} (P : A → Type 0) (xs : List A) (i : ℕ) (x : A) → AllByRecursion P xs → slice_get xs i ≡ Some x
    → P x
all_at P [] i x h is = absurd cc
all_at P (y ∷ ys) zero x h is = let same : y ≡ x = cc in subst P same h.0
all_at P (y ∷ ys) (suc i) x h is = all_at P ys i x h.1 is

pub all_filter : {A : Type 0} (P Q : A → Type 0) (test : A → Bool) → ((x : A) → test x ≡ true → P x → Q x) → (xs : List
    A) → AllByRecursion P xs → AllByRecursion Q (filter test xs)
all_filter P Q test keeps [] h = tt
all_filter {A} P Q test keeps (x ∷ xs) h = by (test x) refl (all_filter P Q test keeps xs h.1)
  where
    by : (b : Bool) → test x ≡ b → AllByRecursion Q (filter test xs) → AllByRecursion Q (if b then x ∷ filter test xs
        else filter test xs)
    by true is more = (keeps x is h.0, more)
    by false is more = more

all_dropped_first : {A : Type 0} (P : A → Type 0) (test : A → Bool) (xs : List A) → AllByRecursion P xs →
    AllByRecursion P (drop_first test xs)
all_dropped_first P test [] h = tt
all_dropped_first {A} P test (x ∷ xs) h = by (test x) (all_dropped_first P test xs h.1)
  where
    by : (b : Bool) → AllByRecursion P (drop_first test xs) → AllByRecursion P (if b then xs else x ∷ drop_first test
        xs)
    by true more = h.1
    by false more = (h.0, more)

all_found : {A : Type 0} (P : A → Type 0) (test : A → Bool) (xs : List A) → AllByRecursion P xs → AllByRecursion P
    (option_to_list (find test xs))
all_found P test [] h = tt
all_found {A} P test (x ∷ xs) h = by (test x) (all_found P test xs h.1)
  where
    by : (b : Bool) → AllByRecursion P (option_to_list (find test xs)) → AllByRecursion P (option_to_list (cond b
        (Some x) (find test xs)))
    by true more = (h.0, tt)
    by false more = more

all_take : {A : Type 0} (P : A → Type 0) (n : ℕ) (xs : List A) → AllByRecursion P xs → AllByRecursion P (take n xs)
all_take P zero xs h = tt
all_take P (suc n) [] h = tt
all_take P (suc n) (x ∷ xs) h = (h.0, all_take P n xs h.1)

-- ---- untouched slots show present parts

-- equal parts have equal dependencies
deps_by_parts : (d : List ℕ) (layers : List Layer) (o : Option Core) → option_map_or deps_of o d ≡ option_map_or (λ
    (x : Parts). deps_of x.own) (option_map (parts_among layers) o) d
deps_by_parts d layers None = refl
deps_by_parts d layers (Some own) = refl

pub deps_same : (p q : Project) (id : ℕ) → parts p id ≡ parts q id → deps p id ≡ deps q id
deps_same p q id same =
    deps_by_parts (id ∷ []) p.layers (core_in p.layers id)
    ∙ ap (λ o. option_map_or (λ (x : Parts). deps_of x.own) o (id ∷ [])) same
    ∙ sym (deps_by_parts (id ∷ []) q.layers (core_in q.layers id))

-- a slot of a job with this project isn't touched, or shows what the present project has
abbrev pub IsFreshSlot : Project → Project → Slot → Type 0
IsFreshSlot present taken slot = slot.touched ≡ false → parts taken slot.layer ≡ parts present slot.layer

abbrev pub IsFreshJob : Project → Job → Type 0
IsFreshJob present job = job.ended ≡ None → AllByRecursion (IsFreshSlot present job.project) job.slots

pub neither : (a b : Bool) → (a || b) ≡ false → (a ≡ false) × (b ≡ false)
neither true b h = absurd (false≢true (sym h))
neither false b h = (refl, h)

fresh_edited : (present taken : Project) (e : Edit) (slot : Slot) → IsFreshSlot present taken slot → IsFreshSlot
    (step present e) taken (slot_edited taken e slot)
fresh_edited present taken e slot was h =
    let both = neither slot.touched (touches_any e (deps taken slot.layer)) h in
    let same = was both.0 in
    same ∙ sym (untouched_parts_stay present e slot.layer (ap (touches_any e) (sym (deps_same taken present
    slot.layer same)) ∙ both.1))

job_fresh_edited : (present : Project) (e : Edit) (job : Job) → IsFreshJob present job → IsFreshJob (step present e)
    (job_edited e job)
job_fresh_edited present e job was = by job.ended refl
  where
    by : (o : Option How) → job.ended ≡ o → IsFreshJob (step present e) (if is_some o then job else record job {
      slots
          = map (slot_edited job.project e) job.slots;
    })
    by (Some h) is live = absurd cc
    by None is live = all_map (IsFreshSlot present job.project) (IsFreshSlot (step present e) job.project)
        (slot_edited job.project e) (fresh_edited present job.project e) job.slots (was is)

-- a job that has an end
ended_fresh : (present : Project) (h : How) (job : Job) → IsFreshJob present (with_end h job)
ended_fresh present h job live = absurd (by job.ended live)
  where
    by : (o : Option How) → option_or o (Some h) ≡ None → ⊥
    by None h = absurd cc
    by (Some g) h = absurd cc

cancelled_fresh : (present : Project) (c : ℕ) (job : Job) → IsFreshJob present job → IsFreshJob present (cancelled_on
    c job)
cancelled_fresh present c job was = by (job.canvas == c)
  where
    by : (b : Bool) → IsFreshJob present (if b then with_end Cancelled job else job)
    by true = ended_fresh present Cancelled job
    by false = was

stands_fresh : (present : Project) (i : ℕ) (standing : Standing) (job : Job) → IsFreshJob present job → IsFreshJob
    present (stands_at i standing job)
stands_fresh present i standing job was live =
    all_change (IsFreshSlot present job.project) (slot_stands standing) (λ slot h. h) job.slots i (was live)

new_fresh : (project : Project) (layers : List Layer) → AllByRecursion (IsFreshSlot project project) (map new_slot
    layers)
new_fresh project [] = tt
new_fresh project (layer ∷ layers) = (λ h. refl, new_fresh project layers)

abbrev pub AllFresh : State → Type 0
AllFresh s = AllByRecursion (IsFreshJob s.project) s.jobs

change_fresh : (present : Project) (k : ℕ) (f : Job → Job) (jobs : List Job) → ((job : Job) → IsFreshJob present job
    → IsFreshJob present (f job))
    → AllByRecursion (IsFreshJob present) jobs → AllByRecursion (IsFreshJob present) (change_job k f jobs)
change_fresh present zero f jobs keeps h = h
change_fresh present (suc k) f jobs keeps h = all_change (IsFreshJob present) f keeps jobs k h

started_fresh : (s : State) (c : ℕ) (v : Option PixelGrid) → AllFresh s → AllFresh (started c v s)
started_fresh s c None h = h
started_fresh s c (Some view) h =
    all_more (IsFreshJob s.project) (map (cancelled_on c) s.jobs) (new_job c s.project view ∷ [])
    (all_map (IsFreshJob s.project) (IsFreshJob s.project) (cancelled_on c) (cancelled_fresh s.project c) s.jobs h)
    (λ live. new_fresh s.project (slots s.project view), tt)

made_fresh : (s : State) (e : Edit) (v : Option EditError) → AllFresh s → AllFresh (edit_made e v s)
made_fresh s e None h = all_map (IsFreshJob s.project) (IsFreshJob (step s.project e)) (job_edited e)
    (job_fresh_edited s.project e) s.jobs h
made_fresh s e (Some error) h = h

pub fresh_one : (s : State) (who : ℕ) (a : Act) → AllFresh s → AllFresh (did s who a)
fresh_one s who (act.Edit e v) h = made_fresh s e v h
fresh_one s who (act.View c view) h = h
fresh_one s who (act.Start c j) h = started_fresh s c (view_on s c) h
fresh_one s who (act.Look j i hit) h = change_fresh s.project j (stands_at i (looked who hit)) s.jobs (stands_fresh
    s.project i (looked who hit)) h
fresh_one s who (act.Deliver j i fate) h = change_fresh s.project j (stands_at i (delivered fate)) s.jobs
    (stands_fresh s.project i (delivered fate)) h
fresh_one s who (act.Compose j) h = change_fresh s.project j (composed_by who) s.jobs (λ job was. was) h
fresh_one s who (act.Finish j) h = change_fresh s.project j (with_end Finished) s.jobs (λ job was. ended_fresh
    s.project Finished job) h
fresh_one s who (act.Fail j) h = change_fresh s.project j (with_end NoMemory) s.jobs (λ job was. ended_fresh
    s.project NoMemory job) h
fresh_one s who (act.Cancel j) h = change_fresh s.project j (with_end Cancelled) s.jobs (λ job was. ended_fresh
    s.project Cancelled job) h
fresh_one s who (act.Preview j bits) h = h
fresh_one s who (act.Save c j) h = h

-- ---- images

-- an image that an act leaves
abbrev pub leaves : Project → Act → Cached → Bool
leaves project (act.Edit e None) image = stays project e image
leaves project _ image = true

pub not_touched : (b : Bool) → not b ≡ true → b ≡ false
not_touched true h = absurd (false≢true h)
not_touched false h = refl

parts_made : (s : State) (e : Edit) (v : Option EditError) (image : Cached) → leaves s.project (act.Edit e v) image ≡
    true → parts s.project image.layer ≡ parts (edit_made e v s).project image.layer
parts_made s e None image h = sym (untouched_parts_stay s.project e image.layer (not_touched _ h))
parts_made s e (Some error) image h = refl

pub parts_one : (s : State) (who : ℕ) (a : Act) (image : Cached) → leaves s.project a image ≡ true → parts s.project
    image.layer ≡ parts (did s who a).project image.layer
parts_one s who (act.Edit e v) image h = parts_made s e v image h
parts_one s who (act.View c view) image h = refl
parts_one s who (act.Start c j) image h = ap (λ p. parts p image.layer) (sym (project_one s who (act.Start c j)))
parts_one s who (act.Look j at hit) image h = refl
parts_one s who (act.Deliver j at fate) image h = refl
parts_one s who (act.Compose j) image h = refl
parts_one s who (act.Finish j) image h = refl
parts_one s who (act.Fail j) image h = refl
parts_one s who (act.Cancel j) image h = refl
parts_one s who (act.Preview j bits) image h = refl
parts_one s who (act.Save c j) image h = refl

pub project_fixed : IsFixed (λ (job : Job). job.project)
project_fixed = record { slots = λ job slots. refl; composer = λ job o. refl; ended = λ job o. refl }

pub view_fixed : IsFixed (λ (job : Job). job.view)
view_fixed = record { slots = λ job slots. refl; composer = λ job o. refl; ended = λ job o. refl }

-- what is stored is of a fresh slot
pub both_true : (a b : Bool) → (a && b) ≡ true → (a ≡ true) × (b ≡ true)
both_true true b h = (refl, h)
both_true false b h = absurd (false≢true h)

pub stored_fresh : (s : State) (job : Job) (slot : Slot) → Stored ≡ fate_of s job slot → (job.ended ≡ None) ×
    (slot.touched ≡ false)
stored_fresh s job slot h = by job.ended refl h
  where
    on : (o : Option Canvas) → option_map_or (λ canvas. is_taken canvas job slot) o false ≡ true → slot.touched ≡
        false
    on None h = absurd (false≢true h)
    on (Some canvas) h =
        let taken = both_true (is_fresh canvas job slot) _ h in
        let fresh = both_true (shows canvas job.view) (not slot.touched) taken.0 in not_touched slot.touched fresh.1

    kept : (b : Bool) → Stored ≡ (if b then Stored else Kept) → b ≡ true
    kept true h = refl
    kept false h = absurd cc

    by : (o : Option How) → job.ended ≡ o → Stored ≡ (if is_some o then Dropped else if on_canvas is_taken s job slot
        then Stored else Kept) → (job.ended ≡ None) × (slot.touched ≡ false)
    by None is h = (is, on (slice_get s.canvases job.canvas) (kept (on_canvas is_taken s job slot) h))
    by (Some g) is h = absurd cc

pub job_of : (P : Job → Type 0) (jobs : List Job) (j : ℕ) (job : Job) → AllByRecursion P jobs → job_in jobs j ≡ Some job
    → P job
job_of P jobs zero job h is = absurd cc
job_of P jobs (suc k) job h is = all_at P jobs k job h is

-- ---- a cache

fronted : (P : Cached → Type 0) (o : Option Cached) (cache : List Cached) → AllByRecursion P cache → AllByRecursion P
    (option_map_or (λ (image : Cached). to_front image.layer cache) o cache)
fronted P None cache h = h
fronted P (Some image) cache h = all_more P _ _ (all_found P (is_of image.layer) cache h) (all_dropped_first P (is_of
    image.layer) cache h)

put_in : (P : Cached → Type 0) (n : ℕ) (o : Option Cached) (cache : List Cached) → ((image : Cached) → o ≡ Some image
    → P image)
    → AllByRecursion P cache → AllByRecursion P (option_map_or (λ image. put_front n image cache) o cache)
put_in P n None cache new h = h
put_in P n (Some image) cache new h = all_take P n _ (
  new image refl,
  all_dropped_first P (is_of image.layer) cache
      h,
)

pub emptied : (P : Cached → Type 0) (a b : Bool) (cache : List Cached) → AllByRecursion P cache → AllByRecursion P (if a
    then (if b then cache else []) else cache)
emptied P true true cache h = h
emptied P true false cache h = tt
emptied P false b cache h = h

pub behind_looked : (P : Cached → Type 0) (s : State) (c j at : ℕ) (hit : Bool) → AllByRecursion P (cached s c) →
    AllByRecursion P (cache_behind s c (act.Look j at hit) (cached s c))
behind_looked P s c j at true h = fronted P (image_on s c j at) (cached s c) h
behind_looked P s c j at false h = h

pub behind_delivered : (P : Cached → Type 0) (s : State) (c j at : ℕ) (fate : Fate) → (fate ≡ Stored → (image : Cached) →
    image_on s c j at ≡ Some image → P image)
    → AllByRecursion P (cached s c) → AllByRecursion P (cache_behind s c (act.Deliver j at fate) (cached s c))
behind_delivered P s c j at Stored new h = put_in P (capacity_on s c) (image_on s c j at) (cached s c) (new refl) h
behind_delivered P s c j at Kept new h = h
behind_delivered P s c j at Dropped new h = h

-- a cache is empty at first
pub empty_at : (P : Cached → Type 0) (specs : List CanvasSpec) (c : ℕ) → AllByRecursion P (option_map_or (λ (k : Canvas).
    k.cache) (slice_get (map new_canvas specs) c) [])
empty_at P [] c = tt
empty_at P (spec ∷ specs) zero = tt
empty_at P (spec ∷ specs) (suc c) = empty_at P specs c
