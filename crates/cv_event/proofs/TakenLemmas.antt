-- The project, the views and what jobs take: laws of edits, views and starts.
use Rattle.std.proofs.Common.{◌≡◌, ◌∙◌, sym, ap, refl, ℕ, zero, suc, ◌==◌, Bool, true, false, List, [], ◌∷◌}
use Rattle.std.proofs.Common.{◌++◌, map, length, Option, Some, None, slice_get, option_map}
use Rattle.std.proofs.Common.{option_and_then, IsSomeAnd, fold, if◌then◌else◌, take_at, take_all}
use Rattle.std.proofs.Common.{le_refl}
use Rattle.std.specs.List.{cons_option}
use Rattle.std.specs.Option.{option_or, option_map_or}
use Rattle.cv_model.specs.declared.edit.Edit.{Edit}
use Rattle.cv_model.specs.declared.edit.EditError.{EditError}
use Rattle.cv_model.specs.declared.project.CanvasSpec.{CanvasSpec}
use Rattle.cv_model.specs.Views.{PixelGrid, IsView}
use Rattle.cv_model.specs.Layers.{Opening, Project}
use Rattle.cv_model.specs.Edits.{step, project_at}
use Rattle.cv_model.specs.Pictures.{picture_with}
use Rattle.cv_event.specs.declared.entry.Act.{Act}
use Rattle.cv_event.specs.declared.entry.Act.TheVariants as act
use Rattle.cv_event.specs.declared.entry.Entry.{Entry}
use Rattle.cv_event.specs.declared.entry.Fate.{Fate}
use Rattle.cv_event.specs.declared.entry.Fate.TheVariants.{Stored, Kept, Dropped}
use Rattle.cv_event.specs.declared.slot.Slot.{Slot}
use Rattle.cv_event.specs.States.{Taken, Job, Cached, Canvas, State, change_at, job_in, view_on, canvas_edited}
use Rattle.cv_event.specs.States.{canvas_viewed, started, new_job, taken_of, with_cache, image_of_slot}
use Rattle.cv_event.specs.States.{change_cache, canvases_looked, canvases_delivered, publishes}
use Rattle.cv_event.specs.States.{served, stored, edit_made, did, after, new_canvas, begin, replay}
use Rattle.cv_event.specs.Legality.{Allows, LegalFrom}
use Rattle.cv_event.specs.Histories.{accepted_edit, edits, view_given, last_view}
use Rattle.cv_event.specs.Laws.{entry_of, started_between, ProjectIsOfEdits, ViewIsLast, JobTakesThePresent}
use Rattle.cv_event.specs.Laws.{ImageIsOfTheTaken}
use Rattle.cv_event.proofs.JobLemmas.{legal_parts, began, zero_suc, suc_zero}
use Rattle.cv_event.proofs.JobLemmas.{suc_suc}
use Rattle.cv_event.proofs.EndLemmas.{or_none, or_more, IsFixed, fixed_more}

-- ---- the project

-- the project behind an act
project_started : (s : State) (c : ℕ) (v : Option PixelGrid) → (started c v s).project ≡ s.project
project_started s c None = refl
project_started s c (Some view) = refl

project_made : (s : State) (e : Edit) (v : Option EditError) → (edit_made e v s).project ≡ fold step s.project
    (cons_option (accepted_edit (act.Edit e v)) [])
project_made s e None = refl
project_made s e (Some error) = refl

pub project_one : (s : State) (who : ℕ) (a : Act) → (did s who a).project ≡ fold step s.project (cons_option
    (accepted_edit a) [])
project_one s who (act.Edit e v) = project_made s e v
project_one s who (act.View c view) = refl
project_one s who (act.Start c j) = project_started s c (view_on s c)
project_one s who (act.Look j at hit) = refl
project_one s who (act.Deliver j at fate) = refl
project_one s who (act.Compose j) = refl
project_one s who (act.Finish j) = refl
project_one s who (act.Fail j) = refl
project_one s who (act.Cancel j) = refl
project_one s who (act.Preview j bits) = refl
project_one s who (act.Save c j) = refl

steps_cons : (p : Project) (o : Option Edit) (rest : List Edit) → fold step (fold step p (cons_option o [])) rest ≡
    fold step p (cons_option o rest)
steps_cons p None rest = refl
steps_cons p (Some e) rest = refl

pub project_more : (s : State) (rest : List Entry) → (fold after s rest).project ≡ fold step s.project (edits rest)
project_more s [] = refl
project_more s (entry ∷ rest) =
    project_more (after s entry) rest
    ∙ ap (λ p. fold step p (edits rest)) (project_one s entry.caller entry.act)
    ∙ steps_cons s.project (accepted_edit entry.act) (edits rest)

pub project_is_of_edits : ProjectIsOfEdits
project_is_of_edits o journal =
    project_more (begin o) journal
    ∙ ap (fold step o.project) (sym (take_all (length (edits journal)) (edits journal) (le_refl (length (edits
    journal)))))

-- the edits of two parts
edits_cons : (o : Option Edit) (xs ys : List Edit) → cons_option o xs ++ ys ≡ cons_option o (xs ++ ys)
edits_cons None xs ys = refl
edits_cons (Some e) xs ys = refl

pub edits_parts : (past rest : List Entry) → edits (past ++ rest) ≡ edits past ++ edits rest
edits_parts [] rest = refl
edits_parts (entry ∷ past) rest =
    ap (cons_option (accepted_edit entry.act)) (edits_parts past rest)
    ∙ sym (edits_cons (accepted_edit entry.act) (edits past) (edits rest))

-- the project behind the first part
pub project_between : (o : Opening) (past rest : List Entry) → project_at o.project (edits (past ++ rest)) (length
    (edits past)) ≡ (replay o past).project
project_between o past rest =
    ap (λ es. project_at o.project es (length (edits past))) (edits_parts past rest)
    ∙ ap (fold step o.project) (take_at (edits past) (edits rest) (length (edits past)) refl)
    ∙ sym (project_more (begin o) past)

-- ---- what is seen of a canvas

-- a part of a canvas that a change leaves stays everywhere
pub seen_same : {A : Type 0} (part : Canvas → Option A) (change : Canvas → Canvas) (xs : List Canvas) (i c : ℕ)
    → ((k : Canvas) → part (change k) ≡ part k)
    → option_and_then part (slice_get (change_at i change xs) c) ≡ option_and_then part (slice_get xs c)
seen_same part change [] i c same = refl
seen_same part change (k ∷ ks) zero zero same = same k
seen_same part change (k ∷ ks) zero (suc c) same = refl
seen_same part change (k ∷ ks) (suc i) zero same = refl
seen_same part change (k ∷ ks) (suc i) (suc c) same = seen_same part change ks i c same

pub seen_map : {A : Type 0} (part : Canvas → Option A) (change : Canvas → Canvas) (xs : List Canvas) (c : ℕ)
    → ((k : Canvas) → part (change k) ≡ part k)
    → option_and_then part (slice_get (map change xs) c) ≡ option_and_then part (slice_get xs c)
seen_map part change [] c same = refl
seen_map part change (k ∷ ks) zero same = same k
seen_map part change (k ∷ ks) (suc c) same = seen_map part change ks c same

-- a change of a cache leaves the views
pub cache_changed : {A : Type 0} (part : Canvas → Option A) (change : Cached → Canvas → List Cached) (s : State) (j
    at c : ℕ) → ((cache : Canvas → List Cached) (k : Canvas) → part (with_cache cache k) ≡ part k)
    → option_and_then part (slice_get (change_cache change s j at) c) ≡ option_and_then part (slice_get s.canvases
    c)
cache_changed part change s j at c same = of_job (job_in s.jobs j)
  where
    of_slot : (job : Job) (o : Option Slot) → option_and_then part (slice_get (option_map_or (λ slot. change_at
        job.canvas (with_cache (change (image_of_slot job slot))) s.canvases) o s.canvases) c) ≡ option_and_then
        part (slice_get s.canvases c)
    of_slot job None = refl
    of_slot job (Some slot) = seen_same part _ s.canvases job.canvas c (same (change (image_of_slot job slot)))

    of_job : (o : Option Job) → option_and_then part (slice_get (option_map_or (λ (job : Job). option_map_or (λ slot.
        change_at job.canvas (with_cache (change (image_of_slot job slot))) s.canvases) (slice_get job.slots at)
        s.canvases) o s.canvases) c) ≡ option_and_then part (slice_get s.canvases c)
    of_job None = refl
    of_job (Some job) = of_slot job (slice_get job.slots at)

-- ---- views

view_looked : (s : State) (j at c : ℕ) (hit : Bool) → option_and_then (λ (k : Canvas). k.view) (slice_get
    (canvases_looked s j at hit) c) ≡ view_on s c
view_looked s j at c true = cache_changed (λ (k : Canvas). k.view) served s j at c (λ cache k. refl)
view_looked s j at c false = refl

view_delivered : (s : State) (j at c : ℕ) (fate : Fate) → option_and_then (λ (k : Canvas). k.view) (slice_get
    (canvases_delivered s j at fate) c) ≡ view_on s c
view_delivered s j at c Stored = cache_changed (λ (k : Canvas). k.view) stored s j at c (λ cache k. refl)
view_delivered s j at c Kept = refl
view_delivered s j at c Dropped = refl

view_finished : (s : State) (j c : ℕ) (o : Option Job) → option_and_then (λ (k : Canvas). k.view) (slice_get
    (option_map_or (λ (job : Job). change_at job.canvas (publishes j job) s.canvases) o s.canvases) c) ≡ view_on s c
view_finished s j c None = refl
view_finished s j c (Some job) = seen_same (λ (k : Canvas). k.view) (publishes j job) s.canvases job.canvas c (λ k.
    refl)

view_started : (s : State) (c n : ℕ) (v : Option PixelGrid) → view_on (started n v s) c ≡ view_on s c
view_started s c n None = refl
view_started s c n (Some view) = refl

view_made : (s : State) (c : ℕ) (e : Edit) (v : Option EditError) → view_on (edit_made e v s) c ≡ view_on s c
view_made s c e None = seen_map (λ (k : Canvas). k.view) (canvas_edited s.project e) s.canvases c (λ k. refl)
view_made s c e (Some error) = refl

-- a view of a canvas that is there
view_viewed : (view : PixelGrid) (P : Canvas → Type 0) (xs : List Canvas) (i c : ℕ) → IsSomeAnd (slice_get xs i) P
    → option_and_then (λ (k : Canvas). k.view) (slice_get (change_at i (canvas_viewed view) xs) c)
    ≡ option_or (if i == c then Some view else None) (option_and_then (λ (k : Canvas). k.view) (slice_get xs c))
view_viewed view P [] i c there = absurd there
view_viewed view P (k ∷ ks) zero zero there = refl
view_viewed view P (k ∷ ks) zero (suc c) there = ap (λ b. option_or (if b then Some view else None) (option_and_then
    (λ (k : Canvas). k.view) (slice_get ks c))) (sym (zero_suc c))
view_viewed view P (k ∷ ks) (suc i) zero there = ap (λ b. option_or (if b then Some view else None) k.view) (sym
    (suc_zero i))
view_viewed view P (k ∷ ks) (suc i) (suc c) there =
    view_viewed view P ks i c there
    ∙ ap (λ b. option_or (if b then Some view else None) (option_and_then (λ (k : Canvas). k.view) (slice_get ks
    c))) (sym (suc_suc i c))

pub view_one : (s : State) (who : ℕ) (a : Act) (c : ℕ) → Allows s who a → view_on (did s who a) c ≡ option_or
    (view_given c a) (view_on s c)
view_one s who (act.Edit e v) c allowed = view_made s c e v
view_one s who (act.View k view) c allowed = view_viewed view (λ canvas. IsView view × (view.w ≡ canvas.spec.w) ×
    (view.h ≡ canvas.spec.h)) s.canvases k c allowed
view_one s who (act.Start k j) c allowed = view_started s c k (view_on s k)
view_one s who (act.Look j at hit) c allowed = view_looked s j at c hit
view_one s who (act.Deliver j at fate) c allowed = view_delivered s j at c fate
view_one s who (act.Compose j) c allowed = refl
view_one s who (act.Finish j) c allowed = view_finished s j c (job_in s.jobs j)
view_one s who (act.Fail j) c allowed = refl
view_one s who (act.Cancel j) c allowed = refl
view_one s who (act.Preview j bits) c allowed = refl
view_one s who (act.Save k j) c allowed = refl

pub view_more : (s : State) (rest : List Entry) (c : ℕ) → LegalFrom s rest → view_on (fold after s rest) c ≡
    option_or (last_view c rest) (view_on s c)
view_more s [] c legal = refl
view_more s (entry ∷ rest) c legal =
    view_more (after s entry) rest c legal.1
    ∙ ap (option_or (last_view c rest)) (view_one s entry.caller entry.act c legal.0)
    ∙ sym (or_more (last_view c rest) (view_given c entry.act) (view_on s c))

-- a canvas as it is opened has no view
no_view : (specs : List CanvasSpec) (c : ℕ) → option_and_then (λ (k : Canvas). k.view) (slice_get (map new_canvas
    specs) c) ≡ None
no_view [] c = refl
no_view (spec ∷ specs) zero = refl
no_view (spec ∷ specs) (suc c) = no_view specs c

pub view_is_last : ViewIsLast
view_is_last o journal c legal =
    view_more (begin o) journal c legal ∙ ap (option_or (last_view c journal)) (no_view o.canvases c)
    ∙ or_none (last_view c journal)

-- ---- what a job takes

pub taken_fixed : (j : ℕ) → IsFixed (taken_of j)
taken_fixed j = record { slots = λ job slots. refl; composer = λ job o. refl; ended = λ job o. refl }

pub job_takes_the_present : JobTakesThePresent
job_takes_the_present o past rest who c j legal =
    let b = began o past rest who c j legal in
    let before = (legal_parts (begin o) past (entry_of who (act.Start c j) ∷ rest) legal).0 in
    let view : last_view c past ≡ Some b.view = sym (view_is_last o past c before) ∙ b.view_is in
    let project = project_between o past (entry_of who (act.Start c j) ∷ rest) in
    ap (option_map (taken_of j)) b.job_is
    ∙ ap Some (fixed_more (taken_of j) (taken_fixed j) j rest (new_job c (replay o past).project b.view))
    ∙ (λ i. Some (record { job = j; project = sym project i; view = b.view }))
    ∙ sym (ap (option_map (λ (view : PixelGrid). record {
      job = j;
      project = project_at o.project (edits (started_between past who c j rest)) (length (edits past));
      view = view;
    })) view)

map_map : {A B C : Type 0} (f : A → B) (g : B → C) (o : Option A) → option_map g (option_map f o) ≡ option_map (λ x. g
    (f x)) o
map_map f g None = refl
map_map f g (Some x) = refl

pub image_is_of_the_taken : ImageIsOfTheTaken
image_is_of_the_taken o past rest who c j slots legal =
    ap (option_map (λ (t : Taken). picture_with t.project t.view slots)) (job_takes_the_present o past rest who c j
    legal)
    ∙ map_map _ _ (last_view c past)
