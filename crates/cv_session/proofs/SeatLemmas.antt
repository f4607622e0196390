-- What a session keeps behind the calls of its desk.
use Rattle.std.proofs.Common.{◌≡◌, refl, ap, sym, ◌∙◌, subst, ℕ, zero, suc, ◌==◌, ◌+◌, Bool, true, false, if◌then◌else◌}
use Rattle.std.proofs.Common.{List, [], ◌∷◌, ◌++◌, map, length, set, slice_get, Option, Some, None, is_some, option_map, option_and_then, arith, IsSomeAnd, Result, Ok, Err, OnOk, OnErr}
use Rattle.std.specs.List.{AllByRecursion}
use Rattle.std.specs.Option.{option_or}
use Rattle.std.proofs.lemmas.List.{append-nil, map-append, length-map}
use Rattle.std.proofs.lemmas.Bool.{true≢false, eqb-true}
use Rattle.cv_model.specs.declared.edit.Edit.{Edit}
use Rattle.cv_model.specs.declared.edit.EditError.{EditError}
use Rattle.cv_model.specs.declared.edit.EditError.TheVariants as error
use Rattle.cv_model.specs.Paintings.{Composition}
use Rattle.cv_model.specs.Views.{PixelGrid, IsView}
use Rattle.cv_model.specs.declared.project.CanvasSpec.{CanvasSpec}
use Rattle.cv_event.specs.declared.entry.Act.{Act}
use Rattle.cv_event.specs.declared.entry.Act.TheVariants as act
use Rattle.cv_event.specs.declared.entry.How.TheVariants.{Cancelled, Finished, NoMemory}
use Rattle.cv_event.specs.declared.slot.Task.{Task}
use Rattle.cv_event.specs.States.{Job, Canvas, State, change_at, change_job, job_edited, cancelled_on, new_job, started, stands_at, composed_by, with_end, looked, delivered, view_on, did}
use Rattle.cv_event.specs.Legality.{Allows}
use Rattle.cv_event.proofs.JobLemmas.{zero_suc, suc_zero, suc_suc}
use Rattle.cv_event.proofs.EndLemmas.{stays_where, edited_stays, or_more}
use Rattle.cv_event.specs.Histories.{view_given}
use Rattle.cv_event.proofs.TakenLemmas.{view_one}
use Rattle.cv_event.proofs.ShownLemmas.{presence, presence_seen, IsSeen, settled_one}
use Rattle.cv_tables.specs.Rows.{Row, row_in, whole_of}
use Rattle.cv_tables.specs.Tabs.{Tables, state_of}
use Rattle.cv_desk.specs.Desks.{History, KeepJobs, Notes, Stays}
use Rattle.cv_desk.specs.Answers.{EditNotes}
use Rattle.cv_desk.proofs.BasisLemmas.{jobs_same, basis_stays, piece_stays, whole_stays}
use Rattle.cv_session.specs.declared.seat.HeldTask.{HeldTask}
use Rattle.cv_session.specs.declared.seat.HeldTask.TheVariants as held
use Rattle.cv_session.specs.Responses.{last_from, last_job, held_by}
use Rattle.cv_session.specs.HeldLaws.{HoldsTasks}
use Rattle.cv_session.specs.Covered.{Covers}
use Rattle.cv_session.specs.Seats.{Seat, now, task_of, tasks_of, IsHeldOf, canvas_spec, IsOfSize, IsSeat}
use Rattle.cv_session.proofs.PlayLemmas.{same_some}
use Rattle.cv_session.proofs.HeldLemmas.{is_delivery, held_more}
use Rattle.cv_session.proofs.CoverLemmas.{covers_more}

-- ---- pieces

compose_stays : (old new : List Row) (j : ℕ) (input : Composition) → KeepJobs old new → IsSomeAnd (row_in old j) (λ row. input ≡ whole_of row)
    → IsSomeAnd (row_in new j) (λ row. input ≡ whole_of row)
compose_stays old new j input kept had = by_row (row_in old j) refl had
  where
    by_row : (o : Option Row) → row_in old j ≡ o → IsSomeAnd o (λ row. input ≡ whole_of row) → IsSomeAnd (row_in new j) (λ row. input ≡ whole_of row)
    by_row None e h = absurd h
    by_row (Some r) e h =
        let q = basis_stays old new j r kept e in
        subst (λ o. IsSomeAnd o (λ (row : Row). input ≡ whole_of row)) (sym q.1) (h ∙ sym (whole_stays q.0 r q.2))

held_stays : (old new : History) (t : HeldTask) → KeepJobs old.tables.rows new.tables.rows → IsHeldOf old t → IsHeldOf new t
held_stays old new (held.Paint piece) kept h = piece_stays old.tables.rows new.tables.rows piece.job piece.slot piece.input piece.view kept h
held_stays old new (held.Compose j input) kept h = compose_stays old.tables.rows new.tables.rows j input kept h

pub all_stay : (old new : History) (ts : List HeldTask) → KeepJobs old.tables.rows new.tables.rows → AllByRecursion (IsHeldOf old) ts → AllByRecursion (IsHeldOf new) ts
all_stay old new [] kept f = tt
all_stay old new (t ∷ ts) kept f = (held_stays old new t kept f.0, all_stay old new ts kept f.1)

all_both : (h : History) (xs ys : List HeldTask) → AllByRecursion (IsHeldOf h) xs → AllByRecursion (IsHeldOf h) ys → AllByRecursion (IsHeldOf h) (xs ++ ys)
all_both h [] ys f g = g
all_both h (x ∷ xs) ys f g = (f.0, all_both h xs ys f.1 g)

-- ---- last jobs

-- the last job of each canvas
abbrev pub AreLast : State → List (Option ℕ) → Type 0
AreLast s lasts = (c : ℕ) → slice_get lasts c ≡ option_map (λ k. last_job s c) (slice_get s.canvases c)

abbrev job_canvas : Job → ℕ
job_canvas job = job.canvas

last_of_canvases : (k c : ℕ) (xs ys : List Job) → map job_canvas xs ≡ map job_canvas ys → last_from k c xs ≡ last_from k c ys
last_of_canvases k c [] [] e = refl
last_of_canvases k c [] (y ∷ ys) e = absurd cc
last_of_canvases k c (x ∷ xs) [] e = absurd cc
last_of_canvases k c (x ∷ xs) (y ∷ ys) e =
    let parts = split x y xs ys e in
    λ i. option_or (last_of_canvases (suc k) c xs ys parts.1 i) (if parts.0 i == c then Some k else None)
  where
    split : (x y : Job) (xs ys : List Job) → map job_canvas (x ∷ xs) ≡ map job_canvas (y ∷ ys) → (x.canvas ≡ y.canvas) × (map job_canvas xs ≡ map job_canvas ys)
    split x y xs ys e = (cc, cc)

canvases_map : (f : Job → Job) → ((job : Job) → (f job).canvas ≡ job.canvas) → (jobs : List Job) → map job_canvas (map f jobs) ≡ map job_canvas jobs
canvases_map f same [] = refl
canvases_map f same (job ∷ jobs) = λ i. same job i ∷ canvases_map f same jobs i

canvases_at : (f : Job → Job) → ((job : Job) → (f job).canvas ≡ job.canvas) → (m : ℕ) (jobs : List Job) → map job_canvas (change_at m f jobs) ≡ map job_canvas jobs
canvases_at f same m [] = refl
canvases_at f same zero (job ∷ jobs) = λ i. same job i ∷ map job_canvas jobs
canvases_at f same (suc m) (job ∷ jobs) = λ i. job.canvas ∷ canvases_at f same m jobs i

canvases_change : (f : Job → Job) → ((job : Job) → (f job).canvas ≡ job.canvas) → (j : ℕ) (jobs : List Job) → map job_canvas (change_job j f jobs) ≡ map job_canvas jobs
canvases_change f same zero jobs = refl
canvases_change f same (suc m) jobs = canvases_at f same m jobs

edited_canvas : (e : Edit) (job : Job) → (job_edited e job).canvas ≡ job.canvas
edited_canvas e job = edited_stays (λ (k : Job). k.canvas) (is_some job.ended) job _ refl

cancelled_canvas : (c : ℕ) (job : Job) → (cancelled_on c job).canvas ≡ job.canvas
cancelled_canvas c job = stays_where (λ (k : Job). k.canvas) (job.canvas == c) (with_end Cancelled) job refl

-- an act is a start
abbrev pub is_start : Act → Bool
is_start (act.Start c j) = true
is_start _ = false

canvases_kept : (s : State) (who : ℕ) (a : Act) → is_start a ≡ false → map job_canvas (did s who a).jobs ≡ map job_canvas s.jobs
canvases_kept s who (act.Edit e None) n = canvases_map (job_edited e) (edited_canvas e) s.jobs
canvases_kept s who (act.Edit e (Some error)) n = refl
canvases_kept s who (act.View c view) n = refl
canvases_kept s who (act.Start c j) n = absurd (true≢false n)
canvases_kept s who (act.Look j at hit) n = canvases_change (stands_at at (looked who hit)) (λ job. refl) j s.jobs
canvases_kept s who (act.Deliver j at fate) n = canvases_change (stands_at at (delivered fate)) (λ job. refl) j s.jobs
canvases_kept s who (act.Compose j) n = canvases_change (composed_by who) (λ job. refl) j s.jobs
canvases_kept s who (act.Finish j) n = canvases_change (with_end Finished) (λ job. refl) j s.jobs
canvases_kept s who (act.Fail j) n = canvases_change (with_end NoMemory) (λ job. refl) j s.jobs
canvases_kept s who (act.Cancel j) n = canvases_change (with_end Cancelled) (λ job. refl) j s.jobs
canvases_kept s who (act.Preview j bits) n = refl
canvases_kept s who (act.Save c j) n = refl

-- a canvas is there as before
there_map : (x : Option ℕ) (o : Option Canvas) → option_map (λ (k : Canvas). x) o ≡ option_map (λ (n : ℕ). x) (option_and_then presence o)
there_map x None = refl
there_map x (Some k) = refl

there_same : (s : State) (who c : ℕ) (a : Act) (x : Option ℕ) → option_map (λ (k : Canvas). x) (slice_get (did s who a).canvases c) ≡ option_map (λ (k : Canvas). x) (slice_get s.canvases c)
there_same s who c a x =
    there_map x (slice_get (did s who a).canvases c) ∙ ap (option_map (λ (n : ℕ). x)) (settled_one presence presence_seen (λ j job k. refl) s who c a)
    ∙ sym (there_map x (slice_get s.canvases c))

pub lasts_kept : (s : State) (who : ℕ) (a : Act) (lasts : List (Option ℕ)) → is_start a ≡ false → AreLast s lasts → AreLast (did s who a) lasts
lasts_kept s who a lasts n f = λ c.
    f c ∙ sym (there_same s who c a (last_job s c))
    ∙ ap (λ (o : Option ℕ). option_map (λ (k : Canvas). o) (slice_get (did s who a).canvases c)) (last_of_canvases 1 c s.jobs (did s who a).jobs (sym (canvases_kept s who a n)))

-- a start's job is the last one of its canvas, and of no other
last_more : (k c : ℕ) (xs : List Job) (x : Job) → last_from k c (xs ++ x ∷ []) ≡ option_or (if x.canvas == c then Some (k + length xs) else None) (last_from k c xs)
last_more k c [] x = ap (λ (n : ℕ). option_or None (if x.canvas == c then Some n else None)) (omega arith) ∙ none_first (if x.canvas == c then Some (k + 0) else None)
  where
    none_first : (o : Option ℕ) → option_or None o ≡ option_or o None
    none_first None = refl
    none_first (Some n) = refl
last_more k c (y ∷ ys) x =
    ap (λ (o : Option ℕ). option_or o (if y.canvas == c then Some k else None)) (last_more (suc k) c ys x)
    ∙ or_more (if x.canvas == c then Some (suc k + length ys) else None) (last_from (suc k) c ys) (if y.canvas == c then Some k else None)
    ∙ ap (λ (n : ℕ). option_or (if x.canvas == c then Some n else None) (option_or (last_from (suc k) c ys) (if y.canvas == c then Some k else None))) (longer k ys)
  where
    longer : (k : ℕ) (ys : List Job) → suc k + length ys ≡ k + length (y ∷ ys)
    longer k ys = let l : length (y ∷ ys) ≡ suc (length ys) = refl in omega (arith, l)

set_at : {A : Type 0} (xs : List A) (i m : ℕ) (x : A) → slice_get (set xs i x) m ≡ option_map (λ y. if i == m then x else y) (slice_get xs m)
set_at [] i m x = refl
set_at (y ∷ ys) zero zero x = refl
set_at {A} (y ∷ ys) zero (suc m) x = map_same (slice_get ys m) ∙ ap (λ (b : Bool). option_map (λ z. if b then x else z) (slice_get ys m)) (sym (zero_suc m))
  where
    map_same : (o : Option A) → o ≡ option_map (λ z. if false then x else z) o
    map_same None = refl
    map_same (Some z) = refl
set_at (y ∷ ys) (suc i) zero x = ap (λ (b : Bool). Some (if b then x else y)) (sym (suc_zero i))
set_at (y ∷ ys) (suc i) (suc m) x = set_at ys i m x ∙ ap (λ (b : Bool). option_map (λ z. if b then x else z) (slice_get ys m)) (sym (suc_suc i m))

pub lasts_started : (s : State) (c j : ℕ) (lasts : List (Option ℕ)) → Allows s 0 (act.Start c j) → AreLast s lasts
    → AreLast (did s 0 (act.Start c j)) (set lasts c (Some j))
lasts_started s c j lasts allowed f = by_view (view_on s c) refl allowed.0
  where
    placed : (k : ℕ) (view : PixelGrid) → last_job (started c (Some view) s) k ≡ (if c == k then Some j else last_job s k)
    placed k view =
        last_more 1 k (map (cancelled_on c) s.jobs) (new_job c s.project view)
        ∙ ap (λ (n : ℕ). option_or (if c == k then Some n else None) (last_from 1 k (map (cancelled_on c) s.jobs))) number
        ∙ ap (option_or (if c == k then Some j else None)) (last_of_canvases 1 k (map (cancelled_on c) s.jobs) s.jobs (canvases_map (cancelled_on c) (cancelled_canvas c) s.jobs))
        ∙ by_test (c == k) (last_job s k)
      where
        number : 1 + length (map (cancelled_on c) s.jobs) ≡ j
        number = let l = length-map s.jobs (cancelled_on c) in omega (arith, l, allowed.1)

        by_test : (b : Bool) (o : Option ℕ) → option_or (if b then Some j else None) o ≡ (if b then Some j else o)
        by_test true o = refl
        by_test false o = refl

    by_canvas : (b : Bool) (x : Option ℕ) (o : Option Canvas) → option_map (λ y. if b then Some j else y) (option_map (λ (k : Canvas). x) o) ≡ option_map (λ (k : Canvas). if b then Some j else x) o
    by_canvas b x None = refl
    by_canvas b x (Some k) = refl

    by_view : (o : Option PixelGrid) → view_on s c ≡ o → is_some o ≡ true → AreLast (did s 0 (act.Start c j)) (set lasts c (Some j))
    by_view None e h = absurd cc
    by_view (Some view) e h = λ k.
        set_at lasts c k (Some j) ∙ ap (option_map (λ y. if c == k then Some j else y)) (f k) ∙ by_canvas (c == k) (last_job s k) (slice_get s.canvases k)
        ∙ sym (there_same s 0 k (act.Start c j) (if c == k then Some j else last_job s k))
        ∙ ap (λ (o : Option ℕ). option_map (λ (n : Canvas). o) (slice_get (did s 0 (act.Start c j)).canvases k)) (sym (ap (λ (v : Option PixelGrid). last_job (started c v s) k) e ∙ placed k view))

-- ---- sizes of views

-- a canvas's view is of its size
abbrev pub AreSized : State → Type 0
AreSized s = (c : ℕ) (view : PixelGrid) → view_on s c ≡ Some view → IsOfSize s c view

abbrev pub spec_of : Canvas → Option CanvasSpec
spec_of k = Some k.spec

spec_seen : IsSeen spec_of
spec_seen = record { viewed = λ view k. refl; cache = λ cache k. refl }

pub size_stays : (s : State) (who c : ℕ) (a : Act) (view : PixelGrid) → IsOfSize s c view → IsOfSize (did s who a) c view
size_stays s who c a view h = by (slice_get s.canvases c) (slice_get (did s who a).canvases c) (settled_one spec_of spec_seen (λ j job k. refl) s who c a) h
  where
    by : (o p : Option Canvas) → option_and_then spec_of p ≡ option_and_then spec_of o → IsSomeAnd o (λ (k : Canvas). (view.w ≡ k.spec.w) × (view.h ≡ k.spec.h))
        → IsSomeAnd p (λ (k : Canvas). (view.w ≡ k.spec.w) × (view.h ≡ k.spec.h))
    by None p e h = absurd h
    by (Some k) None e h = absurd cc
    by (Some k) (Some n) e h =
        let same : k.spec ≡ n.spec = cc in
        (h.0 ∙ ap (λ (x : CanvasSpec). x.w) same, h.1 ∙ ap (λ (x : CanvasSpec). x.h) same)

size_given : (s : State) (who c : ℕ) (a : Act) (view : PixelGrid) → view_given c a ≡ Some view → Allows s who a → IsOfSize s c view
size_given s who c (act.View k v) view g allowed = by (k == c) refl g
  where
    sizes : (o : Option Canvas) → IsSomeAnd o (λ (k : Canvas). IsView v × (v.w ≡ k.spec.w) × (v.h ≡ k.spec.h)) → IsSomeAnd o (λ (k : Canvas). (v.w ≡ k.spec.w) × (v.h ≡ k.spec.h))
    sizes None h = absurd h
    sizes (Some k) h = (h.1, h.2)

    by : (b : Bool) → (k == c) ≡ b → (if b then Some v else None) ≡ Some view → IsOfSize s c view
    by false e g = absurd cc
    by true e g = subst (IsOfSize s c) (same_some g) (subst (λ (n : ℕ). IsOfSize s n v) (eqb-true k c e) (sizes (slice_get s.canvases k) allowed))
size_given s who c (act.Edit e v) view g allowed = absurd cc
size_given s who c (act.Start k j) view g allowed = absurd cc
size_given s who c (act.Look j at hit) view g allowed = absurd cc
size_given s who c (act.Deliver j at fate) view g allowed = absurd cc
size_given s who c (act.Compose j) view g allowed = absurd cc
size_given s who c (act.Finish j) view g allowed = absurd cc
size_given s who c (act.Fail j) view g allowed = absurd cc
size_given s who c (act.Cancel j) view g allowed = absurd cc
size_given s who c (act.Preview j bits) view g allowed = absurd cc
size_given s who c (act.Save k j) view g allowed = absurd cc

pub sized_kept : (s : State) (who : ℕ) (a : Act) → Allows s who a → AreSized s → AreSized (did s who a)
sized_kept s who a allowed f = λ c view e. by c view (view_given c a) refl (sym (view_one s who a c allowed) ∙ e)
  where
    by : (c : ℕ) (view : PixelGrid) (o : Option PixelGrid) → view_given c a ≡ o → option_or o (view_on s c) ≡ Some view → IsOfSize (did s who a) c view
    by c view None g h = size_stays s who c a view (f c view h)
    by c view (Some v) g h = size_stays s who c a view (size_given s who c a view (g ∙ h) allowed)

-- the sizes of canvases
abbrev pub AreSpecs : State → List CanvasSpec → Type 0
AreSpecs s specs = (c : ℕ) → slice_get specs c ≡ option_map canvas_spec (slice_get s.canvases c)

spec_there : (o : Option Canvas) → option_map canvas_spec o ≡ option_and_then spec_of o
spec_there None = refl
spec_there (Some k) = refl

pub specs_kept : (s : State) (who : ℕ) (a : Act) (specs : List CanvasSpec) → AreSpecs s specs → AreSpecs (did s who a) specs
specs_kept s who a specs f = λ c.
    f c ∙ spec_there (slice_get s.canvases c) ∙ sym (settled_one spec_of spec_seen (λ j job k. refl) s who c a)
    ∙ sym (spec_there (slice_get (did s who a).canvases c))

-- ---- seats

-- behind an entry that does no task, with what it makes held
pub seat_enters : (old new : Seat) (a : Act) (more : List HeldTask) → IsSeat old → Notes old.history new.history 0 a → is_delivery a ≡ false
    → new.held ≡ old.held ++ more → map task_of more ≡ held_by a → AllByRecursion (IsHeldOf new.history) more → new.specs ≡ old.specs → AreLast (now new) new.lasts → IsSeat new
seat_enters old new a more seat notes n e same pieces specs lasts =
    let tasks : tasks_of new ≡ tasks_of old ++ held_by a = ap (map task_of) e ∙ map-append task_of old.held more ∙ ap (λ (ts : List Task). tasks_of old ++ ts) same in
    record {
      holds = subst (λ (s : State). HoldsTasks s (tasks_of new)) (sym notes.becomes)
          (subst (HoldsTasks (did (now old) 0 a)) (sym tasks) (held_more (now old) a (tasks_of old) notes.allowed n seat.holds));
      covers = subst (λ (s : State). Covers s (tasks_of new)) (sym notes.becomes)
          (subst (Covers (did (now old) 0 a)) (sym tasks) (covers_more (now old) a (tasks_of old) notes.allowed n seat.covers));
      pieces = subst (AllByRecursion (IsHeldOf new.history)) (sym e)
          (all_both new.history old.held more (all_stay old.history new.history old.held notes.jobs seat.pieces) pieces);
      specs = subst (λ (s : State). AreSpecs s new.specs) (sym notes.becomes)
          (subst (AreSpecs (did (now old) 0 a)) (sym specs) (specs_kept (now old) 0 a old.specs seat.specs));
      lasts = lasts;
      sized = subst AreSized (sym notes.becomes) (sized_kept (now old) 0 a notes.allowed seat.sized);
    }

-- which makes nothing held
pub seat_goes : (old new : Seat) (a : Act) → IsSeat old → Notes old.history new.history 0 a → is_delivery a ≡ false → held_by a ≡ []
    → new.held ≡ old.held → new.specs ≡ old.specs → AreLast (now new) new.lasts → IsSeat new
seat_goes old new a seat notes n none e specs lasts =
    seat_enters old new a [] seat notes n (e ∙ sym (append-nil old.held)) (sym none) tt specs lasts

-- which is no start either
pub seat_goes_on : (old new : Seat) (a : Act) → IsSeat old → Notes old.history new.history 0 a → is_delivery a ≡ false → held_by a ≡ [] → is_start a ≡ false
    → new.held ≡ old.held → new.specs ≡ old.specs → new.lasts ≡ old.lasts → IsSeat new
seat_goes_on old new a seat notes n none start e specs lasts =
    seat_goes old new a seat notes n none e specs
    (subst (λ (s : State). AreLast s new.lasts) (sym notes.becomes)
    (subst (AreLast (did (now old) 0 a)) (sym lasts) (lasts_kept (now old) 0 a old.lasts start seat.lasts)))

-- where nothing was entered
pub seat_stands : (old new : Seat) → IsSeat old → Stays old.history new.history → new.held ≡ old.held → new.specs ≡ old.specs → new.lasts ≡ old.lasts → IsSeat new
seat_stands old new seat stays e specs lasts =
    let same : now new ≡ now old = ap state_of stays.tables in
    record {
      holds = subst (λ (s : State). HoldsTasks s (tasks_of new)) (sym same) (subst (HoldsTasks (now old)) (ap (map task_of) (sym e)) seat.holds);
      covers = subst (λ (s : State). Covers s (tasks_of new)) (sym same) (subst (Covers (now old)) (ap (map task_of) (sym e)) seat.covers);
      pieces = subst (AllByRecursion (IsHeldOf new.history)) (sym e)
          (all_stay old.history new.history old.held (subst (λ (t : Tables). KeepJobs old.history.tables.rows t.rows) (sym stays.tables) (jobs_same old.history.tables.rows)) seat.pieces);
      specs = subst (λ (s : State). AreSpecs s new.specs) (sym same) (subst (AreSpecs (now old)) (sym specs) seat.specs);
      lasts = subst (λ (s : State). AreLast s new.lasts) (sym same) (subst (AreLast (now old)) (sym lasts) seat.lasts);
      sized = subst AreSized (sym same) seat.sized;
    }

-- behind an answer: an entry or nothing
pub seat_answers : {A E : Type 0} (r : Result A E) (old new : Seat) (a : Act) → IsSeat old → is_delivery a ≡ false → held_by a ≡ [] → is_start a ≡ false
    → new.held ≡ old.held → new.specs ≡ old.specs → new.lasts ≡ old.lasts → OnOk r (Notes old.history new.history 0 a) → OnErr r (Stays old.history new.history)
    → IsSeat new
seat_answers (Ok x) old new a seat n none start held specs lasts ok err = seat_goes_on old new a seat ok n none start held specs lasts
seat_answers (Err e) old new a seat n none start held specs lasts ok err = seat_stands old new seat err held specs lasts

-- a desk that is as it was
pub stays_same : (old new : History) → new ≡ old → Stays old new
stays_same old new e = record {
  opening = ap (λ (h : History). h.opening) e;
  journal = ap (λ (h : History). h.journal) e;
  tables = ap (λ (h : History). h.tables) e;
  spare = let s : new.spare ≡ old.spare = ap (λ (h : History). h.spare) e in omega (arith, s);
}

pub on_err : {A E : Type 0} (r : Result A E) (old new : History) → OnErr r (new ≡ old) → OnErr r (Stays old new)
on_err (Ok x) old new h = tt
on_err (Err e) old new h = stays_same old new h

-- behind an edit
pub seat_edited : (r : Result (Unit {0}) EditError) (old new : Seat) (e : Edit) → IsSeat old → new.held ≡ old.held → new.specs ≡ old.specs → new.lasts ≡ old.lasts
    → EditNotes old.history new.history 0 e r → IsSeat new
seat_edited (Ok x) old new e seat held specs lasts h = seat_goes_on old new (act.Edit e None) seat h refl refl refl held specs lasts
seat_edited (Err error.NoMemory) old new e seat held specs lasts h = seat_stands old new seat h held specs lasts
seat_edited (Err error.UnknownLayer) old new e seat held specs lasts h = seat_goes_on old new (act.Edit e (Some error.UnknownLayer)) seat h refl refl refl held specs lasts
seat_edited (Err error.UnknownFeature) old new e seat held specs lasts h = seat_goes_on old new (act.Edit e (Some error.UnknownFeature)) seat h refl refl refl held specs lasts
seat_edited (Err error.WrongKind) old new e seat held specs lasts h = seat_goes_on old new (act.Edit e (Some error.WrongKind)) seat h refl refl refl held specs lasts
seat_edited (Err error.DuplicateId) old new e seat held specs lasts h = seat_goes_on old new (act.Edit e (Some error.DuplicateId)) seat h refl refl refl held specs lasts
seat_edited (Err error.Limit) old new e seat held specs lasts h = seat_goes_on old new (act.Edit e (Some error.Limit)) seat h refl refl refl held specs lasts
seat_edited (Err error.BadPlace) old new e seat held specs lasts h = seat_goes_on old new (act.Edit e (Some error.BadPlace)) seat h refl refl refl held specs lasts

-- behind a start
pub seat_started : (old new : Seat) (c j : ℕ) → IsSeat old → Notes old.history new.history 0 (act.Start c j) → new.held ≡ old.held → new.specs ≡ old.specs
    → new.lasts ≡ set old.lasts c (Some j) → IsSeat new
seat_started old new c j seat notes held specs lasts =
    seat_goes old new (act.Start c j) seat notes refl refl held specs
    (subst (λ (s : State). AreLast s new.lasts) (sym notes.becomes)
    (subst (AreLast (did (now old) 0 (act.Start c j))) (sym lasts) (lasts_started (now old) c j old.lasts notes.allowed seat.lasts)))
