-- Tasks at a desk: what is due of them, and what a session keeps behind them.
use Rattle.std.proofs.Common.{◌≡◌, refl, ap, sym, ◌∙◌, subst, ◌<◌, ℕ, ◌==◌, true, false, List, [], ◌∷◌, ◌++◌, map, length, drop, slice_get}
use Rattle.std.proofs.Common.{Option, Some, None, is_some, option_map, option_and_then, arith, IsSomeAnd, Result, Ok, Err, IfOk, OnOk, OnErr, slice_index_or}
use Rattle.std.specs.List.{AllByRecursion}
use Rattle.std.proofs.lemmas.List.{append-nil}
use Rattle.std.proofs.lemmas.Bool.{false≢true}
use Rattle.std.proofs.lemmas.Bool.Decides.{nat_tests}
use Rattle.cv_model.specs.Paintings.{Input, Painting, Composition}
use Rattle.cv_model.specs.Views.{PixelGrid}
use Rattle.cv_event.specs.declared.entry.Act.{Act}
use Rattle.cv_event.specs.declared.entry.Act.TheVariants as act
use Rattle.cv_event.specs.declared.entry.How.{How}
use Rattle.cv_event.specs.declared.slot.Slot.{Slot}
use Rattle.cv_event.specs.declared.slot.Standing.TheVariants.{Missed}
use Rattle.cv_event.specs.declared.slot.Task.{Task}
use Rattle.cv_event.specs.declared.slot.Task.TheVariants.{Look, Compose}
use Rattle.cv_event.specs.States.{Job, State, job_in, did}
use Rattle.cv_event.specs.Legality.{OfJob, OfSlot, how, is_open, all_ready, task, Allows}
use Rattle.cv_event.proofs.DueLemmas.{looks_are_of_live_jobs, composes_are_of_live_jobs}
use Rattle.cv_tables.specs.Rows.{Row, HasSlot, job_of, row_in, painting_of, painting_from, whole_of}
use Rattle.cv_tables.specs.Tabs.{Tables, state_of}
use Rattle.cv_desk.specs.Desks.{History, state, KeepJobs, Notes, Stays}
use Rattle.cv_desk.specs.declared.errors.ClaimError.{ClaimError}
use Rattle.cv_desk.specs.declared.errors.ClaimError.TheVariants as claim_error
use Rattle.cv_desk.specs.Answers.{IsPiece, IsOfJob, ClaimAnswer}
use Rattle.cv_layer.specs.declared.input.Piece.{Piece}
use Rattle.cv_desk.proofs.SeenLemmas.{job_seen}
use Rattle.cv_session.specs.declared.seat.HeldTask.{HeldTask}
use Rattle.cv_session.specs.declared.seat.HeldTask.TheVariants as held
use Rattle.cv_session.specs.declared.tasks.Taken.{Taken}
use Rattle.cv_session.specs.declared.tasks.Taken.TheVariants as taken
use Rattle.cv_session.specs.Responses.{job_of_task, held_by}
use Rattle.cv_session.specs.Entered.{IsClaim, MayDo}
use Rattle.cv_session.specs.HeldLaws.{Owes, HoldsTasks}
use Rattle.cv_session.specs.Covered.{Covers}
use Rattle.cv_session.specs.Seats.{Seat, now, task_of, tasks_of, IsHeldOf, IsSeat}
use Rattle.cv_session.specs.Tasks.{failed_job, TakesInto, IsDueOf, Served, is_done, is_failed, is_let_go, Left}
use Rattle.cv_session.proofs.HeldLemmas.{claim_no_delivery, held_more, held_done}
use Rattle.cv_session.proofs.CoverLemmas.{covers_drop, covers_done, covers_task_failed, over_how}
use Rattle.cv_session.proofs.SeatLemmas.{AreLast, AreSpecs, AreSized, is_start, all_stay, lasts_kept, specs_kept, sized_kept, seat_enters, seat_goes_on, seat_stands}

-- ---- what is due, in the rows

-- a slot that caller 0 owes, with what else holds of it
slot_owed : (rows : List Row) (j at : ℕ) (P Q : Row → Slot → Type 0) → ((row : Row) (x : Slot) → P row x → Q row x)
    → IsSomeAnd (job_in (map job_of rows) j) (λ job. IsSomeAnd (slice_get job.slots at) (λ slot. slot.standing ≡ Missed 0)) → HasSlot rows j at P
    → HasSlot rows j at (λ row x. (x.standing ≡ Missed 0) × Q row x)
slot_owed rows j at P Q from owed has =
    by_row (row_in rows j) (subst (λ (o : Option Job). IsSomeAnd o (λ job. IsSomeAnd (slice_get job.slots at) (λ slot. slot.standing ≡ Missed 0))) (job_seen rows j) owed) has
  where
    by_slot : (row : Row) (o : Option Slot) → IsSomeAnd o (λ slot. slot.standing ≡ Missed 0) → IsSomeAnd o (P row) → IsSomeAnd o (λ x. (x.standing ≡ Missed 0) × Q row x)
    by_slot row None f g = absurd f
    by_slot row (Some x) f g = (f, from row x g)

    by_row : (o : Option Row) → IsSomeAnd (option_map job_of o) (λ job. IsSomeAnd (slice_get job.slots at) (λ slot. slot.standing ≡ Missed 0))
        → IsSomeAnd o (λ row. IsSomeAnd (slice_get row.slots at) (P row)) → IsSomeAnd o (λ row. IsSomeAnd (slice_get row.slots at) (λ x. (x.standing ≡ Missed 0) × Q row x))
    by_row None f g = absurd f
    by_row (Some row) f g = by_slot row (slice_get row.slots at) f g

-- so a painted piece may be delivered
pub deliverable : (h : History) (j at : ℕ) (input : Input) (view : PixelGrid) (image : Painting) → Owes (state h) 0 (Look j at)
    → HasSlot h.tables.rows j at (IsPiece input view) → image ≡ record { input = input; view = view }
    → HasSlot h.tables.rows j at (λ row x. (x.standing ≡ Missed 0) × (row.ended ≡ None → painting_of row.store row.view x ≡ Some image))
deliverable h j at input view image owed own e =
    slot_owed h.tables.rows j at (IsPiece input view) (λ row x. row.ended ≡ None → painting_of row.store row.view x ≡ Some image)
    (λ row x piece live. painted row x piece) owed own
  where
    painted : (row : Row) (x : Slot) → IsPiece input view row x → painting_of row.store row.view x ≡ Some image
    painted row x piece =
        ap (option_map (painting_from row.view)) piece.0 ∙ ap (λ (v : PixelGrid). Some (painting_from v input)) (sym piece.1) ∙ ap Some (sym e)

-- and a composed picture may be finished
pub finishable : (h : History) (j : ℕ) (input image : Composition) → Owes (state h) 0 (Compose j) → IsSomeAnd (row_in h.tables.rows j) (λ row. input ≡ whole_of row)
    → image ≡ input → IsSomeAnd (row_in h.tables.rows j) (λ row. (row.composer ≡ Some 0) × (image ≡ whole_of row))
finishable h j input image owed own e =
    by_row (row_in h.tables.rows j) (subst (λ (o : Option Job). IsSomeAnd o (λ job. job.composer ≡ Some 0)) (job_seen h.tables.rows j) owed) own
  where
    by_row : (o : Option Row) → IsSomeAnd (option_map job_of o) (λ job. job.composer ≡ Some 0) → IsSomeAnd o (λ row. input ≡ whole_of row)
        → IsSomeAnd o (λ row. (row.composer ≡ Some 0) × (image ≡ whole_of row))
    by_row None f g = absurd f
    by_row (Some row) f g = (f, e ∙ g)

-- the job of what is owed is there
pub owed_there : (s : State) (t : Task) → Owes s 0 t → is_some (job_in s.jobs (job_of_task t)) ≡ true
owed_there s (Look j at) h = by_job (job_in s.jobs j) h
  where
    by_job : (o : Option Job) → IsSomeAnd o (λ job. IsSomeAnd (slice_get job.slots at) (λ slot. slot.standing ≡ Missed 0)) → is_some o ≡ true
    by_job None h = absurd h
    by_job (Some job) h = refl
owed_there s (Compose j) h = by_job (job_in s.jobs j) h
  where
    by_job : (o : Option Job) → IsSomeAnd o (λ job. job.composer ≡ Some 0) → is_some o ≡ true
    by_job None h = absurd h
    by_job (Some job) h = refl

slot_there : (h : History) (j at : ℕ) (P : Row → Slot → Type 0) → HasSlot h.tables.rows j at P → is_some (job_in (state h).jobs j) ≡ true
slot_there h j at P has = ap is_some (job_seen h.tables.rows j) ∙ by_row (row_in h.tables.rows j) has
  where
    by_row : (o : Option Row) → IsSomeAnd o (λ row. IsSomeAnd (slice_get row.slots at) (P row)) → is_some (option_map job_of o) ≡ true
    by_row None f = absurd f
    by_row (Some row) f = refl

pub missed_there : (h : History) (j at : ℕ) (image : Painting)
    → HasSlot h.tables.rows j at (λ row x. (x.standing ≡ Missed 0) × (row.ended ≡ None → painting_of row.store row.view x ≡ Some image)) → is_some (job_in (state h).jobs j) ≡ true
missed_there h j at image has = slot_there h j at (λ row x. (x.standing ≡ Missed 0) × (row.ended ≡ None → painting_of row.store row.view x ≡ Some image)) has

-- a job that is there isn't unknown, and what is ended has an end
pub there_not_none : (o : Option Job) → is_some o ≡ true → o ≡ None → ⊥
there_not_none None h e = false≢true h
there_not_none (Some job) h e = absurd cc

pub over_is : (s : State) (j : ℕ) (h : How) → OfJob s j (λ job. job.ended ≡ Some h) → is_some (how s j) ≡ true
over_is s j h f = by_job (job_in s.jobs j) f
  where
    by_job : (o : Option Job) → IsSomeAnd o (λ job. job.ended ≡ Some h) → is_some (option_and_then (λ (job : Job). job.ended) o) ≡ true
    by_job None f = absurd f
    by_job (Some job) f = ap is_some f

pub end_is : (s : State) (j : ℕ) (end : Option How) → OfJob s j (λ job. end ≡ job.ended) → end ≡ how s j
end_is s j end f = by_job (job_in s.jobs j) f
  where
    by_job : (o : Option Job) → IsSomeAnd o (λ job. end ≡ job.ended) → end ≡ option_and_then (λ (job : Job). job.ended) o
    by_job None f = absurd f
    by_job (Some job) f = f

-- a live job has no end
pub live_not_over : (s : State) (j : ℕ) (h : How) → OfJob s j (λ job. job.ended ≡ None) → OfJob s j (λ job. job.ended ≡ Some h) → ⊥
live_not_over s j h f g = by_job (job_in s.jobs j) f g
  where
    by_end : (e : Option How) → e ≡ None → e ≡ Some h → ⊥
    by_end None f g = absurd cc
    by_end (Some x) f g = absurd cc

    by_job : (o : Option Job) → IsSomeAnd o (λ job. job.ended ≡ None) → IsSomeAnd o (λ job. job.ended ≡ Some h) → ⊥
    by_job None f g = f
    by_job (Some job) f g = by_end job.ended f g

pub live_there : (s : State) (j : ℕ) → OfJob s j (λ job. job.ended ≡ None) → is_some (job_in s.jobs j) ≡ true
live_there s j f = by_job (job_in s.jobs j) f
  where
    by_job : (o : Option Job) → IsSomeAnd o (λ job. job.ended ≡ None) → is_some o ≡ true
    by_job None f = absurd f
    by_job (Some job) f = refl

-- a job that is there without end is live
pub live_is : (s : State) (j : ℕ) → is_some (job_in s.jobs j) ≡ true → how s j ≡ None → OfJob s j (λ job. job.ended ≡ None)
live_is s j there e = by_job (job_in s.jobs j) there e
  where
    by_job : (o : Option Job) → is_some o ≡ true → option_and_then (λ (job : Job). job.ended) o ≡ None → IsSomeAnd o (λ job. job.ended ≡ None)
    by_job None h e = absurd (false≢true h)
    by_job (Some job) h e = e

-- the job of the task that is due is live
pub due_live : (s : State) (j : ℕ) → IsSomeAnd (task s) (IsOfJob j) → OfJob s j (λ job. job.ended ≡ None)
due_live s j h = by_task (task s) refl h
  where
    looked : (i at : ℕ) → OfSlot s i at (λ job slot. (job.ended ≡ None) × (is_open slot.standing ≡ true)) → OfJob s i (λ job. job.ended ≡ None)
    looked i at f = by_job (job_in s.jobs i) f
      where
        by_slot : (job : Job) (o : Option Slot) → IsSomeAnd o (λ slot. (job.ended ≡ None) × (is_open slot.standing ≡ true)) → job.ended ≡ None
        by_slot job None f = absurd f
        by_slot job (Some slot) f = f.0

        by_job : (o : Option Job) → IsSomeAnd o (λ job. IsSomeAnd (slice_get job.slots at) (λ slot. (job.ended ≡ None) × (is_open slot.standing ≡ true)))
            → IsSomeAnd o (λ job. job.ended ≡ None)
        by_job None f = f
        by_job (Some job) f = by_slot job (slice_get job.slots at) f

    composed : (i : ℕ) → OfJob s i (λ job. (job.ended ≡ None) × (all_ready job.slots ≡ true) × (job.composer ≡ None)) → OfJob s i (λ job. job.ended ≡ None)
    composed i f = by_job (job_in s.jobs i) f
      where
        by_job : (o : Option Job) → IsSomeAnd o (λ job. (job.ended ≡ None) × (all_ready job.slots ≡ true) × (job.composer ≡ None)) → IsSomeAnd o (λ job. job.ended ≡ None)
        by_job None f = f
        by_job (Some job) f = f.0

    by_task : (o : Option Task) → task s ≡ o → IsSomeAnd o (IsOfJob j) → OfJob s j (λ job. job.ended ≡ None)
    by_task None e h = absurd h
    by_task (Some (Look i at)) e h = subst (λ (i : ℕ). OfJob s i (λ job. job.ended ≡ None)) h (looked i at (looks_are_of_live_jobs s i at e))
    by_task (Some (Compose i)) e h = subst (λ (i : ℕ). OfJob s i (λ job. job.ended ≡ None)) h (composed i (composes_are_of_live_jobs s i e))

-- ---- histories

-- an entry behind a stay
pub noted_behind : (old mid new : History) (who : ℕ) (a : Act) → Stays old mid → Notes mid new who a → Notes old new who a
noted_behind old mid new who a stays notes = record {
  opening = notes.opening ∙ stays.opening;
  journal = notes.journal ∙ ap (λ es. es ++ record { caller = who; act = a } ∷ []) stays.journal;
  becomes = notes.becomes ∙ ap (λ (t : Tables). did (state_of t) who a) stays.tables;
  allowed = subst (λ (t : Tables). Allows (state_of t) who a) stays.tables notes.allowed;
  jobs = subst (λ (t : Tables). KeepJobs t.rows new.tables.rows) stays.tables notes.jobs;
}

pub stays_same : (old new : History) → new ≡ old → Stays old new
stays_same old new e =
    let n = ap (λ (h : History). h.spare) e in
    record {
      opening = ap (λ (h : History). h.opening) e;
      journal = ap (λ (h : History). h.journal) e;
      tables = ap (λ (h : History). h.tables) e;
      spare = omega (arith, n);
    }

-- ---- seats

-- a claim starts no job, nor does a task that is done
claim_no_start : (a : Act) → IsClaim a → is_start a ≡ false
claim_no_start (act.Look j at hit) m = refl
claim_no_start (act.Compose j) m = refl
claim_no_start (act.Edit e v) m = absurd m
claim_no_start (act.View c view) m = absurd m
claim_no_start (act.Start c j) m = absurd m
claim_no_start (act.Deliver j at fate) m = absurd m
claim_no_start (act.Finish j) m = absurd m
claim_no_start (act.Fail j) m = absurd m
claim_no_start (act.Cancel j) m = absurd m
claim_no_start (act.Preview j ready) m = absurd m
claim_no_start (act.Save c j) m = absurd m

done_no_start : (t : Task) (a : Act) → MayDo t a → is_start a ≡ false
done_no_start (Look j at) a m = ap is_start m.1
done_no_start (Compose j) a m = ap is_start m

pub done_holds_none : (t : Task) (a : Act) → MayDo t a → held_by a ≡ []
done_holds_none (Look j at) a m = ap held_by m.1
done_holds_none (Compose j) a m = ap held_by m

-- a seat behind a claim
pub seat_taken : (old new : Seat) (end : Taken) → IsSeat old → TakesInto old.history new.history old.held new.held end → new.specs ≡ old.specs → new.lasts ≡ old.lasts
    → IsSeat new
seat_taken old new taken.Hit seat goes specs lasts =
    seat_goes_on old new goes.0 seat goes.1.notes (claim_no_delivery goes.0 goes.1.claim) (sym goes.1.tasks) (claim_no_start goes.0 goes.1.claim) goes.2 specs lasts
seat_taken old new taken.Held seat goes specs lasts =
    let a = goes.0 in
    let more = goes.1.1.0 in
    seat_enters old new a (goes.1.0 ∷ []) seat more.notes (claim_no_delivery a more.claim) goes.1.1.1 more.tasks more.own specs
    (subst (λ (s : State). AreLast s new.lasts) (sym more.notes.becomes)
    (subst (AreLast (did (now old) 0 a)) (sym lasts) (lasts_kept (now old) 0 a old.lasts (claim_no_start a more.claim) seat.lasts)))
seat_taken old new taken.Failed seat goes specs lasts =
    seat_goes_on old new (act.Fail goes.0) seat goes.1 refl refl refl goes.3 specs lasts
seat_taken old new taken.Nothing seat goes specs lasts = seat_stands old new seat (stays_same old.history new.history goes.0) goes.1 specs lasts

-- a seat behind an entry, of what is held now
seat_noted : (old new : Seat) (a : Act) (ts : List HeldTask) → IsSeat old → Notes old.history new.history 0 a → is_start a ≡ false → new.held ≡ ts
    → AllByRecursion (IsHeldOf old.history) ts → HoldsTasks (did (now old) 0 a) (map task_of ts) → Covers (did (now old) 0 a) (map task_of ts)
    → new.specs ≡ old.specs → new.lasts ≡ old.lasts → IsSeat new
seat_noted old new a ts seat notes start e pieces holds covers specs lasts =
    let tasks : map task_of ts ≡ tasks_of new = ap (map task_of) (sym e) in
    record {
      holds = subst (λ (s : State). HoldsTasks s (tasks_of new)) (sym notes.becomes) (subst (HoldsTasks (did (now old) 0 a)) tasks holds);
      covers = subst (λ (s : State). Covers s (tasks_of new)) (sym notes.becomes) (subst (Covers (did (now old) 0 a)) tasks covers);
      pieces = subst (AllByRecursion (IsHeldOf new.history)) (sym e) (all_stay old.history new.history ts notes.jobs pieces);
      specs = subst (λ (s : State). AreSpecs s new.specs) (sym notes.becomes)
          (subst (AreSpecs (did (now old) 0 a)) (sym specs) (specs_kept (now old) 0 a old.specs seat.specs));
      lasts = subst (λ (s : State). AreLast s new.lasts) (sym notes.becomes)
          (subst (AreLast (did (now old) 0 a)) (sym lasts) (lasts_kept (now old) 0 a old.lasts start seat.lasts));
      sized = subst AreSized (sym notes.becomes) (sized_kept (now old) 0 a notes.allowed seat.sized);
    }

-- a seat whose first task is let go, as its job has an end
pub seat_left : (old new : Seat) (t : HeldTask) (ts : List HeldTask) → IsSeat old → old.held ≡ t ∷ ts → new.held ≡ ts → new.specs ≡ old.specs → new.lasts ≡ old.lasts
    → new.history ≡ old.history → is_some (how (now old) (job_of_task (task_of t))) ≡ true → IsSeat new
seat_left old new t ts seat was e specs lasts same over =
    let tasks : map task_of ts ≡ tasks_of new = ap (map task_of) (sym e) in
    let here : now old ≡ now new = ap state (sym same) in
    let first : tasks_of old ≡ task_of t ∷ map task_of ts = ap (map task_of) was in
    let holds = subst (HoldsTasks (now old)) first seat.holds in
    let pieces = subst (AllByRecursion (IsHeldOf old.history)) was seat.pieces in
    record {
      holds = subst (λ (s : State). HoldsTasks s (tasks_of new)) here (subst (HoldsTasks (now old)) tasks (record { owed = holds.owed.1; apart = holds.apart.1 }));
      covers = subst (λ (s : State). Covers s (tasks_of new)) here
          (subst (Covers (now old)) tasks
          (covers_drop (now old) (task_of t) (map task_of ts) (over_how (now old) (job_of_task (task_of t)) over) (subst (Covers (now old)) first seat.covers)));
      pieces = subst (λ (h : History). AllByRecursion (IsHeldOf h) new.held) (sym same) (subst (AllByRecursion (IsHeldOf old.history)) (sym e) pieces.1);
      specs = subst (λ (s : State). AreSpecs s new.specs) here (subst (AreSpecs (now old)) (sym specs) seat.specs);
      lasts = subst (λ (s : State). AreLast s new.lasts) here (subst (AreLast (now old)) (sym lasts) seat.lasts);
      sized = subst AreSized here seat.sized;
    }

-- a seat whose first task is done
pub seat_served : (old new : Seat) (t : HeldTask) (ts : List HeldTask) → IsSeat old → old.held ≡ t ∷ ts → new.held ≡ ts → new.specs ≡ old.specs → new.lasts ≡ old.lasts
    → Served old.history new.history (task_of t) → IsSeat new
seat_served old new t ts seat was e specs lasts (is_done a m notes) =
    let first : tasks_of old ≡ task_of t ∷ map task_of ts = ap (map task_of) was in
    let none : map task_of ts ++ held_by a ≡ map task_of ts = ap (λ (us : List Task). map task_of ts ++ us) (done_holds_none (task_of t) a m) ∙ append-nil (map task_of ts) in
    seat_noted old new a ts seat notes (done_no_start (task_of t) a m) e (subst (AllByRecursion (IsHeldOf old.history)) was seat.pieces).1
    (subst (HoldsTasks (did (now old) 0 a)) none (held_done (now old) (task_of t) (map task_of ts) a notes.allowed m (subst (HoldsTasks (now old)) first seat.holds)))
    (subst (Covers (did (now old) 0 a)) none (covers_done (now old) (task_of t) (map task_of ts) a notes.allowed m (subst (Covers (now old)) first seat.covers)))
    specs lasts
seat_served old new t ts seat was e specs lasts (is_failed notes) =
    let a = act.Fail (job_of_task (task_of t)) in
    let first : tasks_of old ≡ task_of t ∷ map task_of ts = ap (map task_of) was in
    let none : map task_of ts ++ [] ≡ map task_of ts = append-nil (map task_of ts) in
    let holds = subst (HoldsTasks (now old)) first seat.holds in
    seat_noted old new a ts seat notes refl e (subst (AllByRecursion (IsHeldOf old.history)) was seat.pieces).1
    (subst (HoldsTasks (did (now old) 0 a)) none (held_more (now old) a (map task_of ts) notes.allowed refl (record { owed = holds.owed.1; apart = holds.apart.1 })))
    (subst (Covers (did (now old) 0 a)) none
    (covers_task_failed (task_of t ∷ map task_of ts) (now old) (job_of_task (task_of t)) (itself (job_of_task (task_of t))) notes.allowed (subst (Covers (now old)) first seat.covers)))
    specs lasts
  where
    itself : (n : ℕ) → (n == n) ≡ true
    itself n = grind (arith, nat_tests)
seat_served old new t ts seat was e specs lasts (is_let_go j is same over) = seat_left old new t ts seat was e specs lasts same over

-- whatever became of it
pub seat_given : {E : Type 0} (old new : Seat) (t : HeldTask) (ts : List HeldTask) (r : Result (Unit {0}) E) → IsSeat old → old.held ≡ t ∷ ts → new.held ≡ ts → new.specs ≡ old.specs
    → new.lasts ≡ old.lasts → OnOk r (Served old.history new.history (task_of t)) → OnErr r (Left old.history new.history (job_of_task (task_of t))) → IsSeat new
seat_given old new t ts (Ok x) seat was e specs lasts ok err = seat_served old new t ts seat was e specs lasts ok
seat_given old new t ts (Err x) seat was e specs lasts ok err = seat_left old new t ts seat was e specs lasts err.same err.over

pub seat_taken_by : {E : Type 0} (old new : Seat) (r : Result Taken E) → IsSeat old → IfOk r (TakesInto old.history new.history old.held new.held)
    → OnErr r ((new.history ≡ old.history) × (new.held ≡ old.held)) → new.specs ≡ old.specs → new.lasts ≡ old.lasts → IsSeat new
seat_taken_by old new (Ok end) seat ok err specs lasts = seat_taken old new end seat ok specs lasts
seat_taken_by old new (Err x) seat ok err specs lasts = seat_stands old new seat (stays_same old.history new.history err.0) err.1 specs lasts

-- the first task of a list, and those behind it
pub first_task : (ts : List HeldTask) (t : HeldTask) → 0 < length ts → t ≡ slice_index_or ts 0 t → ts ≡ t ∷ drop 1 ts
first_task [] t few h = absurd (omega (arith, few))
first_task (x ∷ xs) t few h = ap (λ (y : HeldTask). y ∷ xs) (sym h)

-- what is held is due
pub first_due : (seat : Seat) (t : HeldTask) (ts : List HeldTask) → IsSeat seat → seat.held ≡ t ∷ ts → IsDueOf seat.history t
first_due seat t ts is was = record {
  owed = (subst (λ (us : List HeldTask). HoldsTasks (now seat) (map task_of us)) was is.holds).owed.0;
  own = (subst (AllByRecursion (IsHeldOf seat.history)) was is.pieces).0;
}

-- ---- claims

pub failed_live : (old mid : History) (e : ClaimError) (j : ℕ) → j ≡ failed_job e → ClaimAnswer old (Err e) → Stays old mid → OfJob (state mid) j (λ job. job.ended ≡ None)
failed_live old mid (claim_error.NoMemory k) j e answer stays =
    subst (λ (i : ℕ). OfJob (state mid) i (λ job. job.ended ≡ None)) (sym e)
    (subst (λ (t : Tables). OfJob (state_of t) k (λ job. job.ended ≡ None)) (sym stays.tables) (due_live (state old) k answer))

pub takes_failed : (old mid new : History) (e : ClaimError) (j : ℕ) (ts now_ts : List HeldTask) → j ≡ failed_job e → ClaimAnswer old (Err e) → Stays old mid
    → Notes mid new 0 (act.Fail j) → now_ts ≡ ts → TakesInto old new ts now_ts taken.Failed
takes_failed old mid new (claim_error.NoMemory k) j ts now_ts e answer stays notes same =
    (j, noted_behind old mid new 0 (act.Fail j) stays notes, subst (λ (i : ℕ). IsSomeAnd (task (state old)) (IsOfJob i)) (sym e) answer, same)

pub takes_piece : (old new : History) (piece : Piece) (ts now_ts : List HeldTask) → Notes old new 0 (act.Look piece.job piece.slot false)
    → HasSlot old.tables.rows piece.job piece.slot (IsPiece piece.input piece.view) → now_ts ≡ ts ++ held.Paint piece ∷ [] → TakesInto old new ts now_ts taken.Held
takes_piece old new piece ts now_ts notes own e =
    (act.Look piece.job piece.slot false, (held.Paint piece, (record { claim = tt; notes = notes; tasks = refl; own = all_stay old new (held.Paint piece ∷ []) notes.jobs (own, tt) }, e)))

pub takes_compose : (old new : History) (j : ℕ) (input : Composition) (ts now_ts : List HeldTask) → Notes old new 0 (act.Compose j)
    → IsSomeAnd (row_in old.tables.rows j) (λ row. input ≡ whole_of row) → now_ts ≡ ts ++ held.Compose j input ∷ [] → TakesInto old new ts now_ts taken.Held
takes_compose old new j input ts now_ts notes own e =
    (act.Compose j, (held.Compose j input, (record { claim = tt; notes = notes; tasks = refl; own = all_stay old new (held.Compose j input ∷ []) notes.jobs (own, tt) }, e)))

pub none_held : (ts : List HeldTask) → length ts ≡ 0 → ts ≡ []
none_held [] e = refl
none_held (t ∷ ts) e = absurd (omega (arith, e))
