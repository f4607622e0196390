-- The commands that write pictures: what they leave of a session and of the tray.
use Rattle.std.proofs.Common.{◌≡◌, refl, ap, sym, ◌∙◌, subst, ◌≤◌, ℕ, zero, suc, ◌+◌, Bool, true, false, if◌then◌else◌, List, [], ◌∷◌, ◌++◌, map, length, take, slice_get, Option, Some, None, is_some, option_map, option_and_then, option_to_list, arith, IsSome, IsSomeAnd, IfSome, IsTrue, OnOk, OnErr, Result, Ok, Err}
use Rattle.std.specs.List.{AllByRecursion}
use Rattle.std.specs.Option.{option_or, option_map_or}
use Rattle.std.proofs.lemmas.List.{append-nil, length-append}
use Rattle.std.proofs.lemmas.Option.{slice_get-map}
use Rattle.cv_model.specs.declared.colour.Rgb.{Rgb}
use Rattle.cv_model.specs.Paintings.{Composition, composed}
use Rattle.cv_model.specs.Pictures.{picture, picture_with}
use Rattle.cv_model.specs.Rasters.{Raster, ppm_of}
use Rattle.cv_outside.specs.Counts.{Rose}
use Rattle.cv_model.specs.Layers.{Opening}
use Rattle.cv_model.specs.Views.{PixelGrid}
use Rattle.cv_event.specs.Legality.{IsLegal}
use Rattle.cv_session.specs.Playable.{IsPlayable}
use Rattle.cv_outside.specs.Seen.{NamedFiles, TraySeen}
use Rattle.cv_outside.specs.Writes.{OthersStay}
use Rattle.cv_event.specs.declared.entry.Act.{Act}
use Rattle.cv_event.specs.declared.entry.Act.TheVariants as act
use Rattle.cv_event.specs.declared.entry.Entry.{Entry}
use Rattle.cv_event.specs.declared.entry.How.{How}
use Rattle.cv_event.specs.declared.refused.Reason.{Reason}
use Rattle.cv_event.specs.declared.refused.Reason.TheVariants as reason
use Rattle.cv_event.specs.declared.refused.Refused.{Refused}
use Rattle.cv_event.specs.declared.slot.Task.{Task}
use Rattle.cv_event.specs.States.{Taken, Job, Canvas, State, job_in, taken_of, did}
use Rattle.cv_event.specs.Legality.{OfJob, how, ready_from, ready_bits}
use Rattle.cv_event.specs.Histories.{taken}
use Rattle.cv_event.specs.Lines.{listed_slots}
use Rattle.cv_event.specs.ShownLaws.{is_on, finished_by, last_finished}
use Rattle.cv_event.specs.TextLaws.{FitsOpening}
use Rattle.cv_event.proofs.FitLemmas.{jobs_have_few_slots}
use Rattle.cv_event.proofs.ShownLemmas.{preview_lists_ready, published_is_last_finished}
use Rattle.cv_event.proofs.DueLemmas.{canvases_stay}
use Rattle.cv_tables.specs.Rows.{Row, row_in, job_of, compose_of, whole_of}
use Rattle.cv_tables.specs.Tabs.{Tab, PublishedJob, taken_in, canvas_of}
use Rattle.cv_store.specs.Stores.{project_of}
use Rattle.cv_desk.specs.Desks.{History, state, Notes, Stays}
use Rattle.cv_desk.specs.Answers.{PreviewAnswer, SaveAnswer, SaveNotes}
use Rattle.cv_desk.specs.declared.errors.PreviewError.{PreviewError}
use Rattle.cv_desk.specs.declared.errors.PreviewError.TheVariants as preview_error
use Rattle.cv_desk.specs.declared.errors.SaveError.{SaveError}
use Rattle.cv_desk.specs.declared.errors.SaveError.TheVariants as save_error
use Rattle.cv_desk.specs.Laws.{present, ShowsLast, IsKnown}
use Rattle.cv_script.specs.declared.script.Command.{Command}
use Rattle.cv_script.specs.declared.script.Command.TheVariants as command
use Rattle.cv_script.specs.declared.script.Numbered.{Numbered}
use Rattle.cv_session.specs.declared.outputs.Stop.{Stop}
use Rattle.cv_session.specs.declared.outputs.Stop.TheVariants as stop
use Rattle.cv_session.specs.Responses.{Response, Refuses as Denies, held_by, last_job, at_job, unless_ended, ended_reason, ready_of, saves, response}
use Rattle.cv_session.specs.Plays.{Written, Play, refusals, picture_by, file_of, file_with, Plays}
use Rattle.cv_session.specs.Entered.{MayAct}
use Rattle.cv_session.specs.Files.{Puts, Breaks, IsOther, Spares, SparesOne}
use Rattle.cv_session.specs.declared.report.Report.{Report}
use Rattle.cv_session.specs.Follows.{at_first, IsThrough, IsBefore}
use Rattle.cv_session.specs.Writes.{is_refused, writes}
use Rattle.cv_session.specs.Reports.{reported, RunDone, RunBroken}
use Rattle.cv_session.specs.Outputs.{IsPut, PreviewEnters, SaveEnters, RefusedWrite, Done, CommandEnds}
use Rattle.cv_session.specs.Seats.{Seat, now, task_of, tasks_of, IsSeat, Enters, Stands, Obeys}
use Rattle.cv_session.proofs.PlayLemmas.{same_some, joined}
use Rattle.cv_session.proofs.WriteLemmas.{last_is_there, name_there, not_refused_yet, files_are_writes}
use Rattle.cv_session.proofs.SeatLemmas.{seat_goes_on, seat_stands, stays_same}
use Rattle.cv_session.proofs.MoveLemmas.{declines_behind, denies}
use Rattle.cv_session.proofs.ObeyLemmas.{enters, no_canvas, no_job}

-- ---- files of a tray

-- files are put one after the other
pub puts_more : (fs gs : List Written) (old mid new : NamedFiles) → Puts fs old mid → Puts gs mid new → Puts (fs ++ gs) old new
puts_more [] [] old mid new f g = λ q. g q ∙ f q
puts_more [] (w ∷ ws) old mid new f g = (g.0, (g.1.0, λ q n. g.1.1 q n ∙ f q), g.2)
puts_more (v ∷ vs) gs old mid new f g = (f.0, f.1, puts_more vs gs f.0 mid new f.2 g)

-- those put before one whose write failed
pub broken_at : (fs : List Written) (w : Written) (old mid new : NamedFiles) → Puts fs old mid → OthersStay mid new w.name
    → Breaks (length fs) (fs ++ w ∷ []) old new
broken_at fs w old mid new f o = record {
  mid = mid;
  before = subst (λ (ws : List Written). Puts ws old mid) (sym (front fs)) f;
  failed = w;
  is = behind_all fs;
  others = o;
}
  where
    front : (fs : List Written) → take (length fs) (fs ++ w ∷ []) ≡ fs
    front [] = refl
    front (v ∷ vs) = ap (λ (ws : List Written). v ∷ ws) (front vs)

    behind_all : (fs : List Written) → slice_get (fs ++ w ∷ []) (length fs) ≡ Some w
    behind_all [] = refl
    behind_all (v ∷ vs) = behind_all vs

-- what no command of a script writes, none of them does
pub is_other : (script : List Numbered) (k : ℕ) (n : Numbered) (name : List ℕ) → slice_get script k ≡ Some n
    → AllByRecursion (λ (n : Numbered). IsOther name n.command) script → IsOther name n.command
is_other [] k n name e f = absurd cc
is_other (m ∷ ms) zero n name e f = subst (λ (n : Numbered). IsOther name n.command) (same_some e) f.0
is_other (m ∷ ms) (suc k) n name e f = is_other ms k n name e f.1

pub spares_more : (script : List Numbered) (k : ℕ) (n : Numbered) (old mid new : NamedFiles) → slice_get script k ≡ Some n
    → Spares script old mid → SparesOne n.command mid new → Spares script old new
spares_more script k n old mid new e f g = λ name other. g name (is_other script k n name e other) ∙ f name other

-- a tray that is as before
pub spares_same : (script : List Numbered) (old : NamedFiles) → Spares script old old
spares_same script old = λ name other. refl

-- ---- a file that is put

-- what a write leaves of the files that a command doesn't write
pub put_spares : (c : Command) (file : Written) (r : Result ℕ Stop) (old new : TraySeen) → file_of c ≡ Some file.name
    → IsPut file r old new → IsTrue old.tells → SparesOne c old.files new.files
put_spares c file (Ok n) old new f p t = λ name other. (p.1 t).1 name (λ e. other (f ∙ ap Some (sym e)))
put_spares c file (Err stop.Tray) old new f p t = λ name other. p.1 t name (λ e. other (f ∙ ap Some (sym e)))
put_spares c file (Err stop.NoMemory) old new f p t = λ name other. p t name

-- a command that is done by one entry, and writes this file
pub put_ends : (old new : Seat) (line : ℕ) (c : Command) (file : Written) (r : Result ℕ Stop) (tray tray' : TraySeen)
    → file_of c ≡ Some file.name → Obeys old new line c (file ∷ []) → new.refused ≡ old.refused → IsPut file r tray tray' → CommandEnds old new line c r tray tray'
put_ends old new line c file (Ok n) tray tray' f o s p = record {
  files = file ∷ [];
  obeys = o;
  count = p.0;
  puts = λ t. (tray'.files, p.1 t, λ q. refl);
}
put_ends old new line c file (Err stop.Tray) tray tray' f o s p =
    record { file = file; names = f; obeys = o; refused = s; fault = p.0; others = p.1 }
put_ends old new line c file (Err stop.NoMemory) tray tray' f o s p = tt

-- a command that writes no file
pub no_files : (old new : Seat) (line : ℕ) (c : Command) (tray : TraySeen) → Obeys old new line c [] → Done old new line c 0 tray tray
no_files old new line c tray o = record { files = []; obeys = o; count = refl; puts = λ t q. refl }

-- ---- refused commands

refused_ends : (old mid new : Seat) (line : ℕ) (c : Command) (why : Reason) (r : Result ℕ Stop) (tray : TraySeen)
    → response (now old) (length (tasks_of old)) c ≡ Denies why → Stands old mid → RefusedWrite mid new line why r
    → CommandEnds old new line c r tray tray
refused_ends old mid new line c why (Ok n) tray d s f = record {
  files = [];
  obeys = denies old new line c why d (declines_behind old mid new line why s f.1);
  count = f.0;
  puts = λ t q. refl;
}
refused_ends old mid new line c why (Err stop.Tray) tray d s f = absurd f
refused_ends old mid new line c why (Err stop.NoMemory) tray d s f = tt

-- ---- pictures

few_in : (jobs : List Job) (m : ℕ) (job : Job) → AllByRecursion (λ (job : Job). length job.slots ≤ 32) jobs → slice_get jobs m ≡ Some job
    → length job.slots ≤ 32
few_in [] m job f e = absurd cc
few_in (x ∷ xs) zero job f e = subst (λ (job : Job). length job.slots ≤ 32) (same_some e) f.0
few_in (x ∷ xs) (suc m) job f e = few_in xs m job f.1 e

few_slots : (jobs : List Job) (j : ℕ) (job : Job) → AllByRecursion (λ (job : Job). length job.slots ≤ 32) jobs → job_in jobs j ≡ Some job
    → length job.slots ≤ 32
few_slots jobs zero job f e = absurd cc
few_slots jobs (suc m) job f e = few_in jobs m job f e

-- the picture that a preview shows is composed of the job's ready slots
preview_shows : (h : History) (j : ℕ) (row : Row) → IsKnown h → FitsOpening h.opening → row_in h.tables.rows j ≡ Some row → row.ended ≡ None
    → picture_by (state h) (act.Preview j (ready_bits row.slots)) ≡ Some (composed (compose_of row))
preview_shows h j row known fits e live =
    let shown = known.jobs j row e in
    let few = few_slots (present h).jobs j (job_of row) (jobs_have_few_slots h.opening h.journal fits known.legal) shown.job in
    let listed = preview_lists_ready (present h) 0 j (ready_bits row.slots) (subst (λ o. IsSomeAnd o (λ (job : Job). (job.ended ≡ None) × (ready_bits row.slots ≡ ready_bits job.slots))) (sym shown.job) (live, refl))
    (subst (λ o. IsSomeAnd o (λ (job : Job). length job.slots ≤ 32)) (sym shown.job) few) in
    let are : listed_slots (ready_bits row.slots) ≡ ready_from 0 row.slots = listed ∙ ap (λ (o : Option Job). option_map_or (λ (job : Job). ready_from 0 job.slots) o []) shown.job in
    ap (λ (s : State). picture_by s (act.Preview j (ready_bits row.slots))) (sym known.state)
    ∙ ap (λ (o : Option Job). option_map (λ (t : Taken). picture_with t.project t.view (listed_slots (ready_bits row.slots))) (option_map (taken_of j) o)) shown.job
    ∙ ap (λ (slots : List ℕ). Some (picture_with (project_of row.store) row.view slots)) are
    ∙ ap Some (sym shown.ready)

-- what was finished last on a canvas is what its job took
taken_own : (s : State) (j : ℕ) (t : Taken) → taken s j ≡ Some t → taken s t.job ≡ Some t
taken_own s j t h = by_job (job_in s.jobs j) h
  where
    by_job : (o : Option Job) → option_map (taken_of j) o ≡ Some t → taken s t.job ≡ Some t
    by_job None e = absurd cc
    by_job (Some job) e = ap (taken s) (sym (ap (λ (t : Taken). t.job) (same_some e))) ∙ h

finished_taken : (s : State) (c : ℕ) (a : Act) (t : Taken) → finished_by s c a ≡ Some t → taken s t.job ≡ Some t
finished_taken s c (act.Finish j) t h = by_test (is_on s c j) h
  where
    by_test : (x : Bool) → (if x then taken s j else None) ≡ Some t → taken s t.job ≡ Some t
    by_test true h = taken_own s j t h
    by_test false h = absurd cc
finished_taken s c (act.Edit e v) t h = absurd cc
finished_taken s c (act.View k view) t h = absurd cc
finished_taken s c (act.Start k j) t h = absurd cc
finished_taken s c (act.Look j at hit) t h = absurd cc
finished_taken s c (act.Deliver j at fate) t h = absurd cc
finished_taken s c (act.Compose j) t h = absurd cc
finished_taken s c (act.Fail j) t h = absurd cc
finished_taken s c (act.Cancel j) t h = absurd cc
finished_taken s c (act.Preview j ready) t h = absurd cc
finished_taken s c (act.Save k j) t h = absurd cc

last_taken : (s : State) (c : ℕ) (es : List Entry) (t : Taken) → last_finished s c es ≡ Some t → taken s t.job ≡ Some t
last_taken s c [] t h = absurd cc
last_taken s c (e ∷ es) t h = by_rest (last_finished s c es) refl (last_taken s c es t) h
  where
    by_rest : (o : Option Taken) → last_finished s c es ≡ o → (last_finished s c es ≡ Some t → taken s t.job ≡ Some t) → option_or o (finished_by s c e.act) ≡ Some t
        → taken s t.job ≡ Some t
    by_rest None g rec h = finished_taken s c e.act t h
    by_rest (Some u) g rec h = rec (g ∙ h)

-- the picture that a save shows is that of all slots of the job that was finished last
save_shows : (h : History) (c : ℕ) (tab : Tab) (last : PublishedJob) → IsKnown h → slice_get h.tables.tabs c ≡ Some tab → tab.published ≡ Some last
    → picture_by (state h) (act.Save c last.job) ≡ Some (composed (whole_of last.row))
save_shows h c tab last known e p =
    let shown = subst (λ o. IfSome o (ShowsLast (present h) c)) p (known.canvases c tab e).last in
    let law = published_is_last_finished h.opening h.journal c known.legal (there (slice_get (present h).canvases c) refl shown.taken) in
    let took = last_taken (present h) c h.journal (taken_in last) (sym law ∙ shown.taken) in
    ap (λ (s : State). picture_by s (act.Save c last.job)) (sym known.state)
    ∙ ap (option_map (λ (t : Taken). picture t.project t.view)) took
    ∙ ap Some (sym shown.picture)
  where
    there : (o : Option Canvas) → slice_get (present h).canvases c ≡ o → option_and_then (λ (k : Canvas). k.published) o ≡ Some (taken_in last)
        → IsSome (slice_get h.opening.canvases c)
    there None g f = absurd cc
    there (Some k) g f = ap is_some (sym (canvases_stay h.opening h.journal c) ∙ ap (option_map (λ (k : Canvas). k.spec)) g)

-- ---- what the desk answers

job_in_map : (rows : List Row) (j : ℕ) → job_in (map job_of rows) j ≡ option_map job_of (row_in rows j)
job_in_map rows zero = refl
job_in_map rows (suc m) = slice_get-map job_of rows m

pub preview_enters : (old new : Seat) (j : ℕ) (r : Result Composition PreviewError) → IsKnown old.history → FitsOpening old.history.opening
    → PreviewAnswer old.history j r → OnOk r (OfJob (now old) j (λ job. Notes old.history new.history 0 (act.Preview j (ready_bits job.slots))))
    → new.held ≡ old.held → new.refused ≡ old.refused → PreviewEnters old new j r
preview_enters old new j (Ok made) known fits answer ok held refused = by_row (row_in old.history.tables.rows j) refl answer
  where
    by_row : (o : Option Row) → row_in old.history.tables.rows j ≡ o → IsSomeAnd o (λ row. (row.ended ≡ None) × (made ≡ compose_of row)) → PreviewEnters old new j (Ok made)
    by_row None e h = absurd h
    by_row (Some row) e h =
        let shown = known.jobs j row e in
        let job : job_in (now old).jobs j ≡ Some (job_of row) = ap (λ (s : State). job_in s.jobs j) (sym known.state) ∙ shown.job in (
          ready_bits row.slots,
          record {
            notes = subst (λ o. IsSomeAnd o (λ (job : Job). Notes old.history new.history 0 (act.Preview j (ready_bits job.slots)))) job ok;
            held = held;
            refused = refused;
          },
          preview_shows old.history j row known fits e h.0 ∙ ap (λ (m : Composition). Some (composed m)) (sym h.1),
        )
preview_enters old new j (Err preview_error.UnknownJob) known fits answer ok held refused = by_row (row_in old.history.tables.rows j) refl answer
  where
    by_row : (o : Option Row) → row_in old.history.tables.rows j ≡ o → is_some o ≡ false → job_in (now old).jobs j ≡ None
    by_row None e h = job_in_map old.history.tables.rows j ∙ ap (option_map job_of) e
    by_row (Some row) e h = absurd cc
preview_enters old new j (Err (preview_error.Ended e)) known fits answer ok held refused = by_row (row_in old.history.tables.rows j) refl answer
  where
    by_row : (o : Option Row) → row_in old.history.tables.rows j ≡ o → IsSomeAnd o (λ row. row.ended ≡ Some e) → OfJob (now old) j (λ job. job.ended ≡ Some e)
    by_row None is h = absurd h
    by_row (Some row) is h =
        let job : job_in (now old).jobs j ≡ Some (job_of row) = ap (λ (s : State). job_in s.jobs j) (sym known.state) ∙ (known.jobs j row is).job in
        subst (λ o. IsSomeAnd o (λ (job : Job). job.ended ≡ Some e)) (sym job) h
preview_enters old new j (Err preview_error.NoMemory) known fits answer ok held refused = tt

pub save_enters : (old new : Seat) (c : ℕ) (r : Result Composition SaveError) → IsKnown old.history → SaveAnswer old.history c r
    → SaveNotes old.history new.history 0 c r → new.held ≡ old.held → new.refused ≡ old.refused → SaveEnters old new c r
save_enters old new c (Ok made) known answer notes held refused = by_tab (slice_get old.history.tables.tabs c) refl answer
  where
    by_last : (tab : Tab) (o : Option PublishedJob) → slice_get old.history.tables.tabs c ≡ Some tab → tab.published ≡ o → IsSomeAnd o (λ last. made ≡ whole_of last.row)
        → SaveEnters old new c (Ok made)
    by_last tab None e p h = absurd h
    by_last tab (Some last) e p h =
        let canvas : slice_get (now old).canvases c ≡ Some (canvas_of tab) = slice_get-map canvas_of old.history.tables.tabs c ∙ ap (option_map canvas_of) e in
        let noted = subst (λ o. IsSomeAnd o (λ (k : Canvas). IsSomeAnd k.published (λ (t : Taken). Notes old.history new.history 0 (act.Save c t.job)))) canvas notes in (
          last.job,
          record {
            notes = subst (λ o. IsSomeAnd (option_map taken_in o) (λ (t : Taken). Notes old.history new.history 0 (act.Save c t.job))) p noted;
            held = held;
            refused = refused;
          },
          save_shows old.history c tab last known e p ∙ ap (λ (m : Composition). Some (composed m)) (sym h),
        )

    by_tab : (o : Option Tab) → slice_get old.history.tables.tabs c ≡ o → IsSomeAnd o (λ tab. IsSomeAnd tab.published (λ last. made ≡ whole_of last.row))
        → SaveEnters old new c (Ok made)
    by_tab None e h = absurd h
    by_tab (Some tab) e h = by_last tab tab.published e refl h
save_enters old new c (Err save_error.UnknownCanvas) known answer notes held refused = none_of (slice_get (now old).canvases c) answer
  where
    none_of : (o : Option Canvas) → is_some o ≡ false → o ≡ None
    none_of None h = refl
    none_of (Some k) h = absurd cc
save_enters old new c (Err save_error.Nothing) known answer notes held refused = answer
save_enters old new c (Err save_error.NoMemory) known answer notes held refused = tt

-- a session is whole behind them
pub preview_seat : (old new : Seat) (j : ℕ) (r : Result Composition PreviewError) → IsSeat old
    → PreviewAnswer old.history j r → OnOk r (OfJob (now old) j (λ job. Notes old.history new.history 0 (act.Preview j (ready_bits job.slots))))
    → new.held ≡ old.held → new.specs ≡ old.specs → new.lasts ≡ old.lasts → OnErr r (Stays old.history new.history) → IsSeat new
preview_seat old new j (Ok made) seat answer ok held specs lasts err = by_job (job_in (now old).jobs j) ok
  where
    by_job : (o : Option Job) → IsSomeAnd o (λ job. Notes old.history new.history 0 (act.Preview j (ready_bits job.slots))) → IsSeat new
    by_job None notes = absurd notes
    by_job (Some job) notes = seat_goes_on old new (act.Preview j (ready_bits job.slots)) seat notes refl refl refl held specs lasts
preview_seat old new j (Err e) seat answer ok held specs lasts err = seat_stands old new seat err held specs lasts

pub save_seat : (old new : Seat) (c : ℕ) (r : Result Composition SaveError) → IsSeat old → IsKnown old.history → SaveAnswer old.history c r
    → SaveNotes old.history new.history 0 c r → new.held ≡ old.held → new.refused ≡ old.refused → new.specs ≡ old.specs → new.lasts ≡ old.lasts → IsSeat new
save_seat old new c (Ok made) seat known answer notes held refused specs lasts =
    let f = save_enters old new c (Ok made) known answer notes held refused in
    seat_goes_on old new (act.Save c f.0) seat f.1.notes refl refl refl held specs lasts
save_seat old new c (Err save_error.NoMemory) seat known answer notes held refused specs lasts = seat_stands old new seat notes held specs lasts
save_seat old new c (Err save_error.UnknownCanvas) seat known answer notes held refused specs lasts =
    seat_stands old new seat (stays_same old.history new.history notes) held specs lasts
save_seat old new c (Err save_error.Nothing) seat known answer notes held refused specs lasts =
    seat_stands old new seat (stays_same old.history new.history notes) held specs lasts

-- ---- the commands

-- a command that speaks of the last job of a canvas, which has an end
ended_job : (s : State) (c j : ℕ) (h : How) (act_on : ℕ → Act) → IsSome (slice_get s.canvases c) → last_job s c ≡ Some j → OfJob s j (λ job. job.ended ≡ Some h)
    → at_job s c (λ k. unless_ended (how s k) (act_on k)) ≡ Denies (ended_reason h)
ended_job s c j h act_on there last e = by_canvas (slice_get s.canvases c) there
  where
    ask : ℕ → Response
    ask k = unless_ended (how s k) (act_on k)

    how_is : (o : Option Job) → IsSomeAnd o (λ job. job.ended ≡ Some h) → option_and_then (λ (job : Job). job.ended) o ≡ Some h
    how_is None f = absurd f
    how_is (Some job) f = f

    by_canvas : (o : Option Canvas) → is_some o ≡ true
        → option_map_or (λ (k : Canvas). option_map_or ask (last_job s c) (Denies reason.NoJob)) o (Denies reason.UnknownCanvas) ≡ Denies (ended_reason h)
    by_canvas None there = absurd cc
    by_canvas (Some k) there =
        ap (λ (o : Option ℕ). option_map_or ask o (Denies reason.NoJob)) last
        ∙ ap (λ (o : Option How). unless_ended o (act_on j)) (how_is (job_in s.jobs j) e)

-- a seat is as it was
same_seat : (seat : Seat) → Stands seat seat
same_seat seat = record {
  stays = record { opening = refl; journal = refl; tables = refl; spare = omega arith };
  held = refl;
  refused = refl;
}

-- a picture that a command writes
picture_ends : (old new : Seat) (line : ℕ) (c : Command) (a : Act) (file bytes : List ℕ) (p : Raster Rgb) (r : Result ℕ Stop) (tray tray' : TraySeen)
    → MayAct (now old) (length (tasks_of old)) c a → held_by a ≡ [] → ((line seen : ℕ) → refusals line seen a ≡ []) → file_of c ≡ Some file
    → picture_by (did (now old) 0 a) a ≡ Some p → bytes ≡ ppm_of p → Enters old new a → IsPut (record { name = file; bytes = bytes }) r tray tray'
    → CommandEnds old new line c r tray tray'
picture_ends old new line c a file bytes p r tray tray' may none silent names shows are enters_ put =
    put_ends old new line c (record { name = file; bytes = bytes }) r tray tray' names
    (enters old new line c a (record { name = file; bytes = bytes } ∷ []) may (record {
      notes = enters_.notes;
      held = ap (map task_of) enters_.held ∙ sym (append-nil (tasks_of old)) ∙ ap (λ (ts : List Task). tasks_of old ++ ts) (sym none);
      refused = enters_.refused ∙ sym (append-nil old.refused) ∙ ap (λ (rs : List Refused). old.refused ++ rs) (sym (silent line (suc (length old.history.journal))));
      writes = ap (λ (o : Option (List ℕ)). option_to_list (option_and_then (λ name. option_map (file_with name) (picture_by (did (now old) 0 a) a)) o)) names
          ∙ ap (λ (o : Option (Raster Rgb)). option_to_list (option_map (file_with file) o)) shows
          ∙ ap (λ (b : List ℕ). record { name = file; bytes = b } ∷ []) (sym are);
    })) enters_.refused put

pub preview_ends : (old new : Seat) (line c j : ℕ) (file bytes : List ℕ) (made : Composition) (r : Result ℕ Stop) (tray tray' : TraySeen)
    → IsSome (slice_get (now old).canvases c) → last_job (now old) c ≡ Some j → PreviewEnters old new j (Ok made) → bytes ≡ ppm_of (composed made)
    → IsPut (record { name = file; bytes = bytes }) r tray tray' → CommandEnds old new line (command.Preview c file) r tray tray'
preview_ends old new line c j file bytes made r tray tray' there last f are put =
    picture_ends old new line (command.Preview c file) (act.Preview j f.0) file bytes (composed made) r tray tray'
    (there, subst (λ o. IsSomeAnd o (λ k. (ready : ℕ) × (act.Preview j f.0 ≡ act.Preview k ready))) (sym last) (f.0, refl))
    refl (λ line seen. refl) refl f.2 are f.1 put

pub save_ends : (old new : Seat) (line c : ℕ) (file bytes : List ℕ) (made : Composition) (r : Result ℕ Stop) (tray tray' : TraySeen)
    → SaveEnters old new c (Ok made) → bytes ≡ ppm_of (composed made)
    → IsPut (record { name = file; bytes = bytes }) r tray tray' → CommandEnds old new line (command.Save c file) r tray tray'
save_ends old new line c file bytes made r tray tray' f are put =
    picture_ends old new line (command.Save c file) (act.Save c f.0) file bytes (composed made) r tray tray'
    (f.0, refl) refl (λ line seen. refl) refl f.2 are f.1 put

-- refused ones

-- what a canvas's last job is
last_of : (s : State) (c : ℕ) → option_map (λ k. last_job s c) (slice_get s.canvases c) ≡ Some None → IsSome (slice_get s.canvases c) × (last_job s c ≡ None)
last_of s c e = by_canvas (slice_get s.canvases c) e
  where
    by_canvas : (o : Option Canvas) → option_map (λ (k : Canvas). last_job s c) o ≡ Some None → (is_some o ≡ true) × (last_job s c ≡ None)
    by_canvas None e = absurd cc
    by_canvas (Some k) e = (refl, same_some e)

no_last : (s : State) (c : ℕ) → option_map (λ k. last_job s c) (slice_get s.canvases c) ≡ None → slice_get s.canvases c ≡ None
no_last s c e = by_canvas (slice_get s.canvases c) e
  where
    by_canvas : (o : Option Canvas) → option_map (λ (k : Canvas). last_job s c) o ≡ None → o ≡ None
    by_canvas None e = refl
    by_canvas (Some k) e = absurd cc

pub preview_no_canvas : (old new : Seat) (line c : ℕ) (file : List ℕ) (r : Result ℕ Stop) (tray : TraySeen)
    → option_map (λ k. last_job (now old) c) (slice_get (now old).canvases c) ≡ None
    → RefusedWrite old new line reason.UnknownCanvas r → CommandEnds old new line (command.Preview c file) r tray tray
preview_no_canvas old new line c file r tray e f =
    refused_ends old old new line (command.Preview c file) reason.UnknownCanvas r tray (no_canvas (now old) c _ (no_last (now old) c e)) (same_seat old) f

pub preview_no_job : (old new : Seat) (line c : ℕ) (file : List ℕ) (r : Result ℕ Stop) (tray : TraySeen)
    → option_map (λ k. last_job (now old) c) (slice_get (now old).canvases c) ≡ Some None → RefusedWrite old new line reason.NoJob r
    → CommandEnds old new line (command.Preview c file) r tray tray
preview_no_job old new line c file r tray e f =
    let last = last_of (now old) c e in
    refused_ends old old new line (command.Preview c file) reason.NoJob r tray (no_job (now old) c _ last.0 last.1) (same_seat old) f

pub preview_ended : (old mid new : Seat) (line c j : ℕ) (h : How) (file : List ℕ) (r : Result ℕ Stop) (tray : TraySeen) → IsSome (slice_get (now old).canvases c)
    → last_job (now old) c ≡ Some j → PreviewEnters old mid j (Err (preview_error.Ended h)) → Stands old mid → RefusedWrite mid new line (ended_reason h) r
    → CommandEnds old new line (command.Preview c file) r tray tray
preview_ended old mid new line c j h file r tray there last e s f =
    refused_ends old mid new line (command.Preview c file) (ended_reason h) r tray
    (ended_job (now old) c j h (λ k. act.Preview k (ready_of (now old) k)) there last e) s f

pub save_no_canvas : (old mid new : Seat) (line c : ℕ) (file : List ℕ) (r : Result ℕ Stop) (tray : TraySeen) → SaveEnters old mid c (Err save_error.UnknownCanvas)
    → Stands old mid → RefusedWrite mid new line reason.UnknownCanvas r → CommandEnds old new line (command.Save c file) r tray tray
save_no_canvas old mid new line c file r tray h s f =
    refused_ends old mid new line (command.Save c file) reason.UnknownCanvas r tray
    (no_canvas (now old) c _ h) s f

pub save_nothing : (old mid new : Seat) (line c : ℕ) (file : List ℕ) (r : Result ℕ Stop) (tray : TraySeen) → SaveEnters old mid c (Err save_error.Nothing)
    → Stands old mid → RefusedWrite mid new line reason.Nothing r → CommandEnds old new line (command.Save c file) r tray tray
save_nothing old mid new line c file r tray h s f =
    refused_ends old mid new line (command.Save c file) reason.Nothing r tray
    (by_canvas (slice_get (now old).canvases c) h) s f
  where
    by_canvas : (o : Option Canvas) → IsSomeAnd o (λ (k : Canvas). k.published ≡ None)
        → option_map_or (λ (k : Canvas). option_map_or (saves c) k.published (Denies reason.Nothing)) o (Denies reason.UnknownCanvas) ≡ Denies reason.Nothing
    by_canvas None h = absurd h
    by_canvas (Some k) h = ap (λ (o : Option Taken). option_map_or (saves c) o (Denies reason.Nothing)) h

-- the last job of a canvas is there
pub last_unknown : (s : State) (c j : ℕ) → last_job s c ≡ Some j → job_in s.jobs j ≡ None → ⊥
last_unknown s c j h e = let there = last_is_there s c j h in absurd (none (sym e ∙ there.1))
  where
    none : {job : Job} → None ≡ Some job → ⊥
    none h = absurd cc

-- ---- whole runs

-- a script that is through
pub run_done : (o : Opening) (views : List (Option PixelGrid)) (script : List Numbered) (r : Report) (last : Play) (tray tray' : TraySeen)
    → IsPlayable script → IsLegal o r.journal.entries → Plays 0 (at_first o views script) r.journal.entries last → IsThrough last → last.refused ≡ r.refused
    → r.images ≡ length last.written → (IsTrue tray.tells → Puts last.written tray.files tray'.files) → RunDone o views script r tray tray'
run_done o views script r last tray tray' is legal plays through refused images puts =
    let written : last.written ≡ reported o script r = files_are_writes o views script 0 r.journal.entries last is legal plays ∙ ap (writes o script r.journal.entries) refused in
    record {
      legal = legal;
      follows = record { last = last; plays = plays; is_through = through; refused_are = refused };
      images = images ∙ ap length written;
      puts = λ t. subst (λ (ws : List Written). Puts ws tray.files tray'.files) written (puts t);
    }

-- a play behind which one command writes a file, whose write fails
pub record IsCut (o : Opening) (views : List (Option PixelGrid)) (script : List Numbered) (r : Report) (tray tray' : TraySeen) : Type 0 where
  pub before : List Numbered
  pub cut : Numbered
  pub left : List Numbered
  pub script_is : script ≡ before ++ cut ∷ left
  pub first : List Entry
  pub second : List Entry
  pub old : Play
  pub new : Play
  pub reaches : Plays 0 (at_first o views script) first old
  pub commands : old.commands ≡ cut ∷ left
  pub cuts : Plays 0 old second new
  pub entries : r.journal.entries ≡ first ++ second
  pub is_before : IsBefore left new
  pub file : Written
  pub names : file_of cut.command ≡ Some file.name
  pub written : new.written ≡ old.written ++ file ∷ []
  pub same : new.refused ≡ old.refused
  pub refused : new.refused ≡ r.refused
  pub images : r.images ≡ length old.written
  pub mid : NamedFiles
  pub puts : IsTrue tray.tells → Puts old.written tray.files mid
  pub others : IsTrue tray.tells → OthersStay mid tray'.files file.name

pub run_broken : (o : Opening) (views : List (Option PixelGrid)) (script : List Numbered) (image : ℕ) (r : Report) (tray tray' : TraySeen)
    → IsPlayable script → IsLegal o r.journal.entries → image ≡ suc r.images → Rose tray.faults tray'.faults → IsCut o views script r tray tray'
    → RunBroken o views script image r tray tray'
run_broken o views script image r tray tray' is legal number fault k =
    let plays = subst (λ (es : List Entry). Plays 0 (at_first o views script) es k.new) (sym k.entries) (joined k.second k.new k.reaches k.cuts) in
    let written : k.new.written ≡ reported o script r = files_are_writes o views script 0 r.journal.entries k.new is legal plays ∙ ap (writes o script r.journal.entries) k.refused in
    let all : k.old.written ++ k.file ∷ [] ≡ reported o script r = sym k.written ∙ written in
    let count : length (k.old.written ++ k.file ∷ []) ≡ length k.old.written + 1 = length-append k.old.written (k.file ∷ []) in
    record {
      fault = fault;
      legal = legal;
      left = k.left;
      follows = record {
        last = k.new;
        plays = plays;
        is_before = k.is_before;
        refused_are = k.refused;
        before = k.before;
        cut = k.cut;
        script_is = k.script_is;
        wrote = ap is_some (name_there r.refused k.cut k.file.name
            (ap (λ (rs : List Refused). is_refused rs k.cut.line) (sym k.refused ∙ k.same) ∙ not_refused_yet o views script k.old k.cut k.left is k.reaches k.commands) k.names);
      };
      images = number;
      last = sym (ap length all) ∙ count ∙ omega (arith, number, k.images);
      breaks = λ t. subst (λ (n : ℕ). Breaks n (reported o script r) tray.files tray'.files) (sym k.images)
          (subst (λ (ws : List Written). Breaks (length k.old.written) ws tray.files tray'.files) all
          (broken_at k.old.written k.file tray.files k.mid tray'.files (k.puts t) (k.others t)));
    }
