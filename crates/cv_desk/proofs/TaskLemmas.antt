-- What comes of a task: of a look that hits or misses, of a delivery that a cache takes, and of a composition.
use Rattle.std.proofs.Common.{◌≡◌, ◌∙◌, sym, ap, refl, subst, ℕ, zero, suc, ◌+◌, ◌≤◌, Bool, true, false, not, ◌&&◌, List, [], ◌∷◌, ◌++◌}
use Rattle.std.proofs.Common.{map, fold, Option, Some, None, slice_get, option_map, option_and_then, IsSomeAnd, is_some, arith, if◌then◌else◌}
use Rattle.std.specs.Prelude.{Result, Ok, Err, OnErr}
use Rattle.std.specs.List.{AllByRecursion, list_any}
use Rattle.std.specs.Option.{option_map_or}
use Rattle.std.proofs.lemmas.Bool.{false≢true}
use Rattle.cv_model.specs.Layers.{Parts, parts}
use Rattle.cv_model.specs.Paintings.{Input, Painting, Stamp, frame_of}
use Rattle.cv_model.specs.Views.{PixelGrid}
use Rattle.cv_cache.specs.Caches.{Serves}
use Rattle.cv_event.specs.declared.entry.Act.TheVariants as act
use Rattle.cv_event.specs.declared.entry.Entry.{Entry}
use Rattle.cv_event.specs.declared.entry.Fate.{Fate}
use Rattle.cv_event.specs.declared.entry.Fate.TheVariants.{Stored, Kept, Dropped}
use Rattle.cv_event.specs.declared.entry.How.{How}
use Rattle.cv_event.specs.declared.slot.Slot.{Slot}
use Rattle.cv_event.specs.declared.slot.Standing.{Standing}
use Rattle.cv_event.specs.declared.slot.Standing.TheVariants.{Open, Missed, Ready, Lost}
use Rattle.cv_event.specs.declared.slot.Task.TheVariants.{Look, Compose}
use Rattle.cv_event.specs.States.{Job, Cached, Canvas, State, after, begin, change_at, change_job, job_in, did, slot_stands, stands_at}
use Rattle.cv_event.specs.States.{with_cache, served, stored, image_of_slot, change_cache, canvases_delivered, canvases_looked}
use Rattle.cv_event.specs.Histories.{is_kept}
use Rattle.cv_event.specs.Legality.{is_open, is_ready, all_ready, task, shows, is_fresh, is_image, hits, hits_on, on_canvas, is_taken, fate_of}
use Rattle.cv_event.proofs.JobLemmas.{at_map}
use Rattle.cv_event.proofs.PaintedLemmas.{IsShownJob, shown_one}
use Rattle.cv_event.proofs.DueLemmas.{looks_are_of_live_jobs, composes_are_of_live_jobs}
use Rattle.cv_event.proofs.PresentLemmas.{job_of as job_kept, all_at, all_change, both_true, not_touched, stored_fresh}
use Rattle.cv_store.specs.Stores.{StoreParts, project_of, input_from}
use Rattle.cv_tables.specs.Rows.{Row, job_of, row_in, change_row, row_stands, row_composed, owed, weight, is_missed}
use Rattle.cv_tables.specs.Rows.{missed_weight, HasSlot, IsPaintingOf, input_of, input_at, painting_of, painting_shown, compose_of, whole_of}
use Rattle.cv_tables.specs.Tabs.{Tab, Tables, canvas_of, cached_of, cache_of, tab_served, tab_stored, state_of, TabServes, TabLooked}
use Rattle.cv_desk.specs.Desks.{History, state, AreFresh, IsCurrent, IsWhole, Holds, IsDesk, Notes, KeepJobs}
use Rattle.cv_desk.proofs.BasisLemmas.{jobs_stand_kept, jobs_composed_kept}
use Rattle.cv_desk.proofs.KeepingLemmas.{noted, rows_change, stands_whole, owed_in, slot_of, slot_in_state, missed_change, stands_fresh, stand_holds}
use Rattle.cv_desk.proofs.NamedLemmas.{named_one}
use Rattle.cv_desk.proofs.PaintedLemmas.{IsPainted, painted, slot_fresh, painted_present, stored_kept, served_kept, served_painting}
use Rattle.cv_desk.proofs.PaintedLemmas.{found_input, found_any, first_is, layers_apart}
use Rattle.cv_desk.proofs.SeenLemmas.{jobs_stand, jobs_composed, job_seen, canvases_served, canvases_stored}

-- a slot of a job of the tables, from its parts
pub has_slot : (rows : List Row) (j at : ℕ) (r : Row) (x : Slot) (P : Row → Slot → Type 0) → row_in rows j ≡ Some r
    → slice_get r.slots at ≡ Some x → P r x → HasSlot rows j at P
has_slot rows j at r x P there is p =
    subst (λ (o : Option Row). IsSomeAnd o (λ (row : Row). IsSomeAnd (slice_get row.slots at) (P row))) (sym there)
    (subst (λ (o : Option Slot). IsSomeAnd o (P r)) (sym is) p)

-- ---- what becomes of a delivery

fated_end : (s : State) (job : Job) (x : Slot) → fate_of s job x ≡ Dropped → is_some job.ended ≡ true
fated_end s job x fated = by job.ended (on_canvas is_taken s job x) fated
  where
    by : (o : Option How) (b : Bool) → (if is_some o then Dropped else if b then Stored else Kept) ≡ Dropped → is_some o ≡ true
    by None true is = absurd cc
    by None false is = absurd cc
    by (Some how) b is = refl

fated_live : (s : State) (job : Job) (x : Slot) (fate : Fate) → (fate ≡ Dropped → ⊥) → fate_of s job x ≡ fate → job.ended ≡ None
fated_live s job x fate other fated = by job.ended refl fated
  where
    by : (o : Option How) → job.ended ≡ o → (if is_some o then Dropped else if on_canvas is_taken s job x then Stored else Kept) ≡ fate
        → job.ended ≡ None
    by None ended is = ended
    by (Some how) ended is = absurd (other (sym is))

-- a fate that is told of a job's slot
abbrev pub IsFate : History → ℕ → ℕ → Fate → Type 0
IsFate h j at fate =
    (row : Row) (x : Slot) → row_in h.tables.rows j ≡ Some row → slice_get row.slots at ≡ Some x
    → fate ≡ fate_of (state h) (job_of row) x

abbrev pub IsAwaited : ℕ → Painting → Row → Slot → Type 0
IsAwaited who p row x = (x.standing ≡ Missed who) × (row.ended ≡ None → painting_of row.store row.view x ≡ Some p)

pub dropped_slot : (h : History) (who j at : ℕ) (p : Painting) (fate : Fate) → HasSlot h.tables.rows j at (IsAwaited who p)
    → IsFate h j at fate → fate ≡ Dropped
    → HasSlot h.tables.rows j at (λ (row : Row) (x : Slot). (x.standing ≡ Missed who) × (is_some row.ended ≡ true))
dropped_slot h who j at p fate awaited told is =
    let q = slot_of h.tables.rows j at (IsAwaited who p) awaited in
    has_slot h.tables.rows j at q.0 q.1 (λ (row : Row) (x : Slot). (x.standing ≡ Missed who) × (is_some row.ended ≡ true)) q.2 q.3
    (q.4.0, fated_end (state h) (job_of q.0) q.1 (sym (told q.0 q.1 q.2 q.3) ∙ is))

pub live_slot : (h : History) (who j at : ℕ) (p : Painting) (fate some : Fate) → HasSlot h.tables.rows j at (IsAwaited who p)
    → IsFate h j at fate → fate ≡ some → (some ≡ Dropped → ⊥)
    → HasSlot h.tables.rows j at (λ (row : Row) (x : Slot). (x.standing ≡ Missed who) × IsPaintingOf p row x
    × (fate_of (state h) (job_of row) x ≡ some))
live_slot h who j at p fate some awaited told is other =
    let q = slot_of h.tables.rows j at (IsAwaited who p) awaited in
    let fated : fate_of (state h) (job_of q.0) q.1 ≡ some = sym (told q.0 q.1 q.2 q.3) ∙ is in
    let live : q.0.ended ≡ None = fated_live (state h) (job_of q.0) q.1 some other fated in
    has_slot h.tables.rows j at q.0 q.1 (λ (row : Row) (x : Slot). (x.standing ≡ Missed who) × IsPaintingOf p row x
    × (fate_of (state h) (job_of row) x ≡ some)) q.2 q.3 (q.4.0, (live, q.4.1 live), fated)

-- ---- the slot of a task

-- the slot of a job that is to be looked at: the job has no end, and at the slot wasn't looked yet
abbrev IsDue : Row → Slot → Type 0
IsDue r slot = (r.ended ≡ None) × (is_open slot.standing ≡ true)

due_facts : (h : History) (j at : ℕ) (o : Option Row) → task (state h) ≡ Some (Look j at) → row_in h.tables.rows j ≡ o
    → IsSomeAnd o (λ (r : Row). IsSomeAnd (slice_get r.slots at) (IsDue r))
due_facts h j at o due there = by o (subst (λ o. IsSomeAnd o P) seen (looks_are_of_live_jobs (state h) j at due))
  where
    P : Job → Type 0
    P job = IsSomeAnd (slice_get job.slots at) (λ (slot : Slot). (job.ended ≡ None) × (is_open slot.standing ≡ true))

    seen : job_in (state h).jobs j ≡ option_map job_of o
    seen = job_seen h.tables.rows j ∙ ap (option_map job_of) there

    by : (o : Option Row) → IsSomeAnd (option_map job_of o) P → IsSomeAnd o (λ (r : Row). IsSomeAnd (slice_get r.slots at) (IsDue r))
    by None g = absurd g
    by (Some r) g = g

pub due_row : (h : History) (j at : ℕ) → task (state h) ≡ Some (Look j at) → row_in h.tables.rows j ≡ None → ⊥
due_row h j at due none = due_facts h j at None due none

pub due_slot : (h : History) (j at : ℕ) (r : Row) → task (state h) ≡ Some (Look j at) → row_in h.tables.rows j ≡ Some r
    → slice_get r.slots at ≡ None → ⊥
due_slot h j at r due there none = subst (λ o. IsSomeAnd o (IsDue r)) none (due_facts h j at (Some r) due there)

pub due_open : (h : History) (j at : ℕ) (r : Row) (x : Slot) → task (state h) ≡ Some (Look j at) → row_in h.tables.rows j ≡ Some r
    → slice_get r.slots at ≡ Some x → (r.ended ≡ None) × (is_open x.standing ≡ true)
due_open h j at r x due there is = subst (λ o. IsSomeAnd o (IsDue r)) is (due_facts h j at (Some r) due there)

pub due_find : (h : History) (j at : ℕ) (r : Row) → task (state h) ≡ Some (Look j at) → row_in h.tables.rows j ≡ Some r
    → (x : Slot) × (slice_get r.slots at ≡ Some x) × (r.ended ≡ None) × (is_open x.standing ≡ true)
due_find h j at r due there = by (slice_get r.slots at) refl
  where
    by : (o : Option Slot) → slice_get r.slots at ≡ o
        → (x : Slot) × (slice_get r.slots at ≡ Some x) × (r.ended ≡ None) × (is_open x.standing ≡ true)
    by None is = absurd (due_slot h j at r due there is)
    by (Some x) is = let yet = due_open h j at r x due there is in (x, is, yet.0, yet.1)

-- each slot has an input
shown_more : (s : State) (rest : List Entry) → AllByRecursion IsShownJob s.jobs → AllByRecursion IsShownJob (fold after s rest).jobs
shown_more s [] h = h
shown_more s (entry ∷ rest) h = shown_more (after s entry) rest (shown_one s entry.caller entry.act h)

some_input : (store : StoreParts) (o : Option Parts) → is_some o ≡ true → (i : Input) × (option_map (input_from store) o ≡ Some i)
some_input store None h = absurd (false≢true h)
some_input store (Some p) h = (input_from store p, refl)

pub slot_input : (h : History) (j at : ℕ) (r : Row) (x : Slot) → IsDesk h → row_in h.tables.rows j ≡ Some r
    → slice_get r.slots at ≡ Some x → (i : Input) × (input_of r.store x ≡ Some i)
slot_input h j at r x kept there is =
    let all = subst (λ (s : State). AllByRecursion IsShownJob s.jobs) kept.shows (shown_more (begin h.opening) h.journal tt) in
    let shown = job_kept IsShownJob (state h).jobs j (job_of r) all (job_seen h.tables.rows j ∙ ap (option_map job_of) there) in
    some_input r.store (parts (project_of r.store) x.layer)
    (all_at (λ (slot : Slot). is_some (parts (project_of r.store) slot.layer) ≡ true) r.slots at x shown is)

-- and it is what is read
pub input_read : (r : Row) (x : Slot) (at : ℕ) (o : Option Input) → slice_get r.slots at ≡ Some x → o ≡ input_at r at
    → o ≡ input_of r.store x
input_read r x at o is value = value ∙ ap (option_and_then (input_of r.store)) is

-- the slot of a task waits for nobody's delivery
pub open_weight : (x : Slot) → is_open x.standing ≡ true → missed_weight x ≡ 0
open_weight x is = by x.standing is
  where
    by : (s : Standing) → is_open s ≡ true → ◌≡◌ {A = ℕ} (if is_missed s then 1 else 0) 0
    by Open is = refl
    by (Missed who) is = absurd (false≢true is)
    by Ready is = absurd (false≢true is)
    by Lost is = absurd (false≢true is)

pub open_unready : (x : Slot) → is_open x.standing ≡ true → is_ready x.standing ≡ false
open_unready x is = by x.standing is
  where
    by : (s : Standing) → is_open s ≡ true → is_ready s ≡ false
    by Open is = refl
    by (Missed who) is = absurd (false≢true is)
    by Ready is = absurd (false≢true is)
    by Lost is = absurd (false≢true is)

-- ---- the canvas of a slot

-- a change of the cache of a job's canvas, which is told the image of a slot
cache_changed : (change : Cached → Canvas → List Cached) (h : History) (j at : ℕ) (r : Row) (x : Slot)
    → row_in h.tables.rows j ≡ Some r → slice_get r.slots at ≡ Some x
    → change_cache change (state h) j at
    ≡ change_at r.canvas (with_cache (change (image_of_slot (job_of r) x))) (state h).canvases
cache_changed change h j at r x there is =
    let k = (state h).canvases in
    ap (λ (o : Option Job). option_map_or (λ (job : Job). option_map_or (λ (slot : Slot). change_at job.canvas (with_cache (change (image_of_slot job slot))) k) (slice_get job.slots at) k) o k)
    (job_seen h.tables.rows j ∙ ap (option_map job_of) there)
    ∙ ap (λ (o : Option Slot). option_map_or (λ (slot : Slot). change_at r.canvas (with_cache (change (image_of_slot (job_of r) slot))) k) o k) is

-- the image of a slot's painting
image_is : (r : Row) (x : Slot) (p : Painting) → IsPainted r x p → image_of_slot (job_of r) x ≡ cached_of p
image_is r x p is = λ i. record { layer = sym is.layer i; view = sym is.view i }

-- ---- a delivery that a cache takes

stored_seen : (h : History) (who j at : ℕ) (p : Painting) (tabs : List Tab) (rows : List Row) (r : Row) (x : Slot)
    → row_in h.tables.rows j ≡ Some r → slice_get r.slots at ≡ Some x → IsPainted r x p
    → tabs ≡ change_at r.canvas (tab_stored p) h.tables.tabs → rows ≡ change_row j (row_stands at Ready) h.tables.rows
    → did (state h) who (act.Deliver j at Stored) ≡ state_of (record h.tables { tabs = tabs; rows = rows })
stored_seen h who j at p tabs rows r x there is own taken made =
    let s = state h in
    let canvases : canvases_delivered s j at Stored ≡ map canvas_of tabs =
    cache_changed stored h j at r x there is
    ∙ ap (λ image. change_at r.canvas (with_cache (stored image)) s.canvases) (image_is r x p own)
    ∙ sym (canvases_stored p h.tables.tabs r.canvas) ∙ ap (map canvas_of) (sym taken) in
    let jobs : change_job j (stands_at at Ready) s.jobs ≡ map job_of rows =
    sym (jobs_stand at Ready h.tables.rows j) ∙ ap (map job_of) (sym made) in
    λ i. record s { canvases = canvases i; jobs = jobs i }

pub stored_noted : (h : History) (who j at left : ℕ) (p : Painting) (tabs : List Tab) (rows : List Row) (journal : List Entry)
    (r : Row) (x : Slot) → IsDesk h → row_in h.tables.rows j ≡ Some r → slice_get r.slots at ≡ Some x → x.standing ≡ Missed who
    → painting_of r.store r.view x ≡ Some p → fate_of (state h) (job_of r) x ≡ Stored
    → tabs ≡ change_at r.canvas (tab_stored p) h.tables.tabs → rows ≡ change_row j (row_stands at Ready) h.tables.rows
    → journal ≡ h.journal ++ record { caller = who; act = act.Deliver j at Stored } ∷ [] → h.spare ≤ left + 1
    → let new : History = record {
      opening = h.opening;
      journal = journal;
      spare = left;
      tables = record h.tables { tabs = tabs; rows = rows };
    } in
    IsDesk new × Notes h new who (act.Deliver j at Stored)
stored_noted h who j at left p tabs rows journal r x kept there is was paints fated taken made longer room =
    let t = h.tables in
    let own = painted r x p paints in
    let fresh = stored_fresh (state h) (job_of r) x (sym fated) in
    let present = painted_present t.store r x p own (slot_fresh t h.spare j at r x kept.holds there fresh.0 is) fresh.1 in
    let stands = stand_holds t h.spare left who j at Ready r x there is was refl room kept.holds in
    let caches = all_change (IsCurrent t.store) (tab_stored p) (stored_kept t.store p present) t.tabs r.canvas kept.holds.caches in
    let holds : Holds (record t { tabs = tabs; rows = rows }) left = record {
      opened = kept.holds.opened;
      caches = subst (AllByRecursion (IsCurrent t.store)) (sym taken) caches;
      slots = subst (AllByRecursion (AreFresh t.store)) (sym made) stands.slots;
      shown = subst (AllByRecursion IsWhole) (sym made) stands.shown;
      room = subst (λ l. owed l ≤ left) (sym made) stands.room;
    } in
    let allowed = slot_in_state t.rows j at r x (λ job slot. (slot.standing ≡ Missed who) × (Stored ≡ fate_of (state h) job slot))
    there is (was, sym fated) in
    noted h (act.Deliver j at Stored) who left (record t { tabs = tabs; rows = rows }) journal kept longer allowed
    (stored_seen h who j at p tabs rows r x there is own taken made) holds
    (subst (KeepJobs t.rows) (sym made) (jobs_stand_kept at Ready j t.rows)) refl refl
    (named_one t.rows (tab_stored p) (λ tab. refl) r.canvas t.tabs tabs taken kept.named)

-- ---- a look

-- the room of a slot that stands otherwise
looked_holds : (t : Tables) (spare left owes j at : ℕ) (standing : Standing) (r : Row) (x : Slot) → row_in t.rows j ≡ Some r
    → slice_get r.slots at ≡ Some x → is_open x.standing ≡ true → missed_weight (slot_stands standing x) ≡ owes
    → spare ≤ left + 1 → owed t.rows + suc owes ≤ spare → Holds t spare
    → Holds (record t { rows = (change_row j (row_stands at standing) t.rows) }) left
looked_holds t spare left owes j at standing r x there is yet after less room kept =
    let sum = owed_in (row_stands at standing) t.rows j r there in
    let one = missed_change (slot_stands standing) r.slots at x is in
    let before = open_weight x yet in record {
      opened = kept.opened;
      caches = kept.caches;
      slots = rows_change (AreFresh t.store) j (row_stands at standing) t.rows (stands_fresh t.store at standing) kept.slots;
      shown = rows_change IsWhole j (row_stands at standing) t.rows (stands_whole at standing) kept.shown;
      room = omega (arith, sum, one, before, after, less, room);
    }

-- what a slot's look answers, by its job and its canvas
pub hits_seen : (h : History) (j at : ℕ) (r : Row) (x : Slot) → row_in h.tables.rows j ≡ Some r → slice_get r.slots at ≡ Some x
    → hits (state h) j at
    ≡ option_map_or (λ (tab : Tab). hits_on (canvas_of tab) (job_of r) x) (slice_get h.tables.tabs r.canvas) false
hits_seen h j at r x there is =
    let k = (state h).canvases in
    ap (λ (o : Option Job). option_map_or (λ (job : Job). option_map_or (λ (slot : Slot). option_map_or (λ (canvas : Canvas). hits_on canvas job slot) (slice_get k job.canvas) false) (slice_get job.slots at) false) o false)
    (job_seen h.tables.rows j ∙ ap (option_map job_of) there)
    ∙ ap (λ (o : Option Slot). option_map_or (λ (slot : Slot). option_map_or (λ (canvas : Canvas). hits_on canvas (job_of r) slot) (slice_get k r.canvas) false) o false) is
    ∙ seen h.tables.tabs r.canvas
  where
    test : Canvas → Bool
    test canvas = hits_on canvas (job_of r) x

    seen : (tabs : List Tab) (c : ℕ) → option_map_or test (slice_get (map canvas_of tabs) c) false
        ≡ option_map_or (λ (tab : Tab). test (canvas_of tab)) (slice_get tabs c) false
    seen [] c = refl
    seen (tab ∷ tabs) zero = refl
    seen (tab ∷ tabs) (suc c) = seen tabs c

served_seen : (h : History) (who j at : ℕ) (tabs : List Tab) (rows : List Row) (r : Row) (x : Slot)
    → row_in h.tables.rows j ≡ Some r → slice_get r.slots at ≡ Some x
    → tabs ≡ change_at r.canvas (tab_served x.layer) h.tables.tabs → rows ≡ change_row j (row_stands at Ready) h.tables.rows
    → did (state h) who (act.Look j at true) ≡ state_of (record h.tables { tabs = tabs; rows = rows })
served_seen h who j at tabs rows r x there is taken made =
    let s = state h in
    let canvases : canvases_looked s j at true ≡ map canvas_of tabs =
    cache_changed served h j at r x there is
    ∙ sym (canvases_served (image_of_slot (job_of r) x) h.tables.tabs r.canvas) ∙ ap (map canvas_of) (sym taken) in
    let jobs : change_job j (stands_at at Ready) s.jobs ≡ map job_of rows =
    sym (jobs_stand at Ready h.tables.rows j) ∙ ap (map job_of) (sym made) in
    λ i. record s { canvases = canvases i; jobs = jobs i }

pub hit_noted : (h : History) (who j at left : ℕ) (tabs : List Tab) (rows : List Row) (journal : List Entry) (r : Row) (x : Slot)
    → IsDesk h → task (state h) ≡ Some (Look j at) → row_in h.tables.rows j ≡ Some r → slice_get r.slots at ≡ Some x
    → is_open x.standing ≡ true → hits (state h) j at ≡ true
    → tabs ≡ change_at r.canvas (tab_served x.layer) h.tables.tabs → rows ≡ change_row j (row_stands at Ready) h.tables.rows
    → journal ≡ h.journal ++ record { caller = who; act = act.Look j at true } ∷ [] → h.spare ≤ left + 1
    → owed h.tables.rows + 1 ≤ h.spare
    → let new : History = record {
      opening = h.opening;
      journal = journal;
      spare = left;
      tables = record h.tables { tabs = tabs; rows = rows };
    } in
    IsDesk new × Notes h new who (act.Look j at true)
hit_noted h who j at left tabs rows journal r x kept due there is yet hit taken made longer less room =
    let t = h.tables in
    let stands = looked_holds t h.spare left 0 j at Ready r x there is yet refl less room kept.holds in
    let caches = all_change (IsCurrent t.store) (tab_served x.layer) (served_kept t.store x.layer) t.tabs r.canvas kept.holds.caches in
    let holds : Holds (record t { tabs = tabs; rows = rows }) left = record {
      opened = kept.holds.opened;
      caches = subst (AllByRecursion (IsCurrent t.store)) (sym taken) caches;
      slots = subst (AllByRecursion (AreFresh t.store)) (sym made) stands.slots;
      shown = subst (AllByRecursion IsWhole) (sym made) stands.shown;
      room = subst (λ l. owed l ≤ left) (sym made) stands.room;
    } in
    noted h (act.Look j at true) who left (record t { tabs = tabs; rows = rows }) journal kept longer (due, sym hit)
    (served_seen h who j at tabs rows r x there is taken made) holds
    (subst (KeepJobs t.rows) (sym made) (jobs_stand_kept at Ready j t.rows)) refl refl
    (named_one t.rows (tab_served x.layer) (λ tab. refl) r.canvas t.tabs tabs taken kept.named)

pub miss_noted : (h : History) (who j at left : ℕ) (rows : List Row) (journal : List Entry) (r : Row) (x : Slot) → IsDesk h
    → task (state h) ≡ Some (Look j at) → row_in h.tables.rows j ≡ Some r → slice_get r.slots at ≡ Some x
    → is_open x.standing ≡ true → hits (state h) j at ≡ false → rows ≡ change_row j (row_stands at (Missed who)) h.tables.rows
    → journal ≡ h.journal ++ record { caller = who; act = act.Look j at false } ∷ [] → h.spare ≤ left + 1
    → owed h.tables.rows + 2 ≤ h.spare
    → let new : History = record {
      opening = h.opening;
      journal = journal;
      spare = left;
      tables = record h.tables { rows = rows };
    } in
    IsDesk new × Notes h new who (act.Look j at false)
miss_noted h who j at left rows journal r x kept due there is yet missed made longer less room =
    let t = h.tables in
    let holds = subst (λ l. Holds (record t { rows = l }) left) (sym made)
    (looked_holds t h.spare left 1 j at (Missed who) r x there is yet refl less room kept.holds) in
    let seen : did (state h) who (act.Look j at false) ≡ state_of (record t { rows = rows }) =
    ap (λ l. record (state h) { jobs = l }) (sym (jobs_stand at (Missed who) t.rows j) ∙ ap (map job_of) (sym made)) in
    noted h (act.Look j at false) who left (record t { rows = rows }) journal kept longer (due, sym missed) seen holds
    (subst (KeepJobs t.rows) (sym made) (jobs_stand_kept at (Missed who) j t.rows)) refl refl kept.named

-- ---- what a look hits

-- an untouched slot of a shown view hits where its canvas has its painting
on_tab : (tab : Tab) (r : Row) (x : Slot) (p : Painting) (stamps : List Stamp) → shows (canvas_of tab) r.view ≡ true
    → x.touched ≡ false → Serves (cache_of tab) x.layer stamps r.view p → hits_on (canvas_of tab) (job_of r) x ≡ true
on_tab tab r x p stamps shown untouched serves =
    let any = found_any x.layer r.view tab.paintings p serves.0 serves.1.1 in
    λ i. (shown i && not (untouched i)) && any i

pub look_hits : (h : History) (j at : ℕ) (r : Row) (x : Slot) (p : Painting) (stamps : List Stamp)
    → row_in h.tables.rows j ≡ Some r → slice_get r.slots at ≡ Some x
    → option_map_or (λ (k : Canvas). shows k r.view) (slice_get (state h).canvases r.canvas) false ≡ true
    → x.touched ≡ false → TabServes h.tables.tabs r.canvas x.layer stamps r.view p → hits (state h) j at ≡ true
look_hits h j at r x p stamps there is shown untouched serves =
    hits_seen h j at r x there is ∙ by h.tables.tabs r.canvas shown serves
  where
    by : (tabs : List Tab) (c : ℕ)
        → option_map_or (λ (k : Canvas). shows k r.view) (slice_get (map canvas_of tabs) c) false ≡ true
        → IsSomeAnd (slice_get tabs c) (λ (tab : Tab). Serves (cache_of tab) x.layer stamps r.view p)
        → option_map_or (λ (tab : Tab). hits_on (canvas_of tab) (job_of r) x) (slice_get tabs c) false ≡ true
    by [] c shown serves = absurd serves
    by (tab ∷ tabs) zero shown serves = on_tab tab r x p stamps shown untouched serves
    by (tab ∷ tabs) (suc c) shown serves = by tabs c shown serves

-- what a look that hits has found
pub record LooksUp (h : History) (r : Row) (x : Slot) (i : Input) : Type 0 where
  pub untouched : x.touched ≡ false
  pub shown : option_map_or (λ (k : Canvas). shows k r.view) (slice_get (state h).canvases r.canvas) false ≡ true
  pub found : Painting
  pub serves : TabServes h.tables.tabs r.canvas x.layer i.stamps r.view found

pub look_found : (h : History) (j at : ℕ) (r : Row) (x : Slot) (i : Input) → IsDesk h → row_in h.tables.rows j ≡ Some r
    → slice_get r.slots at ≡ Some x → r.ended ≡ None → input_of r.store x ≡ Some i → hits (state h) j at ≡ true
    → LooksUp h r x i
look_found h j at r x i kept there is live input hit =
    by (slice_get h.tables.tabs r.canvas) refl (sym (hits_seen h j at r x there is) ∙ hit)
  where
    by : (o : Option Tab) → slice_get h.tables.tabs r.canvas ≡ o
        → option_map_or (λ (tab : Tab). hits_on (canvas_of tab) (job_of r) x) o false ≡ true → LooksUp h r x i
    by None at_is on = absurd (false≢true on)
    by (Some tab) at_is on =
        let both = both_true (is_fresh (canvas_of tab) (job_of r) x) (list_any (is_image x.layer r.view) (map cached_of tab.paintings)) on in
        let fresh = both_true (shows (canvas_of tab) r.view) (not x.touched) both.0 in
        let untouched = not_touched x.touched fresh.1 in
        let q = first_is x.layer r.view tab.paintings (layers_apart h r.canvas tab kept at_is) both.1 in
        let current = all_at (IsCurrent h.tables.store) h.tables.tabs r.canvas tab kept.holds.caches at_is in
        let own = found_input h.tables.store r x tab q.0 current
        (slot_fresh h.tables h.spare j at r x kept.holds there live is) untouched q.1 in
        let both_are : Some q.0.input ≡ Some i = sym own ∙ input in
        let same : q.0.input ≡ i = cc in record {
          untouched = untouched;
          shown = ap (λ (o : Option Canvas). option_map_or (λ (k : Canvas). shows k r.view) o false)
              (at_map canvas_of h.tables.tabs r.canvas ∙ ap (option_map canvas_of) at_is) ∙ fresh.0;
          found = q.0;
          serves =
              subst (λ (o : Option Tab). IsSomeAnd o (λ (t : Tab). Serves (cache_of t) x.layer i.stamps r.view q.0)) (sym at_is)
              (q.1, (ap (λ (n : Input). n.stamps) same, q.2));
        }

-- what a look answered, in the job's words
pub looked_up : (h : History) (r : Row) (x : Slot) (c : ℕ) (stamps : List Stamp) (view : PixelGrid) (new : List Tab)
    (o q : Option Painting) → c ≡ r.canvas → view ≡ r.view → o ≡ q → TabLooked h.tables.tabs new c x.layer stamps view o
    → TabLooked h.tables.tabs new r.canvas x.layer stamps r.view q
looked_up h r x c stamps view new o q canvas_is view_is is looked =
    subst (λ n. TabLooked h.tables.tabs new n x.layer stamps r.view q) canvas_is
    (subst (λ v. TabLooked h.tables.tabs new c x.layer stamps v q) view_is
    (subst (λ k. TabLooked h.tables.tabs new c x.layer stamps view k) is looked))

-- so it misses where the slot is touched, where the view isn't shown, and where nothing is found
unhit : (b : Bool) → (b ≡ true → ⊥) → b ≡ false
unhit true never = absurd (never refl)
unhit false never = refl

pub touched_misses : (h : History) (j at : ℕ) (r : Row) (x : Slot) (i : Input) → IsDesk h → row_in h.tables.rows j ≡ Some r
    → slice_get r.slots at ≡ Some x → r.ended ≡ None → input_of r.store x ≡ Some i → x.touched ≡ true
    → hits (state h) j at ≡ false
touched_misses h j at r x i kept there is live input touched =
    unhit (hits (state h) j at)
    (λ hit. false≢true (sym (look_found h j at r x i kept there is live input hit).untouched ∙ touched))

pub unshown_misses : (h : History) (j at : ℕ) (r : Row) (x : Slot) (i : Input) → IsDesk h → row_in h.tables.rows j ≡ Some r
    → slice_get r.slots at ≡ Some x → r.ended ≡ None → input_of r.store x ≡ Some i
    → option_map_or (λ (k : Canvas). shows k r.view) (slice_get (state h).canvases r.canvas) false ≡ false
    → hits (state h) j at ≡ false
unshown_misses h j at r x i kept there is live input unshown =
    unhit (hits (state h) j at)
    (λ hit. false≢true (sym unshown ∙ (look_found h j at r x i kept there is live input hit).shown))

pub absent_misses : (h : History) (j at : ℕ) (r : Row) (x : Slot) (i : Input) → IsDesk h → row_in h.tables.rows j ≡ Some r
    → slice_get r.slots at ≡ Some x → r.ended ≡ None → input_of r.store x ≡ Some i
    → ((p : Painting) → TabServes h.tables.tabs r.canvas x.layer i.stamps r.view p → ⊥) → hits (state h) j at ≡ false
absent_misses h j at r x i kept there is live input none =
    unhit (hits (state h) j at)
    (λ hit. let q = look_found h j at r x i kept there is live input hit in none q.found q.serves)

-- what a look finds is the slot's painting
pub look_painting : (h : History) (j at : ℕ) (r : Row) (x : Slot) (p : Painting) (stamps : List Stamp) → IsDesk h
    → row_in h.tables.rows j ≡ Some r → slice_get r.slots at ≡ Some x → r.ended ≡ None → x.touched ≡ false
    → TabServes h.tables.tabs r.canvas x.layer stamps r.view p → painting_of r.store r.view x ≡ Some p
look_painting h j at r x p stamps kept there is live untouched serves = by (slice_get h.tables.tabs r.canvas) refl serves
  where
    by : (o : Option Tab) → slice_get h.tables.tabs r.canvas ≡ o
        → IsSomeAnd o (λ (tab : Tab). Serves (cache_of tab) x.layer stamps r.view p) → painting_of r.store r.view x ≡ Some p
    by None at_is serves = absurd serves
    by (Some tab) at_is serves =
        served_painting h.tables.store r x tab stamps p
        (all_at (IsCurrent h.tables.store) h.tables.tabs r.canvas tab kept.holds.caches at_is)
        (slot_fresh h.tables h.spare j at r x kept.holds there live is) untouched serves

-- ---- a composition

-- the job whose composition is due has no end, and its slots are all ready
due_composed : (h : History) (j : ℕ) (o : Option Row) → task (state h) ≡ Some (Compose j) → row_in h.tables.rows j ≡ o
    → IsSomeAnd o (λ (r : Row). (r.ended ≡ None) × (all_ready r.slots ≡ true) × (r.composer ≡ None))
due_composed h j o due there = by o (subst (λ o. IsSomeAnd o P) seen (composes_are_of_live_jobs (state h) j due))
  where
    P : Job → Type 0
    P job = (job.ended ≡ None) × (all_ready job.slots ≡ true) × (job.composer ≡ None)

    seen : job_in (state h).jobs j ≡ option_map job_of o
    seen = job_seen h.tables.rows j ∙ ap (option_map job_of) there

    by : (o : Option Row) → IsSomeAnd (option_map job_of o) P
        → IsSomeAnd o (λ (r : Row). (r.ended ≡ None) × (all_ready r.slots ≡ true) × (r.composer ≡ None))
    by None g = absurd g
    by (Some r) g = g

pub composed_row : (h : History) (j : ℕ) → task (state h) ≡ Some (Compose j) → row_in h.tables.rows j ≡ None → ⊥
composed_row h j due none = due_composed h j None due none

pub composed_ready : (h : History) (j : ℕ) (r : Row) → task (state h) ≡ Some (Compose j) → row_in h.tables.rows j ≡ Some r
    → (r.ended ≡ None) × (all_ready r.slots ≡ true)
composed_ready h j r due there = let q = due_composed h j (Some r) due there in (q.0, q.1)

all_shown : (store : StoreParts) (view : PixelGrid) (list : List Slot) → all_ready list ≡ true
    → map (painting_shown store view) list ≡ map (painting_of store view) list
all_shown store view [] h = refl
all_shown store view (x ∷ xs) h =
    let both = both_true (is_ready x.standing) (all_ready xs) h in
    λ i. (if both.0 i then painting_of store view x else None) ∷ all_shown store view xs both.1 i

-- a composition of the ready slots is one of all
pub ready_whole : (r : Row) → all_ready r.slots ≡ true → compose_of r ≡ whole_of r
ready_whole r ready =
    ap (λ (l : List (Option Painting)). record { frame = frame_of (project_of r.store) r.view; paintings = l })
    (all_shown r.store r.view r.slots ready)

pub compose_noted : (h : History) (who j left : ℕ) (rows : List Row) (journal : List Entry) (r : Row) → IsDesk h
    → task (state h) ≡ Some (Compose j) → row_in h.tables.rows j ≡ Some r → rows ≡ change_row j (row_composed who) h.tables.rows
    → journal ≡ h.journal ++ record { caller = who; act = act.Compose j } ∷ [] → h.spare ≤ left + 1
    → owed h.tables.rows + 1 ≤ h.spare
    → let new : History = record {
      opening = h.opening;
      journal = journal;
      spare = left;
      tables = record h.tables { rows = rows };
    } in
    IsDesk new × Notes h new who (act.Compose j)
compose_noted h who j left rows journal r kept due there made longer less room =
    let t = h.tables in
    let sum : owed (change_row j (row_composed who) t.rows) + weight r ≡ owed t.rows + weight r =
    owed_in (row_composed who) t.rows j r there in
    let held : Holds (record t { rows = change_row j (row_composed who) t.rows }) left = record {
      opened = kept.holds.opened;
      caches = kept.holds.caches;
      slots = rows_change (AreFresh t.store) j (row_composed who) t.rows (λ row was. was) kept.holds.slots;
      shown = rows_change IsWhole j (row_composed who) t.rows
          (λ row was. record { layers = was.layers; apart = was.apart }) kept.holds.shown;
      room = omega (arith, sum, less, room);
    } in
    let holds = subst (λ l. Holds (record t { rows = l }) left) (sym made) held in
    let seen : did (state h) who (act.Compose j) ≡ state_of (record t { rows = rows }) =
    ap (λ l. record (state h) { jobs = l }) (sym (jobs_composed who t.rows j) ∙ ap (map job_of) (sym made)) in
    noted h (act.Compose j) who left (record t { rows = rows }) journal kept longer due seen holds
    (subst (KeepJobs t.rows) (sym made) (jobs_composed_kept who j t.rows)) refl refl kept.named

-- ---- a delivery

-- what isn't dropped is of a job without end
live_fate : (s : State) (job : Job) (x : Slot) (fate : Fate) → is_kept fate ≡ true → fate_of s job x ≡ fate → job.ended ≡ None
live_fate s job x fate keeps is = by job.ended is
  where
    by : (o : Option How) → (if is_some o then Dropped else if on_canvas is_taken s job x then Stored else Kept) ≡ fate → o ≡ None
    by None told = refl
    by (Some how) told = absurd (false≢true (ap is_kept told ∙ keeps))

pub delivered_slot : (h : History) (who j at : ℕ) (painted : Painting) (fate : Fate) → is_kept fate ≡ true
    → HasSlot h.tables.rows j at
    (λ (row : Row) (x : Slot). (x.standing ≡ Missed who) × (row.ended ≡ None → painting_of row.store row.view x ≡ Some painted))
    → ((row : Row) (x : Slot) → row_in h.tables.rows j ≡ Some row → slice_get row.slots at ≡ Some x → fate_of (state h) (job_of row) x ≡ fate)
    → HasSlot h.tables.rows j at
    (λ (row : Row) (x : Slot). (x.standing ≡ Missed who) × IsPaintingOf painted row x × (fate_of (state h) (job_of row) x ≡ fate))
delivered_slot h who j at painted fate keeps had told =
    let q = slot_of h.tables.rows j at
    (λ (row : Row) (x : Slot). (x.standing ≡ Missed who) × (row.ended ≡ None → painting_of row.store row.view x ≡ Some painted)) had in
    let f = told q.0 q.1 q.2 q.3 in
    let live = live_fate (state h) (job_of q.0) q.1 fate keeps f in
    has_slot h.tables.rows j at q.0 q.1
    (λ (row : Row) (x : Slot). (x.standing ≡ Missed who) × IsPaintingOf painted row x × (fate_of (state h) (job_of row) x ≡ fate)) q.2 q.3
    (q.4.0, (live, q.4.1 live), f)

-- what wants memory is to be stored
pub stored_slot : (h : History) (who j at : ℕ) (painted : Painting)
    → HasSlot h.tables.rows j at
    (λ (row : Row) (x : Slot). (x.standing ≡ Missed who) × (row.ended ≡ None → painting_of row.store row.view x ≡ Some painted))
    → ((row : Row) (x : Slot) → row_in h.tables.rows j ≡ Some row → slice_get row.slots at ≡ Some x → fate_of (state h) (job_of row) x ≡ Stored)
    → HasSlot h.tables.rows j at (λ (row : Row) (x : Slot). fate_of (state h) (job_of row) x ≡ Stored)
stored_slot h who j at painted had told =
    let q = slot_of h.tables.rows j at
    (λ (row : Row) (x : Slot). (x.standing ≡ Missed who) × (row.ended ≡ None → painting_of row.store row.view x ≡ Some painted)) had in
    has_slot h.tables.rows j at q.0 q.1 (λ (row : Row) (x : Slot). fate_of (state h) (job_of row) x ≡ Stored) q.2 q.3 (told q.0 q.1 q.2 q.3)

pub refusal_says : {T E : Type 0} (r : Result T E) (P : Type 0) → P → OnErr r P
refusal_says (Ok t) P p = tt
refusal_says (Err e) P p = p
