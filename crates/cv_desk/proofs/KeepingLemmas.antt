-- What a desk keeps, one entry further.
use Rattle.std.proofs.Common.{◌≡◌, ◌∙◌, sym, ap, refl, subst, ℕ, zero, suc, ◌+◌, ◌≤◌, List, [], ◌∷◌, ◌++◌, fold, map, Option, Some, None}
use Rattle.std.proofs.Common.{slice_get, arith, option_map, IsSomeAnd, Bool, true, false, if◌then◌else◌, ◌==◌, length, ◌<◌, is_some, nat_eq}
use Rattle.std.specs.List.{AllByRecursion, IsDistinct}
use Rattle.std.proofs.lemmas.List.{length-map}
use Rattle.std.proofs.lemmas.List.Sums.{fold-append}
use Rattle.std.specs.Option.{option_or, option_map_or}
use Rattle.cv_model.specs.Layers.{Layer, slots}
use Rattle.cv_model.specs.Views.{PixelGrid}
use Rattle.cv_event.specs.declared.entry.Act.TheVariants as act
use Rattle.cv_event.specs.declared.entry.Act.{Act}
use Rattle.cv_event.specs.declared.entry.Entry.{Entry}
use Rattle.cv_event.specs.declared.entry.How.{How}
use Rattle.cv_event.specs.declared.entry.How.TheVariants.{Cancelled, Finished}
use Rattle.cv_event.specs.States.{Job, State, change_at, change_job, job_in, with_end, did, after, begin, replay}
use Rattle.cv_event.specs.declared.entry.Fate.{Fate}
use Rattle.cv_event.specs.declared.slot.Slot.{Slot}
use Rattle.cv_event.specs.declared.slot.Standing.{Standing}
use Rattle.cv_event.specs.declared.slot.Standing.TheVariants.{Missed, Lost}
use Rattle.cv_event.specs.States.{keeps_cache, new_slot, started, view_on, slot_stands, stands_at, publishes, canvases_finished}
use Rattle.cv_event.specs.Histories.{accepted_edit, start_of}
use Rattle.cv_event.specs.Legality.{OfJob, Allows, LegalFrom, IsLegal, fate_of}
use Rattle.cv_event.proofs.PresentLemmas.{all_change, all_map, all_more, all_at}
use Rattle.cv_store.specs.Stores.{StoreParts, project_of, id_of}
use Rattle.cv_tables.specs.Rows.{Row, job_of, row_in, change_row, row_ended, owed, weight, WhileLive}
use Rattle.cv_tables.specs.Rows.{row_cancelled, new_row, missed_in, missed_weight, is_missed, end_weight, row_stands, slot_layer, layer_id, HasSlot}
use Rattle.cv_tables.specs.Tabs.{Tab, Tables, canvas_of, tab_viewed, tab_publishes, state_of}
use Rattle.cv_tables.proofs.TableLemmas.{owed_change, owed_more, lighter, weight_within}
use Rattle.cv_tables.proofs.RowLemmas.{ended_live}
use Rattle.cv_desk.specs.Desks.{History, state, IsFresh, AreFresh, IsWhole, IsCurrent, Holds, IsRevised, IsDesk, Notes, KeepJobs, AreOfTheirJobs}
use Rattle.cv_desk.proofs.BasisLemmas.{jobs_ended_kept, jobs_stand_kept, jobs_started_kept, standing_layers}
use Rattle.cv_desk.proofs.NamedLemmas.{named_kept, named_published}
use Rattle.cv_desk.proofs.RevisedLemmas.{StoreGoes, revised_on, revised_started}
use Rattle.cv_desk.proofs.SeenLemmas.{jobs_ended, jobs_started, jobs_stand, job_seen, canvases_viewed, canvases_published}

pub legal_more : (s : State) (journal : List Entry) (e : Entry) → LegalFrom s journal → Allows (fold after s journal) e.caller e.act
    → LegalFrom s (journal ++ e ∷ [])
legal_more s [] e legal allowed = (allowed, tt)
legal_more s (x ∷ journal) e legal allowed = (legal.0, legal_more (after s x) journal e legal.1 allowed)

-- one entry more, which is allowed, with tables of the state behind it
legal_on : (h : History) (journal : List Entry) (who : ℕ) (a : Act) → IsDesk h
    → journal ≡ h.journal ++ record { caller = who; act = a } ∷ [] → Allows (state h) who a → IsLegal h.opening journal
legal_on h journal who a kept longer allowed =
    subst (IsLegal h.opening) (sym longer)
    (legal_more (begin h.opening) h.journal (record { caller = who; act = a }) kept.legal
    (subst (λ s. Allows s who a) (sym kept.shows) allowed))

shows_on : (h : History) (journal : List Entry) (who : ℕ) (a : Act) (u : Tables) → IsDesk h
    → journal ≡ h.journal ++ record { caller = who; act = a } ∷ [] → did (state h) who a ≡ state_of u
    → replay h.opening journal ≡ state_of u
shows_on h journal who a u kept longer made =
    ap (replay h.opening) longer
    ∙ fold-append after (begin h.opening) h.journal (record { caller = who; act = a } ∷ [])
    ∙ ap (λ s. did s who a) kept.shows ∙ made

pub kept_more : (h : History) (journal : List Entry) (who : ℕ) (a : Act) (u : Tables) (left : ℕ) → IsDesk h
    → journal ≡ h.journal ++ record { caller = who; act = a } ∷ [] → Allows (state h) who a → did (state h) who a ≡ state_of u
    → Holds u left → IsRevised h.opening.project journal u → AreOfTheirJobs u.rows u.tabs
    → IsDesk (record { opening = h.opening; journal = journal; spare = left; tables = u })
kept_more h journal who a u left kept longer allowed made holds revised named = record {
  legal = legal_on h journal who a kept longer allowed;
  shows = shows_on h journal who a u kept longer made;
  holds = holds;
  revised = revised;
  named = named;
}

-- what an act that is no start leaves behind the journal
act_revised : (h : History) (journal : List Entry) (who : ℕ) (a : Act) (u : Tables) → IsDesk h
    → journal ≡ h.journal ++ record { caller = who; act = a } ∷ [] → Allows (state h) who a → did (state h) who a ≡ state_of u
    → KeepJobs h.tables.rows u.rows → StoreGoes h.tables.store (accepted_edit a) u.store → start_of a ≡ None
    → IsRevised h.opening.project journal u
act_revised h journal who a u kept longer allowed made jobs goes none =
    revised_on h journal (record { caller = who; act = a }) u kept longer (legal_on h journal who a kept longer allowed)
    (shows_on h journal who a u kept longer made) jobs goes none

-- ---- an end

ended_fresh : (store : StoreParts) (how : How) (row : Row) → AreFresh store row → AreFresh store (row_ended how row)
ended_fresh store how row was = ended_live row.ended how (AllByRecursion (IsFresh store row) row.slots)

-- what each job keeps, kept by a change of one
pub rows_change : (P : Row → Type 0) (j : ℕ) (f : Row → Row) (rows : List Row) → ((row : Row) → P row → P (f row))
    → AllByRecursion P rows → AllByRecursion P (change_row j f rows)
rows_change P zero f rows keeps h = h
rows_change P (suc at) f rows keeps h = all_change P f keeps rows at h

-- and of one
pub row_kept : (P : Row → Type 0) (j : ℕ) (rows : List Row) (r : Row) → AllByRecursion P rows → row_in rows j ≡ Some r → P r
row_kept P zero rows r h is = absurd cc
row_kept P (suc at) rows r h is = all_at P rows at r h is

ended_whole : (how : How) (row : Row) → IsWhole row → IsWhole (row_ended how row)
ended_whole how row was = record { layers = was.layers; apart = was.apart }

pub owed_in : (f : Row → Row) (rows : List Row) (j : ℕ) (r : Row) → row_in rows j ≡ Some r
    → owed (change_row j f rows) + weight r ≡ owed rows + weight (f r)
owed_in f rows zero r is = absurd cc
owed_in f rows (suc at) r is = owed_change f rows at r is

pub end_holds : (t : Tables) (spare left : ℕ) (how : How) (j : ℕ) (r : Row) → row_in t.rows j ≡ Some r → r.ended ≡ None
    → spare ≤ left + 1 → Holds t spare → Holds (record t { rows = (change_row j (row_ended how) t.rows) }) left
end_holds t spare left how j r there none room kept =
    let sum = owed_in (row_ended how) t.rows j r there in
    let one = lighter how r none in
    let was = kept.room in record {
      opened = kept.opened;
      caches = kept.caches;
      slots = rows_change (AreFresh t.store) j (row_ended how) t.rows (ended_fresh t.store how) kept.slots;
      shown = rows_change IsWhole j (row_ended how) t.rows (ended_whole how) kept.shown;
      room = omega (arith, sum, one, was, room);
    }

-- the row of a job of the state
pub row_of : (rows : List Row) (j : ℕ) (P : Job → Type 0) → IsSomeAnd (job_in (map job_of rows) j) P
    → (r : Row) × (row_in rows j ≡ Some r) × P (job_of r)
row_of rows j P h = by (row_in rows j) refl (subst (λ o. IsSomeAnd o P) (job_seen rows j) h)
  where
    by : (o : Option Row) → row_in rows j ≡ o → IsSomeAnd (option_map job_of o) P
        → (r : Row) × (row_in rows j ≡ Some r) × P (job_of r)
    by None is h = absurd h
    by (Some r) is h = (r, is, h)

weight_in : (rows : List Row) (j : ℕ) (r : Row) → row_in rows j ≡ Some r → weight r ≤ owed rows
weight_in rows zero r is = absurd cc
weight_in rows (suc at) r is = weight_within rows at r is

-- a job without end has a place set aside
pub room_for : (h : History) (j : ℕ) → IsDesk h → OfJob (state h) j (λ job. job.ended ≡ None) → 1 ≤ h.spare
room_for h j kept live =
    let q = row_of h.tables.rows j (λ job. job.ended ≡ None) live in
    let least = weight_in h.tables.rows j q.0 q.1 in
    let one = lighter Cancelled q.0 q.2 in
    let room = kept.holds.room in omega (arith, least, one, room)

-- what comes of an end of a job that has none
pub ended_noted : (h : History) (how : How) (a : Act) (who j left : ℕ) (rows : List Row) (journal : List Entry) → IsDesk h
    → OfJob (state h) j (λ job. job.ended ≡ None) → rows ≡ change_row j (row_ended how) h.tables.rows
    → journal ≡ h.journal ++ record { caller = who; act = a } ∷ [] → h.spare ≤ left + 1 → Allows (state h) who a
    → did (state h) who a ≡ record (state h) { jobs = (change_job j (with_end how) (state h).jobs) }
    → accepted_edit a ≡ None → start_of a ≡ None
    → let new : History = record {
      opening = h.opening;
      journal = journal;
      spare = left;
      tables = record h.tables { rows = rows };
    } in
    IsDesk new × Notes h new who a
ended_noted h how a who j left rows journal kept live made longer room allowed does edits starts =
    let q = row_of h.tables.rows j (λ job. job.ended ≡ None) live in
    let seen : did (state h) who a ≡ state_of (record h.tables { rows = rows }) =
    does ∙ ap (λ jobs. record (state h) { jobs = jobs }) (sym (jobs_ended how h.tables.rows j) ∙ ap (map job_of) (sym made)) in
    let holds = subst (λ l. Holds (record h.tables { rows = l }) left) (sym made)
    (end_holds h.tables h.spare left how j q.0 q.1 q.2 room kept.holds) in
    let jobs = subst (KeepJobs h.tables.rows) (sym made) (jobs_ended_kept how j h.tables.rows) in
    let goes = subst (λ o. StoreGoes h.tables.store o h.tables.store) (sym edits) refl in (
      kept_more h journal who a (record h.tables { rows = rows }) left kept longer allowed seen holds
          (act_revised h journal who a (record h.tables { rows = rows }) kept longer allowed seen jobs goes starts)
          (named_kept h.tables.rows rows h.tables.tabs jobs kept.named),
      record { opening = refl; journal = longer; becomes = sym seen; allowed = allowed; jobs = jobs },
    )

-- ---- any entry

-- what comes of an entry with tables of the state behind it
noted_with : (h : History) (a : Act) (who left : ℕ) (u : Tables) (journal : List Entry) → IsDesk h
    → journal ≡ h.journal ++ record { caller = who; act = a } ∷ [] → Allows (state h) who a → did (state h) who a ≡ state_of u
    → Holds u left → KeepJobs h.tables.rows u.rows → IsRevised h.opening.project journal u → AreOfTheirJobs h.tables.rows u.tabs
    → let new : History = record { opening = h.opening; journal = journal; spare = left; tables = u } in
    IsDesk new × Notes h new who a
noted_with h a who left u journal kept longer allowed seen holds jobs revised named = (
  kept_more h journal who a u left kept longer allowed seen holds revised (named_kept h.tables.rows u.rows u.tabs jobs named),
  record { opening = refl; journal = longer; becomes = sym seen; allowed = allowed; jobs = jobs },
)

-- of one that is no start
pub noted : (h : History) (a : Act) (who left : ℕ) (u : Tables) (journal : List Entry) → IsDesk h
    → journal ≡ h.journal ++ record { caller = who; act = a } ∷ [] → Allows (state h) who a → did (state h) who a ≡ state_of u
    → Holds u left → KeepJobs h.tables.rows u.rows → StoreGoes h.tables.store (accepted_edit a) u.store → start_of a ≡ None
    → AreOfTheirJobs h.tables.rows u.tabs
    → let new : History = record { opening = h.opening; journal = journal; spare = left; tables = u } in
    IsDesk new × Notes h new who a
noted h a who left u journal kept longer allowed seen holds jobs goes starts named =
    noted_with h a who left u journal kept longer allowed seen holds jobs
    (act_revised h journal who a u kept longer allowed seen jobs goes starts) named

-- an entry that changes nothing
pub same_holds : (t : Tables) (spare left : ℕ) → spare ≤ left + 1 → owed t.rows + 1 ≤ spare → Holds t spare → Holds t left
same_holds t spare left room owes kept = record {
  opened = kept.opened;
  caches = kept.caches;
  slots = kept.slots;
  shown = kept.shown;
  room = omega (arith, room, owes);
}

-- ---- a view

viewed_current : (store : StoreParts) (view : PixelGrid) (tab : Tab) → IsCurrent store tab → IsCurrent store (tab_viewed view tab)
viewed_current store view tab was = by (keeps_cache tab.view view)
  where
    by : (b : Bool) → IsCurrent store (record tab { view = Some view; paintings = (if b then tab.paintings else []) })
    by true = record { present = was.present; published = was.published }
    by false = record { present = tt; published = was.published }

pub view_holds : (t : Tables) (spare left c : ℕ) (view : PixelGrid) → spare ≤ left + 1 → owed t.rows + 1 ≤ spare → Holds t spare
    → Holds (record t { tabs = (change_at c (tab_viewed view) t.tabs) }) left
view_holds t spare left c view room owes kept = record {
  opened = kept.opened;
  caches = all_change (IsCurrent t.store) (tab_viewed view) (viewed_current t.store view) t.tabs c kept.caches;
  slots = kept.slots;
  shown = kept.shown;
  room = omega (arith, room, owes);
}

pub view_seen : (h : History) (who c : ℕ) (view : PixelGrid) (tabs : List Tab) → tabs ≡ change_at c (tab_viewed view) h.tables.tabs
    → did (state h) who (act.View c view) ≡ state_of (record h.tables { tabs = tabs })
view_seen h who c view tabs made =
    ap (λ l. record (state h) { canvases = l }) (sym (canvases_viewed view h.tables.tabs c) ∙ ap (map canvas_of) (sym made))

-- ---- a start

new_fresh : (store : StoreParts) (c : ℕ) (view : PixelGrid) (layers : List Layer)
    → AllByRecursion (IsFresh store (new_row c store view)) (map new_slot layers)
new_fresh store c view [] = tt
new_fresh store c view (l ∷ ls) = (λ untouched. refl, new_fresh store c view ls)

none_missed : (layers : List Layer) → missed_in (map new_slot layers) ≡ 0
none_missed [] = refl
none_missed (l ∷ ls) = let rest = none_missed ls in omega (arith, rest)

cancelled_fresh : (store : StoreParts) (c : ℕ) (row : Row) → AreFresh store row → AreFresh store (row_cancelled c row)
cancelled_fresh store c row was = by (row.canvas == c)
  where
    by : (b : Bool) → AreFresh store (if b then row_ended Cancelled row else row)
    by true = ended_fresh store Cancelled row was
    by false = was

lighter_end : (o : Option How) → end_weight (option_or o (Some Cancelled)) ≤ end_weight o
lighter_end None = omega arith
lighter_end (Some h) = omega arith

cancelled_weight : (c : ℕ) (row : Row) → weight (row_cancelled c row) ≤ weight row
cancelled_weight c row = by (row.canvas == c)
  where
    by : (b : Bool) → weight (if b then row_ended Cancelled row else row) ≤ weight row
    by true = let less = lighter_end row.ended in omega (arith, less)
    by false = omega arith

owed_cancelled : (c : ℕ) (rows : List Row) → owed (map (row_cancelled c) rows) ≤ owed rows
owed_cancelled c [] = omega arith
owed_cancelled c (row ∷ rows) =
    let rest = owed_cancelled c rows in let one = cancelled_weight c row in omega (arith, rest, one)

cancelled_whole : (c : ℕ) (row : Row) → IsWhole row → IsWhole (row_cancelled c row)
cancelled_whole c row was = by (row.canvas == c)
  where
    by : (b : Bool) → IsWhole (if b then row_ended Cancelled row else row)
    by true = ended_whole Cancelled row was
    by false = was

new_layers : (layers : List Layer) → map slot_layer (map new_slot layers) ≡ map layer_id layers
new_layers [] = refl
new_layers (l ∷ ls) = ap (λ ids. l.core.id ∷ ids) (new_layers ls)

pub start_holds : (t : Tables) (spare left c : ℕ) (view : PixelGrid) → IsDistinct nat_eq (map id_of t.store.layers) → spare ≤ left + 1
    → owed t.rows + 2 ≤ spare → Holds t spare
    → Holds (record t { rows = (map (row_cancelled c) t.rows ++ new_row c t.store view ∷ []) }) left
start_holds t spare left c view apart room owes kept =
    let new = new_row c t.store view in
    let sum = owed_more (map (row_cancelled c) t.rows) new in
    let less = owed_cancelled c t.rows in
    let none = none_missed (slots (project_of t.store) view) in
    record {
      opened = kept.opened;
      caches = kept.caches;
      slots = all_more (AreFresh t.store) (map (row_cancelled c) t.rows) (new ∷ [])
          (all_map (AreFresh t.store) (AreFresh t.store) (row_cancelled c) (cancelled_fresh t.store c) t.rows kept.slots)
          (new_fresh t.store c view (slots (project_of t.store) view), tt);
      shown = all_more IsWhole (map (row_cancelled c) t.rows) (new ∷ [])
          (all_map IsWhole IsWhole (row_cancelled c) (cancelled_whole c) t.rows kept.shown)
          (record { layers = new_layers (slots (project_of t.store) view); apart = apart }, tt);
      room = omega (arith, sum, less, none, room, owes);
    }

pub start_seen : (h : History) (who c j : ℕ) (view : PixelGrid) (rows : List Row) → view_on (state h) c ≡ Some view
    → rows ≡ map (row_cancelled c) h.tables.rows ++ new_row c h.tables.store view ∷ []
    → did (state h) who (act.Start c j) ≡ state_of (record h.tables { rows = rows })
start_seen h who c j view rows there made =
    ap (λ o. started c o (state h)) there
    ∙ ap (λ l. record (state h) { jobs = l }) (sym (jobs_started c h.tables.store view h.tables.rows) ∙ ap (map job_of) (sym made))

pub started_allowed : (s : State) (who c j : ℕ) (view : PixelGrid) → view_on s c ≡ Some view → j ≡ suc (length s.jobs)
    → length s.jobs < 4294967295 → Allows s who (act.Start c j)
started_allowed s who c j view there is few =
    (ap is_some there, is, omega (arith, is, few))

pub started_rows : (h : History) (who c j : ℕ) (view : PixelGrid) → view_on (state h) c ≡ Some view → j ≡ suc (length h.tables.rows)
    → length h.tables.rows < 4294967295 → Allows (state h) who (act.Start c j)
started_rows h who c j view there is few =
    let size = length-map h.tables.rows job_of in
    started_allowed (state h) who c j view there (is ∙ ap suc (sym size)) (subst (λ n. n < 4294967295) (sym size) few)

-- what comes of a start
pub start_noted : (h : History) (who c j left : ℕ) (view : PixelGrid) (rows : List Row) (journal : List Entry) → IsDesk h
    → IsDistinct nat_eq (map id_of h.tables.store.layers) → view_on (state h) c ≡ Some view → j ≡ suc (length h.tables.rows)
    → length h.tables.rows < 4294967295 → rows ≡ map (row_cancelled c) h.tables.rows ++ new_row c h.tables.store view ∷ []
    → journal ≡ h.journal ++ record { caller = who; act = act.Start c j } ∷ [] → h.spare ≤ left + 1
    → owed h.tables.rows + 2 ≤ h.spare
    → let new : History = record {
      opening = h.opening;
      journal = journal;
      spare = left;
      tables = record h.tables { rows = rows };
    } in
    IsDesk new × Notes h new who (act.Start c j)
start_noted h who c j left view rows journal kept apart there is few made longer room owes =
    let fresh = new_row c h.tables.store view in
    let u = record h.tables { rows = rows } in
    let holds = subst (λ l. Holds (record h.tables { rows = l }) left) (sym made)
    (start_holds h.tables h.spare left c view apart room owes kept.holds) in
    let jobs = subst (KeepJobs h.tables.rows) (sym made) (jobs_started_kept c fresh h.tables.rows) in
    noted_with h (act.Start c j) who left u journal kept longer (started_rows h who c j view there is few)
    (start_seen h who c j view rows there made) holds jobs
    (revised_started h journal (record { caller = who; act = act.Start c j }) u c fresh kept longer jobs refl refl made refl) kept.named

-- ---- a delivery

pub missed_change : (f : Slot → Slot) (list : List Slot) (at : ℕ) (x : Slot) → slice_get list at ≡ Some x
    → missed_in (change_at at f list) + missed_weight x ≡ missed_in list + missed_weight (f x)
missed_change f [] at x is = absurd cc
missed_change f (y ∷ ys) zero x is =
    let same : y ≡ x = cc in
    subst (λ z. missed_weight (f y) + missed_in ys + missed_weight z ≡ missed_weight y + missed_in ys + missed_weight (f z)) same
    (omega arith)
missed_change f (y ∷ ys) (suc at) x is = let rest = missed_change f ys at x is in omega (arith, rest)

pub stands_fresh : (store : StoreParts) (at : ℕ) (standing : Standing) (row : Row) → AreFresh store row
    → AreFresh store (row_stands at standing row)
stands_fresh store at standing row was = by row.ended was
  where
    by : (o : Option How) → WhileLive o (AllByRecursion (IsFresh store row) row.slots)
        → WhileLive o (AllByRecursion (IsFresh store row) (change_at at (slot_stands standing) row.slots))
    by None h = all_change (IsFresh store row) (slot_stands standing) (λ x h. h) row.slots at h
    by (Some how) h = tt

pub stands_whole : (at : ℕ) (standing : Standing) (row : Row) → IsWhole row → IsWhole (row_stands at standing row)
stands_whole at standing row was = record { layers = standing_layers at standing row.slots ∙ was.layers; apart = was.apart }

-- a slot that was being painted isn't any more
pub stand_holds : (t : Tables) (spare left : ℕ) (who j at : ℕ) (standing : Standing) (r : Row) (x : Slot) → row_in t.rows j ≡ Some r
    → slice_get r.slots at ≡ Some x → x.standing ≡ Missed who → is_missed standing ≡ false → spare ≤ left + 1 → Holds t spare
    → Holds (record t { rows = (change_row j (row_stands at standing) t.rows) }) left
stand_holds t spare left who j at standing r x there is was none room kept =
    let sum = owed_in (row_stands at standing) t.rows j r there in
    let one = missed_change (slot_stands standing) r.slots at x is in
    let before : missed_weight x ≡ 1 = ap (λ s. if is_missed s then 1 else 0) was in
    let after : missed_weight (slot_stands standing x) ≡ 0 = ap (λ b. if b then 1 else 0) none in
    let held = kept.room in record {
      opened = kept.opened;
      caches = kept.caches;
      slots = rows_change (AreFresh t.store) j (row_stands at standing) t.rows (stands_fresh t.store at standing) kept.slots;
      shown = rows_change IsWhole j (row_stands at standing) t.rows (stands_whole at standing) kept.shown;
      room = omega (arith, sum, one, before, after, held, room);
    }

-- and it had a place set aside
pub room_for_slot : (t : Tables) (spare : ℕ) (who j at : ℕ) (r : Row) (x : Slot) → row_in t.rows j ≡ Some r
    → slice_get r.slots at ≡ Some x → x.standing ≡ Missed who → Holds t spare → 1 ≤ spare
room_for_slot t spare who j at r x there is was kept =
    let least = weight_in t.rows j r there in
    let one = missed_change (slot_stands Lost) r.slots at x is in
    let before : missed_weight x ≡ 1 = ap (λ s. if is_missed s then 1 else 0) was in
    let after : missed_weight (slot_stands Lost x) ≡ 0 = refl in
    let room = kept.room in omega (arith, least, one, before, after, room)

-- a slot of a job of the tables
pub slot_of : (rows : List Row) (j at : ℕ) (P : Row → Slot → Type 0) → HasSlot rows j at P
    → (r : Row) × (x : Slot) × (row_in rows j ≡ Some r) × (slice_get r.slots at ≡ Some x) × P r x
slot_of rows j at P h = by (row_in rows j) refl h
  where
    inner : (r : Row) (o : Option Slot) → row_in rows j ≡ Some r → slice_get r.slots at ≡ o → IsSomeAnd o (P r)
        → (r : Row) × (x : Slot) × (row_in rows j ≡ Some r) × (slice_get r.slots at ≡ Some x) × P r x
    inner r None there is h = absurd h
    inner r (Some x) there is h = (r, x, there, is, h)

    by : (o : Option Row) → row_in rows j ≡ o → IsSomeAnd o (λ row. IsSomeAnd (slice_get row.slots at) (P row))
        → (r : Row) × (x : Slot) × (row_in rows j ≡ Some r) × (slice_get r.slots at ≡ Some x) × P r x
    by None there h = absurd h
    by (Some r) there h = inner r (slice_get r.slots at) there refl h

-- and of the state
pub slot_in_state : (rows : List Row) (j at : ℕ) (r : Row) (x : Slot) (Q : Job → Slot → Type 0) → row_in rows j ≡ Some r
    → slice_get r.slots at ≡ Some x → Q (job_of r) x
    → IsSomeAnd (job_in (map job_of rows) j) (λ job. IsSomeAnd (slice_get job.slots at) (Q job))
slot_in_state rows j at r x Q there is q =
    subst (λ o. IsSomeAnd o (λ job. IsSomeAnd (slice_get job.slots at) (Q job))) (sym (job_seen rows j ∙ ap (option_map job_of) there))
    (subst (λ o. IsSomeAnd o (Q (job_of r))) (sym is) q)

-- what comes of a delivery that the cache doesn't take
pub delivered_noted : (h : History) (fate : Fate) (who j at left : ℕ) (standing : Standing) (rows : List Row) (journal : List Entry)
    (r : Row) (x : Slot) → IsDesk h → row_in h.tables.rows j ≡ Some r → slice_get r.slots at ≡ Some x → x.standing ≡ Missed who
    → fate ≡ fate_of (state h) (job_of r) x → is_missed standing ≡ false
    → did (state h) who (act.Deliver j at fate) ≡ record (state h) { jobs = (change_job j (stands_at at standing) (state h).jobs) }
    → rows ≡ change_row j (row_stands at standing) h.tables.rows
    → journal ≡ h.journal ++ record { caller = who; act = act.Deliver j at fate } ∷ [] → h.spare ≤ left + 1
    → let new : History = record {
      opening = h.opening;
      journal = journal;
      spare = left;
      tables = record h.tables { rows = rows };
    } in
    IsDesk new × Notes h new who (act.Deliver j at fate)
delivered_noted h fate who j at left standing rows journal r x kept there is was fated none does made longer room =
    let holds = subst (λ l. Holds (record h.tables { rows = l }) left) (sym made)
    (stand_holds h.tables h.spare left who j at standing r x there is was none room kept.holds) in
    let allowed = slot_in_state h.tables.rows j at r x (λ job slot. (slot.standing ≡ Missed who) × (fate ≡ fate_of (state h) job slot))
    there is (was, fated) in
    let seen = does
    ∙ ap (λ l. record (state h) { jobs = l }) (sym (jobs_stand at standing h.tables.rows j) ∙ ap (map job_of) (sym made)) in
    noted h (act.Deliver j at fate) who left (record h.tables { rows = rows }) journal kept longer allowed seen holds
    (subst (KeepJobs h.tables.rows) (sym made) (jobs_stand_kept at standing j h.tables.rows)) refl refl kept.named

-- ---- a finish

published_current : (store : StoreParts) (j : ℕ) (row : Row) → IsWhole row → (tab : Tab) → IsCurrent store tab
    → IsCurrent store (tab_publishes j row tab)
published_current store j row whole tab was = record { present = was.present; published = whole }

finish_seen : (h : History) (who j : ℕ) (r : Row) (tabs : List Tab) (rows : List Row) → row_in h.tables.rows j ≡ Some r
    → tabs ≡ change_at r.canvas (tab_publishes j r) h.tables.tabs → rows ≡ change_row j (row_ended Finished) h.tables.rows
    → did (state h) who (act.Finish j) ≡ state_of (record h.tables { tabs = tabs; rows = rows })
finish_seen h who j r tabs rows there published made =
    let s = state h in
    let job : job_in s.jobs j ≡ Some (job_of r) = job_seen h.tables.rows j ∙ ap (option_map job_of) there in
    let canvases : canvases_finished s j ≡ map canvas_of tabs =
    ap (λ (o : Option Job). option_map_or (λ (q : Job). change_at q.canvas (publishes j q) s.canvases) o s.canvases) job
    ∙ sym (canvases_published j r h.tables.tabs r.canvas) ∙ ap (map canvas_of) (sym published) in
    let jobs : change_job j (with_end Finished) s.jobs ≡ map job_of rows =
    sym (jobs_ended Finished h.tables.rows j) ∙ ap (map job_of) (sym made) in
    λ i. record s { canvases = canvases i; jobs = jobs i }

pub finish_noted : (h : History) (who j left : ℕ) (tabs : List Tab) (rows : List Row) (journal : List Entry) (r : Row) → IsDesk h
    → row_in h.tables.rows j ≡ Some r → r.composer ≡ Some who → r.ended ≡ None
    → tabs ≡ change_at r.canvas (tab_publishes j r) h.tables.tabs → rows ≡ change_row j (row_ended Finished) h.tables.rows
    → journal ≡ h.journal ++ record { caller = who; act = act.Finish j } ∷ [] → h.spare ≤ left + 1
    → let new : History = record {
      opening = h.opening;
      journal = journal;
      spare = left;
      tables = record h.tables { tabs = tabs; rows = rows };
    } in
    IsDesk new × Notes h new who (act.Finish j)
finish_noted h who j left tabs rows journal r kept there composer none published made longer room =
    let ended = end_holds h.tables h.spare left Finished j r there none room kept.holds in
    let caches = all_change (IsCurrent h.tables.store) (tab_publishes j r)
    (published_current h.tables.store j r (row_kept IsWhole j h.tables.rows r kept.holds.shown there)) h.tables.tabs r.canvas kept.holds.caches in
    let holds : Holds (record h.tables { tabs = tabs; rows = rows }) left = record {
      opened = kept.holds.opened;
      caches = subst (AllByRecursion (IsCurrent h.tables.store)) (sym published) caches;
      slots = subst (AllByRecursion (AreFresh h.tables.store)) (sym made) ended.slots;
      shown = subst (AllByRecursion IsWhole) (sym made) ended.shown;
      room = subst (λ l. owed l ≤ left) (sym made) ended.room;
    } in
    let allowed = subst (λ o. IsSomeAnd o (λ (job : Job). (job.composer ≡ Some who) × (job.ended ≡ None)))
    (sym (job_seen h.tables.rows j ∙ ap (option_map job_of) there)) (composer, none) in
    noted h (act.Finish j) who left (record h.tables { tabs = tabs; rows = rows }) journal kept longer allowed
    (finish_seen h who j r tabs rows there published made) holds
    (subst (KeepJobs h.tables.rows) (sym made) (jobs_ended_kept Finished j h.tables.rows)) refl refl
    (named_published h.tables.rows j r h.tables.tabs tabs there published kept.named)

pub room_for_row : (h : History) (j : ℕ) (r : Row) → IsDesk h → row_in h.tables.rows j ≡ Some r → r.ended ≡ None → 1 ≤ h.spare
room_for_row h j r kept there none =
    let least = weight_in h.tables.rows j r there in
    let one = lighter Cancelled r none in
    let room = kept.holds.room in omega (arith, least, one, room)
