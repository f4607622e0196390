-- An accepted edit: what of the tables it leaves.
use Rattle.std.proofs.Common.{◌≡◌, ◌∙◌, sym, ap, refl, subst, ℕ, suc, ◌+◌, ◌-◌, ◌≤◌, Bool, true, false, not, ◌||◌, cond, nat_eq}
use Rattle.std.proofs.Common.{List, [], ◌∷◌, ◌++◌, Err, map, filter, Option, Some, None, option_map, is_some, arith, if◌then◌else◌}
use Rattle.std.specs.List.{AllByRecursion, list_any}
use Rattle.std.specs.Option.{option_map_or}
use Rattle.cv_model.specs.declared.edit.Edit.{Edit}
use Rattle.cv_model.specs.declared.edit.EditError.{EditError}
use Rattle.cv_model.specs.declared.edit.EditError.TheVariants.{UnknownLayer, UnknownFeature, WrongKind, DuplicateId, Limit, BadPlace, NoMemory}
use Rattle.cv_model.specs.Edits.{touched, touches_any, verdict}
use Rattle.cv_model.specs.Layers.{Core, Project, core_in, parts_among, deps, deps_of}
use Rattle.cv_model.specs.Paintings.{Input, Painting}
use Rattle.cv_store.specs.Answers.{IsEdited, told_by}
use Rattle.cv_store.specs.Stores.{StoreParts, project_of, accepted, input_in, input_from}
use Rattle.cv_store.proofs.LawLemmas.{input_stays}
use Rattle.cv_cache.specs.Caches.{painted_id, depends_on, independent}
use Rattle.cv_event.specs.declared.entry.Act.TheVariants as act
use Rattle.cv_event.specs.declared.entry.Entry.{Entry}
use Rattle.cv_event.specs.declared.entry.How.{How}
use Rattle.cv_event.specs.declared.slot.Slot.{Slot}
use Rattle.cv_event.specs.States.{Cached, State, did, stays, slot_edited, canvas_edited}
use Rattle.cv_event.proofs.PresentLemmas.{all_map}
use Rattle.cv_tables.specs.Rows.{Row, WhileLive, slots_edited, row_edited, missed_in, missed_weight, end_weight, weight, owed}
use Rattle.cv_tables.specs.Tabs.{Tab, Tables, cached_of, canvas_of, left_by, tab_edited, state_of}
use Rattle.cv_desk.specs.Desks.{History, state, IsPresent, IsWhole, IsCurrent, IsFresh, AreFresh, Holds, IsDesk, Notes, Stays, KeepJobs}
use Rattle.cv_desk.specs.Answers.{EditAnswer, EditNotes}
use Rattle.cv_desk.proofs.BasisLemmas.{jobs_edited_kept, edited_layers}
use Rattle.cv_desk.proofs.KeepingLemmas.{noted}
use Rattle.cv_desk.proofs.NamedLemmas.{named_all}
use Rattle.cv_desk.proofs.SeenLemmas.{jobs_edited}

-- ---- what a layer is painted from tells on what it depends

pub deps_told : (s : StoreParts) (id : ℕ) (i : Input) → input_in s id ≡ Some i → deps (project_of s) id ≡ deps_of i.parts.own
deps_told s id i is = by (core_in (project_of s).layers id) is
  where
    by : (o : Option Core) → option_map (input_from s) (option_map (parts_among (project_of s).layers) o) ≡ Some i
        → option_map_or deps_of o (id ∷ []) ≡ deps_of i.parts.own
    by None is = absurd cc
    by (Some own) is =
        let same : input_from s (parts_among (project_of s).layers own) ≡ i = cc in
        ap (λ (x : Input). deps_of x.parts.own) same

deps_none : (s : StoreParts) (id : ℕ) → input_in s id ≡ None → deps (project_of s) id ≡ id ∷ []
deps_none s id is = by (core_in (project_of s).layers id) is
  where
    by : (o : Option Core) → option_map (input_from s) (option_map (parts_among (project_of s).layers) o) ≡ None
        → option_map_or deps_of o (id ∷ []) ≡ id ∷ []
    by None is = refl
    by (Some own) is = absurd cc

pub deps_alike : (s t : StoreParts) (id : ℕ) → input_in s id ≡ input_in t id → deps (project_of s) id ≡ deps (project_of t) id
deps_alike s t id same = by (input_in s id) refl
  where
    by : (o : Option Input) → input_in s id ≡ o → deps (project_of s) id ≡ deps (project_of t) id
    by None is = deps_none s id is ∙ sym (deps_none t id (sym same ∙ is))
    by (Some i) is = deps_told s id i is ∙ sym (deps_told t id i (sym same ∙ is))

-- ---- caches

-- what an edit leaves depends on no layer that it touches
spared : (s : StoreParts) (e : Edit) (layer : ℕ) (p : Painting) → touched e ≡ Some layer → IsPresent s p → depends_on layer p ≡ false
    → touches_any e (deps (project_of s) (painted_id p)) ≡ false
spared s e layer p is present apart =
    ap (λ o. option_map_or (λ id. list_any (nat_eq id) (deps (project_of s) (painted_id p))) o false) is
    ∙ ap (list_any (nat_eq layer)) (deps_told s (painted_id p) p.input present)
    ∙ apart

frame_spares : (e : Edit) (ids : List ℕ) → touched e ≡ None → touches_any e ids ≡ false
frame_spares e ids is = ap (λ o. option_map_or (λ id. list_any (nat_eq id) ids) o false) is

all_left : (P Q : Painting → Type 0) (layer : ℕ) → ((p : Painting) → P p → depends_on layer p ≡ false → Q p) → (ps : List Painting)
    → AllByRecursion P ps → AllByRecursion Q (independent layer ps)
all_left P Q layer keeps [] h = tt
all_left P Q layer keeps (p ∷ ps) h = by (depends_on layer p) refl (all_left P Q layer keeps ps h.1)
  where
    by : (b : Bool) → depends_on layer p ≡ b → AllByRecursion Q (independent layer ps)
        → AllByRecursion Q (cond (not b) (p ∷ independent layer ps) (independent layer ps))
    by true is rest = rest
    by false is rest = (keeps p h.0 is, rest)

edited_current : (s t : StoreParts) (e : Edit) (tab : Tab) → IsEdited s e t → IsCurrent s tab → IsCurrent t (tab_edited e tab)
edited_current s t e tab h was = by (touched e) refl
  where
    stays_present : (p : Painting) → IsPresent s p → touches_any e (deps (project_of s) (painted_id p)) ≡ false → IsPresent t p
    stays_present p present none = input_stays s t e (painted_id p) h none ∙ present

    all_stay : (ps : List Painting) → touched e ≡ None → AllByRecursion (IsPresent s) ps → AllByRecursion (IsPresent t) ps
    all_stay [] is h = tt
    all_stay (p ∷ ps) is h = (stays_present p h.0 (frame_spares e (deps (project_of s) (painted_id p)) is), all_stay ps is h.1)

    by : (o : Option ℕ) → touched e ≡ o → IsCurrent t (record tab { paintings = (left_by o tab.paintings) })
    by None is = record { present = all_stay tab.paintings is was.present; published = was.published }
    by (Some layer) is = record {
      present = all_left (IsPresent s) (IsPresent t) layer
          (λ p present apart. stays_present p present (spared s e layer p is present apart)) tab.paintings was.present;
      published = was.published;
    }

-- the cache that an edit leaves, seen
abbrev leaves : Project → Option ℕ → Cached → Bool
leaves project o image = not (option_map_or (λ id. list_any (nat_eq id) (deps project image.layer)) o false)

frame_left : (project : Project) (ps : List Painting) → map cached_of ps ≡ filter (leaves project None) (map cached_of ps)
frame_left project [] = refl
frame_left project (p ∷ ps) = ap (λ l. cached_of p ∷ l) (frame_left project ps)

abbrev kept_from : StoreParts → ℕ → List Painting → List Cached
kept_from s layer ps = filter (leaves (project_of s) (Some layer)) (map cached_of ps)

layer_left : (s : StoreParts) (layer : ℕ) (ps : List Painting) → AllByRecursion (IsPresent s) ps
    → map cached_of (independent layer ps) ≡ kept_from s layer ps
layer_left s layer [] h = refl
layer_left s layer (p ∷ ps) h =
    by (depends_on layer p) (layer_left s layer ps h.1)
    ∙ ap (λ ids. cond (not (list_any (nat_eq layer) ids)) (cached_of p ∷ kept_from s layer ps) (kept_from s layer ps))
    (sym (deps_told s (painted_id p) p.input h.0))
  where
    by : (b : Bool) → map cached_of (independent layer ps) ≡ kept_from s layer ps
        → map cached_of (cond (not b) (p ∷ independent layer ps) (independent layer ps))
        ≡ cond (not b) (cached_of p ∷ kept_from s layer ps) (kept_from s layer ps)
    by true rest = rest
    by false rest = ap (λ l. cached_of p ∷ l) rest

tab_seen : (s : StoreParts) (e : Edit) (tab : Tab) → IsCurrent s tab → canvas_of (tab_edited e tab) ≡ canvas_edited (project_of s) e (canvas_of tab)
tab_seen s e tab was = ap (λ l. record (canvas_of tab) { cache = l }) (by (touched e))
  where
    by : (o : Option ℕ) → map cached_of (left_by o tab.paintings) ≡ filter (leaves (project_of s) o) (map cached_of tab.paintings)
    by None = frame_left (project_of s) tab.paintings
    by (Some layer) = layer_left s layer tab.paintings was.present

canvases_edited : (s : StoreParts) (e : Edit) (tabs : List Tab) → AllByRecursion (IsCurrent s) tabs
    → map canvas_of (map (tab_edited e) tabs) ≡ map (canvas_edited (project_of s) e) (map canvas_of tabs)
canvases_edited s e [] h = refl
canvases_edited s e (tab ∷ tabs) h = λ i. tab_seen s e tab h.0 i ∷ canvases_edited s e tabs h.1 i

-- ---- slots

or_first : (a b : Bool) → (a || b) ≡ false → a ≡ false
or_first true b h = absurd cc
or_first false b h = refl

or_second : (a b : Bool) → (a || b) ≡ false → b ≡ false
or_second true b h = absurd cc
or_second false b h = h

slot_fresh : (s t : StoreParts) (e : Edit) (row : Row) (x : Slot) → IsEdited s e t → IsFresh s row x
    → IsFresh t row (slot_edited (project_of row.store) e x)
slot_fresh s t e row x h was untouched =
    let hit = touches_any e (deps (project_of row.store) x.layer) in
    let same = was (or_first x.touched hit untouched) in
    input_stays s t e x.layer h (ap (touches_any e) (deps_alike s row.store x.layer same) ∙ or_second x.touched hit untouched) ∙ same

edited_fresh : (s t : StoreParts) (e : Edit) (row : Row) → IsEdited s e t → AreFresh s row → AreFresh t (row_edited e row)
edited_fresh s t e row h was = by row.ended was
  where
    by : (o : Option How) → WhileLive o (AllByRecursion (IsFresh s row) row.slots)
        → AreFresh t (if is_some o then record row { ended = o }
        else record row { slots = (slots_edited row.store e row.slots); ended = o })
    by None live = all_map (IsFresh s row) (IsFresh t row) (slot_edited (project_of row.store) e)
        (λ x f. slot_fresh s t e row x h f) row.slots live
    by (Some how) live = tt

all_edited : (s t : StoreParts) (e : Edit) (rows : List Row) → IsEdited s e t → AllByRecursion (AreFresh s) rows
    → AllByRecursion (AreFresh t) (map (row_edited e) rows)
all_edited s t e rows h was = all_map (AreFresh s) (AreFresh t) (row_edited e) (λ row f. edited_fresh s t e row h f) rows was

missed_edited : (project : Project) (e : Edit) (list : List Slot) → missed_in (map (slot_edited project e) list) ≡ missed_in list
missed_edited project e [] = refl
missed_edited project e (x ∷ list) = ap (λ n. missed_weight x + n) (missed_edited project e list)

weight_edited : (e : Edit) (row : Row) → weight (row_edited e row) ≡ weight row
weight_edited e row = by row.ended
  where
    by : (o : Option How) → weight (if is_some o then record row { ended = o }
        else record row { slots = (slots_edited row.store e row.slots); ended = o }) ≡ end_weight o + missed_in row.slots
    by None = ap (λ n. 1 + n) (missed_edited (project_of row.store) e row.slots)
    by (Some how) = refl

owed_edited : (e : Edit) (rows : List Row) → owed (map (row_edited e) rows) ≡ owed rows
owed_edited e [] = refl
owed_edited e (row ∷ rows) = λ i. weight_edited e row i + owed_edited e rows i

edited_whole : (e : Edit) (row : Row) → IsWhole row → IsWhole (row_edited e row)
edited_whole e row was = by row.ended
  where
    by : (o : Option How) → IsWhole (if is_some o then record row { ended = o }
        else record row { slots = (slots_edited row.store e row.slots); ended = o })
    by None = record { layers = edited_layers row.store e row.slots ∙ was.layers; apart = was.apart }
    by (Some how) = record { layers = was.layers; apart = was.apart }

-- ---- the entry

-- the tables behind an accepted edit
abbrev pub tables_edited : Edit → StoreParts → Tables → Tables
tables_edited e store t = record { store = store; tabs = map (tab_edited e) t.tabs; rows = map (row_edited e) t.rows }

edit_holds : (t : Tables) (u : StoreParts) (e : Edit) (spare left : ℕ) → IsEdited t.store e u → spare ≤ left + 1 → owed t.rows + 1 ≤ spare
    → Holds t spare → Holds (tables_edited e u t) left
edit_holds t u e spare left h room owes kept =
    let same = owed_edited e t.rows in
    let version = h.version in record {
      opened = omega (arith, version);
      caches = all_map (IsCurrent t.store) (IsCurrent u) (tab_edited e) (λ tab was. edited_current t.store u e tab h was) t.tabs kept.caches;
      slots = all_edited t.store u e t.rows h kept.slots;
      shown = all_map IsWhole IsWhole (row_edited e) (edited_whole e) t.rows kept.shown;
      room = omega (arith, same, room, owes);
    }

one_more : (n m : ℕ) → 1 ≤ n → m ≡ suc n → suc (n - 1) ≡ m - 1
one_more n m least is = omega (arith, least, is)

edit_seen : (h : History) (who : ℕ) (e : Edit) (u : StoreParts) → IsEdited h.tables.store e u → Holds h.tables h.spare
    → did (state h) who (act.Edit e None) ≡ state_of (tables_edited e u h.tables)
edit_seen h who e u edited kept =
    let accepted_more : suc (accepted h.tables.store) ≡ accepted u = one_more h.tables.store.version u.version kept.opened edited.version in
    let canvases = canvases_edited h.tables.store e h.tables.tabs kept.caches in
    let jobs = jobs_edited e h.tables.rows in
    λ i. record {
      project = sym edited.project i;
      accepted = accepted_more i;
      canvases = sym canvases i;
      jobs = sym jobs i;
    }

-- what comes of an accepted edit
pub edit_noted : (h : History) (who left : ℕ) (e : Edit) (u : Tables) (journal : List Entry) → IsDesk h
    → IsEdited h.tables.store e u.store → verdict (state h).project (state h).accepted e ≡ None
    → u.tabs ≡ map (tab_edited e) h.tables.tabs → u.rows ≡ map (row_edited e) h.tables.rows
    → journal ≡ h.journal ++ record { caller = who; act = act.Edit e None } ∷ [] → h.spare ≤ left + 1 → owed h.tables.rows + 1 ≤ h.spare
    → let new : History = record { opening = h.opening; journal = journal; spare = left; tables = u } in
    IsDesk new × Notes h new who (act.Edit e None)
edit_noted h who left e u journal kept edited in_order tabs rows longer room owes =
    let same : tables_edited e u.store h.tables ≡ u = λ i. record { store = u.store; tabs = sym tabs i; rows = sym rows i } in
    noted h (act.Edit e None) who left u journal kept longer (sym in_order)
    (edit_seen h who e u.store edited kept.holds ∙ ap state_of same)
    (subst (λ t. Holds t left) same (edit_holds h.tables u.store e h.spare left edited room owes kept.holds))
    (subst (KeepJobs h.tables.rows) (sym rows) (jobs_edited_kept e h.tables.rows)) edited refl
    (named_all h.tables.rows (tab_edited e) (λ tab. refl) h.tables.tabs u.tabs tabs kept.named)

-- ---- a refused edit

-- an edit's entry names the verdict that the error tells
pub refused_notes : (old new : History) (who : ℕ) (e : Edit) (error verdict : EditError) → told_by error ≡ Some verdict
    → Notes old new who (act.Edit e (Some verdict)) → EditNotes old new who e (Err error)
refused_notes old new who e UnknownLayer verdict is notes = subst (λ v. Notes old new who (act.Edit e v)) (sym is) notes
refused_notes old new who e UnknownFeature verdict is notes = subst (λ v. Notes old new who (act.Edit e v)) (sym is) notes
refused_notes old new who e WrongKind verdict is notes = subst (λ v. Notes old new who (act.Edit e v)) (sym is) notes
refused_notes old new who e DuplicateId verdict is notes = subst (λ v. Notes old new who (act.Edit e v)) (sym is) notes
refused_notes old new who e Limit verdict is notes = subst (λ v. Notes old new who (act.Edit e v)) (sym is) notes
refused_notes old new who e BadPlace verdict is notes = subst (λ v. Notes old new who (act.Edit e v)) (sym is) notes
refused_notes old new who e NoMemory verdict is notes = absurd cc

-- and there is none for want of memory
pub refused_stays : (old new : History) (who : ℕ) (e : Edit) (error : EditError) → told_by error ≡ None → Stays old new
    → EditNotes old new who e (Err error)
refused_stays old new who e UnknownLayer is stays = absurd cc
refused_stays old new who e UnknownFeature is stays = absurd cc
refused_stays old new who e WrongKind is stays = absurd cc
refused_stays old new who e DuplicateId is stays = absurd cc
refused_stays old new who e Limit is stays = absurd cc
refused_stays old new who e BadPlace is stays = absurd cc
refused_stays old new who e NoMemory is stays = stays

pub refused_answer : (s : State) (e : Edit) (error : EditError) → verdict s.project s.accepted e ≡ told_by error → EditAnswer s e (Err error)
refused_answer s e UnknownLayer is = is
refused_answer s e UnknownFeature is = is
refused_answer s e WrongKind is = is
refused_answer s e DuplicateId is = is
refused_answer s e Limit is = is
refused_answer s e BadPlace is = is
refused_answer s e NoMemory is = tt
