-- The laws of the desk.
use Rattle.std.proofs.Common.{◌≡◌, ◌∙◌, sym, ap, refl, subst, ℕ, List, [], ◌∷◌, ◌++◌, Option, Some, None, option_map}
use Rattle.std.proofs.Common.{option_and_then, slice_get, IfSome}
use Rattle.std.specs.List.{AllByRecursion}
use Rattle.std.specs.Option.{option_map_or}
use Rattle.std.proofs.lemmas.List.{append_assoc, append-nil}
use Rattle.std.proofs.lemmas.List.Sums.{fold-append}
use Rattle.std.proofs.lemmas.Option.{slice_get-map}
use Rattle.cv_model.specs.Layers.{Parts, parts}
use Rattle.cv_model.specs.Paintings.{Input, Painting}
use Rattle.cv_store.specs.Stores.{StoreParts, project_of, input_from}
use Rattle.cv_cache.specs.Caches.{painted_id}
use Rattle.cv_event.specs.declared.entry.Entry.{Entry}
use Rattle.cv_event.specs.States.{Canvas, State, job_in, after, begin, replay}
use Rattle.cv_event.specs.Legality.{Allows, IsLegal}
use Rattle.cv_event.specs.Histories.{cached}
use Rattle.cv_event.specs.ShownLaws.{published_on}
use Rattle.cv_event.proofs.PresentLemmas.{all_same, all_at}
use Rattle.cv_event.proofs.TakenLemmas.{project_is_of_edits}
use Rattle.cv_tables.specs.Rows.{Row, job_of, row_in}
use Rattle.cv_tables.specs.Tabs.{Tab, PublishedJob, taken_in, canvas_of}
use Rattle.cv_desk.specs.Desks.{History, state, IsPresent, IsWhole, IsCurrent, IsDesk}
use Rattle.cv_desk.specs.Laws.{Call, IsCall, AreCalls, left_by, entries_of, CallsMakeHistory}
use Rattle.cv_desk.specs.Laws.{present, IsOf, ShowsLast, ShowsCanvas, ShowsJob, DesksAreKnown, AreDesks, ListsAreKnown}
use Rattle.cv_desk.specs.Laws.{StampsTellInputs, StampsTellPresentInputs}
use Rattle.cv_desk.proofs.SeenLemmas.{job_seen}
use Rattle.cv_desk.proofs.KeepingLemmas.{legal_more, row_kept}
use Rattle.cv_desk.proofs.RevisedLemmas.{alike_stamps, present_stamps}
use Rattle.cv_desk.proofs.PictureLemmas.{ready_picture, whole_picture, listed_picture, slots_are}

-- ---- a list of calls

-- one call further
abbrev IsTold : History → Type 0
IsTold h = IsLegal h.opening h.journal × (replay h.opening h.journal ≡ state h)

one_told : (old new : History) (o : Option Entry) → IsCall old new o → IsTold old → IsTold new
one_told old new None stays told = (
  subst (λ j. IsLegal new.opening j) (sym stays.journal) (subst (λ p. IsLegal p old.journal) (sym stays.opening) told.0),
  (λ i. replay (stays.opening i) (stays.journal i)) ∙ told.1 ∙ ap (λ t. state (record old { tables = t })) (sym stays.tables),
)
one_told old new (Some entry) notes told =
    let longer = notes.journal in (
      subst (λ j. IsLegal new.opening j) (sym longer) (subst (λ p. IsLegal p (old.journal ++ entry ∷ [])) (sym notes.opening)
          (legal_more (begin old.opening) old.journal entry told.0 (subst (λ s. Allows s entry.caller entry.act) (sym told.1) notes.allowed))),
      (λ i. replay (notes.opening i) (longer i))
          ∙ fold-append after (begin old.opening) old.journal (entry ∷ [])
          ∙ ap (λ s. after s entry) told.1
          ∙ sym notes.becomes,
    )

all_told : (h : History) (calls : List Call) → IsTold h → AreCalls h calls → IsTold (left_by h calls)
all_told h [] told are = told
all_told h (call ∷ calls) told are = all_told call.left calls (one_told h call.left call.entry are.0 told) are.1

one_opening : (old new : History) (o : Option Entry) → IsCall old new o → new.opening ≡ old.opening
one_opening old new None stays = stays.opening
one_opening old new (Some entry) notes = notes.opening

opening_stays : (h : History) (calls : List Call) → AreCalls h calls → (left_by h calls).opening ≡ h.opening
opening_stays h [] are = refl
opening_stays h (call ∷ calls) are = opening_stays call.left calls are.1 ∙ one_opening h call.left call.entry are.0

journal_is : (h : History) (calls : List Call) → AreCalls h calls → (left_by h calls).journal ≡ h.journal ++ entries_of calls
journal_is h [] are = sym (append-nil h.journal)
journal_is h (call ∷ calls) are = journal_is call.left calls are.1 ∙ by call.entry are.0
  where
    by : (o : Option Entry) → IsCall h call.left o
        → call.left.journal ++ entries_of calls ≡ h.journal ++ entries_of (record { entry = o; left = call.left } ∷ calls)
    by None stays = ap (λ j. j ++ entries_of calls) stays.journal
    by (Some entry) notes =
        ap (λ j. j ++ entries_of calls) notes.journal ∙ append_assoc h.journal (entry ∷ []) (entries_of calls)

pub calls_make_history : CallsMakeHistory
calls_make_history opened calls fresh are =
    let first : IsTold opened =
    (subst (IsLegal opened.opening) (sym fresh.journal) tt, ap (replay opened.opening) fresh.journal ∙ sym fresh.state) in
    let told = all_told opened calls first are in
    record {
      opening = opening_stays opened calls are;
      journal = journal_is opened calls are ∙ ap (λ j. j ++ entries_of calls) fresh.journal;
      legal = told.0;
      state = told.1;
    }

-- ---- what a desk shows

parts_seen : (s : StoreParts) (p : Painting) → IsPresent s p → IsOf (project_of s) p
parts_seen s p is = by (parts (project_of s) (painted_id p)) is
  where
    by : (o : Option Parts) → option_map (input_from s) o ≡ Some p.input → o ≡ Some p.input.parts
    by None is = absurd cc
    by (Some found) is =
        let same : input_from s found ≡ p.input = cc in ap (λ (i : Input). Some i.parts) same

canvas_in : (h : History) (c : ℕ) (tab : Tab) → slice_get h.tables.tabs c ≡ Some tab → slice_get (state h).canvases c ≡ Some (canvas_of tab)
canvas_in h c tab there = slice_get-map canvas_of h.tables.tabs c ∙ ap (option_map canvas_of) there

shows_canvas : (h : History) → IsDesk h → (c : ℕ) (tab : Tab) → slice_get h.tables.tabs c ≡ Some tab → ShowsCanvas h c tab
shows_canvas h kept c tab there =
    let current = all_at (IsCurrent h.tables.store) h.tables.tabs c tab kept.holds.caches there in
    let canvas = canvas_in h c tab there in record {
      cache = sym (ap (λ s. cached s c) kept.shows ∙ ap (λ o. option_map_or (λ (k : Canvas). k.cache) o []) canvas);
      images = subst (λ (s : State). AllByRecursion (IsOf s.project) tab.paintings) (sym kept.shows)
          (all_same (IsPresent h.tables.store) (IsOf (project_of h.tables.store)) (parts_seen h.tables.store) tab.paintings current.present);
      last = by tab.published (ap (λ s. published_on s c) kept.shows ∙ ap (λ o. option_and_then (λ (k : Canvas). k.published) o) canvas)
          current.published;
      inputs = current.present;
      named = kept.named c tab there;
    }
  where
    by : (o : Option PublishedJob) → published_on (present h) c ≡ option_map taken_in o → IfSome o (λ last. IsWhole last.row)
        → IfSome o (ShowsLast (present h) c)
    by None is whole = tt
    by (Some last) is whole = record { taken = is; picture = whole_picture last.row whole; listed = listed_picture last.row whole }

shows_job : (h : History) → IsDesk h → (j : ℕ) (row : Row) → row_in h.tables.rows j ≡ Some row → ShowsJob h j row
shows_job h kept j row there =
    let whole = row_kept IsWhole j h.tables.rows row kept.holds.shown there in record {
      job = ap (λ (s : State). job_in s.jobs j) kept.shows ∙ job_seen h.tables.rows j ∙ ap (option_map job_of) there;
      slots = slots_are row whole;
      ready = ready_picture row whole;
      whole = whole_picture row whole;
      behind = kept.revised.jobs j row there;
    }

pub desks_are_known : DesksAreKnown
desks_are_known h kept = record {
  legal = kept.legal;
  state = kept.shows;
  project = sym (ap (λ (s : State). s.project) kept.shows) ∙ project_is_of_edits h.opening h.journal;
  canvases = shows_canvas h kept;
  jobs = shows_job h kept;
  behind = kept.revised.store;
}

-- the desk that the last call leaves
last_desk : (h : History) (calls : List Call) → IsDesk h → AreDesks calls → IsDesk (left_by h calls)
last_desk h [] kept are = kept
last_desk h (call ∷ calls) kept are = last_desk call.left calls are.0 are.1

pub lists_are_known : ListsAreKnown
lists_are_known opened calls fresh kept desks are =
    (calls_make_history opened calls fresh are, desks_are_known (left_by opened calls) (last_desk opened calls kept desks))

-- ---- stamps

pub stamps_tell_inputs : StampsTellInputs
stamps_tell_inputs h j k id a b known first second same =
    alike_stamps h.opening.project h.journal j k id a.store b.store (known.jobs j a first).behind (known.jobs k b second).behind same

pub stamps_tell_present_inputs : StampsTellPresentInputs
stamps_tell_present_inputs h j id row known there same =
    present_stamps h.opening.project h.journal j id row.store h.tables.store (known.jobs j row there).behind known.behind same
