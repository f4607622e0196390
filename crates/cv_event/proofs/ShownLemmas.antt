-- What previews list, and what is published.
use Rattle.std.proofs.Common.{◌≡◌, ◌∙◌, sym, ap, refl, ℕ, zero, suc, ◌+◌, ◌*◌, ◌/◌, ◌%◌, ◌≤◌, ◌==◌, Bool, true, false}
use Rattle.std.proofs.Common.{List, [], ◌∷◌, length, map, Option, Some, None, slice_get, option_map}
use Rattle.std.proofs.Common.{filter, option_and_then, is_some, IsSomeAnd, fold, arith, if◌then◌else◌}
use Rattle.std.specs.Option.{option_or, option_map_or}
use Rattle.std.proofs.lemmas.Bool.{false≢true}
use Rattle.cv_model.specs.declared.edit.Edit.{Edit}
use Rattle.cv_model.specs.declared.edit.EditError.{EditError}
use Rattle.cv_model.specs.declared.project.CanvasSpec.{CanvasSpec}
use Rattle.cv_model.specs.Views.{PixelGrid}
use Rattle.cv_event.specs.declared.entry.Act.{Act}
use Rattle.cv_event.specs.declared.entry.Act.TheVariants as act
use Rattle.cv_event.specs.declared.entry.Entry.{Entry}
use Rattle.cv_event.specs.declared.entry.Fate.{Fate}
use Rattle.cv_event.specs.declared.entry.Fate.TheVariants.{Stored, Kept, Dropped}
use Rattle.cv_event.specs.declared.slot.Slot.{Slot}
use Rattle.cv_event.specs.States.{Job, Cached, Canvas, State, change_at, job_in, view_on, canvas_edited}
use Rattle.cv_event.specs.States.{stays, canvas_viewed, started, with_cache}
use Rattle.cv_event.specs.States.{canvases_looked, canvases_delivered, taken_of, publishes, canvases_finished}
use Rattle.cv_event.specs.States.{served, stored, edit_made, did, after, new_canvas, begin, replay}
use Rattle.cv_event.specs.Legality.{is_ready, ready_from, ready_bits, LegalFrom}
use Rattle.cv_event.specs.Lines.{set_bits, listed_slots}
use Rattle.cv_event.specs.Laws.{entry_of}
use Rattle.cv_event.specs.ShownLaws.{PreviewListsReady, published_on}
use Rattle.cv_event.specs.ShownLaws.{finished_by, last_finished, PublishedIsLastFinished}
use Rattle.cv_event.proofs.JobLemmas.{job_does, job_after}
use Rattle.cv_event.proofs.EndLemmas.{or_more, or_none, fixed_more, IsFixed}
use Rattle.cv_event.proofs.SlotLemmas.{changed}
use Rattle.cv_event.proofs.TakenLemmas.{seen_same, seen_map, cache_changed, taken_fixed}

-- ---- previews

-- no bits are set in 0
set_none : (left k : ℕ) → set_bits left k 0 ≡ []
set_none zero k = refl
set_none (suc left) k = set_none left (k + 1)

-- a bit in front of others
set_more : (left k bits : ℕ) (b : Bool) (rest : List ℕ) → set_bits left (k + 1) bits ≡ rest
    → set_bits (suc left) k (2 * bits + (if b then 1 else 0)) ≡ (if b then k ∷ rest else rest)
set_more left k bits true rest h =
    let odd : (2 * bits + 1) % 2 ≡ 1 = omega arith in
    let half : (2 * bits + 1) / 2 ≡ bits = omega arith in
    let others = set_bits left (k + 1) ((2 * bits + 1) / 2) in
    ap (λ m. if m == 1 then k ∷ others else others) odd
    ∙ ap (λ m. k ∷ set_bits left (k + 1) m) half ∙ ap (λ xs. k ∷ xs) h
set_more left k bits false rest h =
    let even : (2 * bits + 0) % 2 ≡ 0 = omega arith in
    let half : (2 * bits + 0) / 2 ≡ bits = omega arith in
    let others = set_bits left (k + 1) ((2 * bits + 0) / 2) in
    ap (λ m. if m == 1 then k ∷ others else others) even ∙ ap (set_bits left (k + 1)) half ∙ h

set_ready : (left k : ℕ) (xs : List Slot) → length xs ≤ left → set_bits left k (ready_bits xs) ≡ ready_from k xs
set_ready left k [] few = set_none left k
set_ready zero k (x ∷ xs) few = absurd (omega (arith, few))
set_ready (suc left) k (x ∷ xs) few =
    let next : k + 1 ≡ suc k = omega arith in
    set_more left k (ready_bits xs) (is_ready x.standing) (ready_from (suc k) xs)
    (ap (λ n. set_bits left n (ready_bits xs)) next ∙ set_ready left (suc k) xs (omega (arith, few)))

listed : (xs : List Slot) → length xs ≤ 32 → listed_slots (ready_bits xs) ≡ ready_from 0 xs
unfolding listed_slots
listed xs few = set_ready 32 0 xs few

pub preview_lists_ready : PreviewListsReady
preview_lists_ready s who j bits allowed few = by (job_in s.jobs j) allowed few
  where
    by : (o : Option Job) → IsSomeAnd o (λ job. (job.ended ≡ None) × (bits ≡ ready_bits job.slots))
        → IsSomeAnd o (λ job. length job.slots ≤ 32)
        → listed_slots bits ≡ option_map_or (λ (job : Job). ready_from 0 job.slots) o []
    by None allowed few = absurd few
    by (Some job) allowed few = ap listed_slots allowed.1 ∙ listed job.slots few

-- ---- what is published

-- a part of a canvas that only a finish changes
pub record IsSeen {A : Type 0} (part : Canvas → Option A) : Type 0 where
  pub viewed : (view : PixelGrid) (k : Canvas) → part (canvas_viewed view k) ≡ part k
  pub cache : (cache : Canvas → List Cached) (k : Canvas) → part (with_cache cache k) ≡ part k

-- the canvases behind an act that is a finish, and those before another
abbrev finished : State → Act → List Canvas
finished s (act.Finish j) = canvases_finished s j
finished s _ = s.canvases

seen_made : {A : Type 0} (part : Canvas → Option A) → IsSeen part → (s : State) (c : ℕ) (e : Edit) (v : Option EditError)
    → option_and_then part (slice_get (edit_made e v s).canvases c) ≡ option_and_then part (slice_get s.canvases c)
seen_made part seen s c e None =
    seen_map part (canvas_edited s.project e) s.canvases c (λ k. seen.cache (λ (k : Canvas). filter (stays s.project e) k.cache) k)
seen_made part seen s c e (Some error) = refl

seen_started : {A : Type 0} (part : Canvas → Option A) (s : State) (c k : ℕ) (v : Option PixelGrid)
    → option_and_then part (slice_get (started k v s).canvases c) ≡ option_and_then part (slice_get s.canvases c)
seen_started part s c k None = refl
seen_started part s c k (Some view) = refl

seen_looked : {A : Type 0} (part : Canvas → Option A) → IsSeen part → (s : State) (c j at : ℕ) (hit : Bool)
    → option_and_then part (slice_get (canvases_looked s j at hit) c) ≡ option_and_then part (slice_get s.canvases c)
seen_looked part seen s c j at true = cache_changed part served s j at c seen.cache
seen_looked part seen s c j at false = refl

seen_delivered : {A : Type 0} (part : Canvas → Option A) → IsSeen part → (s : State) (c j at : ℕ) (fate : Fate)
    → option_and_then part (slice_get (canvases_delivered s j at fate) c)
    ≡ option_and_then part (slice_get s.canvases c)
seen_delivered part seen s c j at Stored = cache_changed part stored s j at c seen.cache
seen_delivered part seen s c j at Kept = refl
seen_delivered part seen s c j at Dropped = refl

seen_one : {A : Type 0} (part : Canvas → Option A) → IsSeen part → (s : State) (who c : ℕ) (a : Act)
    → option_and_then part (slice_get (did s who a).canvases c) ≡ option_and_then part (slice_get (finished s a) c)
seen_one part seen s who c (act.Edit e v) = seen_made part seen s c e v
seen_one part seen s who c (act.View k view) = seen_same part (canvas_viewed view) s.canvases k c (seen.viewed view)
seen_one part seen s who c (act.Start k j) = seen_started part s c k (view_on s k)
seen_one part seen s who c (act.Look j at hit) = seen_looked part seen s c j at hit
seen_one part seen s who c (act.Deliver j at fate) = seen_delivered part seen s c j at fate
seen_one part seen s who c (act.Compose j) = refl
seen_one part seen s who c (act.Finish j) = refl
seen_one part seen s who c (act.Fail j) = refl
seen_one part seen s who c (act.Cancel j) = refl
seen_one part seen s who c (act.Preview j bits) = refl
seen_one part seen s who c (act.Save k j) = refl

-- a canvas stays
abbrev pub presence : Canvas → Option ℕ
presence k = Some 0

pub presence_seen : IsSeen presence
presence_seen = record { viewed = λ view k. refl; cache = λ cache k. refl }

abbrev pub IsThere : State → ℕ → Type 0
IsThere s c = option_and_then presence (slice_get s.canvases c) ≡ Some 0

published_seen : IsSeen (λ (k : Canvas). k.published)
published_seen = record { viewed = λ view k. refl; cache = λ cache k. refl }

-- a part that a finish leaves too
seen_finished : {A : Type 0} (part : Canvas → Option A) → ((j : ℕ) (job : Job) (k : Canvas) → part (publishes j job k) ≡ part k)
    → (s : State) (c j : ℕ) (o : Option Job)
    → option_and_then part (slice_get (option_map_or (λ (job : Job). change_at job.canvas (publishes j job) s.canvases) o s.canvases) c)
    ≡ option_and_then part (slice_get s.canvases c)
seen_finished part same s c j None = refl
seen_finished part same s c j (Some job) = seen_same part (publishes j job) s.canvases job.canvas c (same j job)

seen_act : {A : Type 0} (part : Canvas → Option A) → ((j : ℕ) (job : Job) (k : Canvas) → part (publishes j job k) ≡ part k)
    → (s : State) (c : ℕ) (a : Act)
    → option_and_then part (slice_get (finished s a) c) ≡ option_and_then part (slice_get s.canvases c)
seen_act part same s c (act.Edit e v) = refl
seen_act part same s c (act.View k view) = refl
seen_act part same s c (act.Start k j) = refl
seen_act part same s c (act.Look j at hit) = refl
seen_act part same s c (act.Deliver j at fate) = refl
seen_act part same s c (act.Compose j) = refl
seen_act part same s c (act.Finish j) = seen_finished part same s c j (job_in s.jobs j)
seen_act part same s c (act.Fail j) = refl
seen_act part same s c (act.Cancel j) = refl
seen_act part same s c (act.Preview j bits) = refl
seen_act part same s c (act.Save k j) = refl

-- a part that no act changes
pub settled_one : {A : Type 0} (part : Canvas → Option A) → IsSeen part
    → ((j : ℕ) (job : Job) (k : Canvas) → part (publishes j job k) ≡ part k) → (s : State) (who c : ℕ) (a : Act)
    → option_and_then part (slice_get (did s who a).canvases c) ≡ option_and_then part (slice_get s.canvases c)
settled_one part seen same s who c a = seen_one part seen s who c a ∙ seen_act part same s c a

pub settled_more : {A : Type 0} (part : Canvas → Option A) → IsSeen part
    → ((j : ℕ) (job : Job) (k : Canvas) → part (publishes j job k) ≡ part k) → (s : State) (rest : List Entry) (c : ℕ)
    → option_and_then part (slice_get (fold after s rest).canvases c) ≡ option_and_then part (slice_get s.canvases c)
settled_more part seen same s [] c = refl
settled_more part seen same s (entry ∷ rest) c =
    settled_more part seen same (after s entry) rest c ∙ settled_one part seen same s entry.caller c entry.act

-- what a finish publishes on a canvas that is there
publish_where : (b : Bool) (j : ℕ) (job : Job) (o : Option Canvas) → option_and_then presence o ≡ Some 0
    → option_and_then (λ (k : Canvas). k.published) (option_map (λ k. if b then publishes j job k else k) o)
    ≡ option_or (if b then Some (taken_of j job) else None) (option_and_then (λ (k : Canvas). k.published) o)
publish_where b j job None there = absurd cc
publish_where true j job (Some k) there = refl
publish_where false j job (Some k) there = refl

canvas_fixed : IsFixed (λ (job : Job). job.canvas)
canvas_fixed = record { slots = λ job slots. refl; composer = λ job o. refl; ended = λ job o. refl }

-- what a state behind further entries says of what a job took, and of its canvas
finished_later : (t : State) (c j : ℕ) (job now : Job) → job_in t.jobs j ≡ Some now → taken_of j now ≡ taken_of j job
    → now.canvas ≡ job.canvas
    → finished_by t c (act.Finish j) ≡ (if job.canvas == c then Some (taken_of j job) else None)
finished_later t c j job now is took on =
    (λ i. if option_map_or (λ (job : Job). job.canvas == c) (is i) false then option_map (taken_of j) (is i) else None)
    ∙ (λ i. if on i == c then Some (took i) else None)

publish_finish : (s : State) (rest : List Entry) (who c j : ℕ) → LegalFrom s (entry_of who (act.Finish j) ∷ rest)
    → IsThere s c
    → published_on (did s who (act.Finish j)) c
    ≡ option_or (finished_by (fold after s (entry_of who (act.Finish j) ∷ rest)) c (act.Finish j)) (published_on s c)
publish_finish s rest who c j legal there = by (job_in s.jobs j) refl legal.0
  where
    by : (o : Option Job) → job_in s.jobs j ≡ o
        → IsSomeAnd o (λ job. (job.composer ≡ Some who) × (job.ended ≡ None))
        → published_on (did s who (act.Finish j)) c
        ≡ option_or (finished_by (fold after s (entry_of who (act.Finish j) ∷ rest)) c (act.Finish j)) (published_on s c)
    by None is allowed = absurd allowed
    by (Some job) is allowed =
        let entries = entry_of who (act.Finish j) ∷ rest in
        let now = fold (job_does j) job entries in
        ap (λ (o : Option Job). option_and_then (λ (k : Canvas). k.published) (slice_get (option_map_or (λ (job : Job). change_at job.canvas (publishes j job) s.canvases) o s.canvases) c)) is
        ∙ ap (option_and_then (λ (k : Canvas). k.published)) (changed (publishes j job) s.canvases job.canvas c)
        ∙ publish_where (job.canvas == c) j job (slice_get s.canvases c) there
        ∙ ap (λ o. option_or o (published_on s c)) (sym (finished_later (fold after s entries) c j job now
        (job_after s entries j job legal is) (fixed_more (taken_of j) (taken_fixed j) j entries job)
        (fixed_more (λ (job : Job). job.canvas) canvas_fixed j entries job)))

pub publish_one : (s : State) (rest : List Entry) (who c : ℕ) (a : Act) → LegalFrom s (entry_of who a ∷ rest)
    → IsThere s c
    → published_on (did s who a) c
    ≡ option_or (finished_by (fold after s (entry_of who a ∷ rest)) c a) (published_on s c)
publish_one s rest who c (act.Edit e v) legal there = seen_one _ published_seen s who c (act.Edit e v)
publish_one s rest who c (act.View k view) legal there = seen_one _ published_seen s who c (act.View k view)
publish_one s rest who c (act.Start k j) legal there = seen_one _ published_seen s who c (act.Start k j)
publish_one s rest who c (act.Look j at hit) legal there = seen_one _ published_seen s who c (act.Look j at hit)
publish_one s rest who c (act.Deliver j at fate) legal there =
    seen_one _ published_seen s who c (act.Deliver j at fate)
publish_one s rest who c (act.Compose j) legal there = refl
publish_one s rest who c (act.Finish j) legal there = publish_finish s rest who c j legal there
publish_one s rest who c (act.Fail j) legal there = refl
publish_one s rest who c (act.Cancel j) legal there = refl
publish_one s rest who c (act.Preview j bits) legal there = refl
publish_one s rest who c (act.Save k j) legal there = refl

publish_more : (s : State) (rest : List Entry) (c : ℕ) → LegalFrom s rest → IsThere s c
    → published_on (fold after s rest) c ≡ option_or (last_finished (fold after s rest) c rest) (published_on s c)
publish_more s [] c legal there = refl
publish_more s (entry ∷ rest) c legal there =
    let t = fold after s (entry ∷ rest) in
    publish_more (after s entry) rest c legal.1
    (settled_one presence presence_seen (λ j job k. refl) s entry.caller c entry.act ∙ there)
    ∙ ap (option_or (last_finished t c rest)) (publish_one s rest entry.caller c entry.act legal there)
    ∙ sym (or_more (last_finished t c rest) (finished_by t c entry.act) (published_on s c))

-- a canvas as it is opened is there, and has no picture
there_first : (specs : List CanvasSpec) (c : ℕ) → is_some (slice_get specs c) ≡ true
    → option_and_then presence (slice_get (map new_canvas specs) c) ≡ Some 0
there_first [] c is = absurd (false≢true is)
there_first (spec ∷ specs) zero is = refl
there_first (spec ∷ specs) (suc c) is = there_first specs c is

none_first : (specs : List CanvasSpec) (c : ℕ)
    → option_and_then (λ (k : Canvas). k.published) (slice_get (map new_canvas specs) c) ≡ None
none_first [] c = refl
none_first (spec ∷ specs) zero = refl
none_first (spec ∷ specs) (suc c) = none_first specs c

pub published_is_last_finished : PublishedIsLastFinished
published_is_last_finished o journal c legal there =
    publish_more (begin o) journal c legal (there_first o.canvases c there)
    ∙ ap (option_or (last_finished (replay o journal) c journal)) (none_first o.canvases c)
    ∙ or_none (last_finished (replay o journal) c journal)
