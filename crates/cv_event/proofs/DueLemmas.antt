-- What jobs show, whose their tasks are, and when one is due.
use Rattle.std.proofs.Common.{◌≡◌, ◌↔◌, ◌∙◌, sym, ap, refl, subst, ℕ, zero, suc, ◌+◌, ◌==◌, Bool, true, false, not, ◌&&◌}
use Rattle.std.proofs.Common.{◌||◌, List, [], ◌∷◌, length, map, Option, Some, None, is_some, is_none, slice_get}
use Rattle.std.proofs.Common.{option_map, option_and_then, IsSomeAnd, fold, arith, if◌then◌else◌}
use Rattle.std.specs.List.{cons_option, list_any}
use Rattle.std.specs.Option.{option_or, option_map_or}
use Rattle.std.proofs.lemmas.Bool.Decides.{nat_tests}
use Rattle.std.proofs.lemmas.Bool.{false≢true, eqb-true}
use Rattle.cv_model.specs.declared.edit.Edit.{Edit}
use Rattle.cv_model.specs.declared.edit.EditError.{EditError}
use Rattle.cv_model.specs.declared.project.CanvasSpec.{CanvasSpec}
use Rattle.cv_model.specs.Views.{PixelGrid}
use Rattle.cv_model.specs.Layers.{Layer, Project, Opening, slots, deps}
use Rattle.cv_model.specs.Edits.{touches_any}
use Rattle.cv_event.specs.declared.entry.Act.{Act}
use Rattle.cv_event.specs.declared.entry.Act.TheVariants as act
use Rattle.cv_event.specs.declared.entry.Entry.{Entry}
use Rattle.cv_event.specs.declared.entry.Fate.{Fate}
use Rattle.cv_event.specs.declared.entry.Fate.TheVariants.{Stored, Kept, Dropped}
use Rattle.cv_event.specs.declared.entry.How.{How}
use Rattle.cv_event.specs.declared.entry.How.TheVariants.{Finished, Cancelled, NoMemory}
use Rattle.cv_event.specs.declared.slot.Slot.{Slot}
use Rattle.cv_event.specs.declared.slot.Standing.{Standing}
use Rattle.cv_event.specs.declared.slot.Standing.TheVariants.{Open, Missed, Ready, Lost}
use Rattle.cv_event.specs.declared.slot.Task.{Task}
use Rattle.cv_event.specs.declared.slot.Task.TheVariants.{Compose}
use Rattle.cv_event.specs.States.{Job, Canvas, State, change_at, job_in, slot_edited, with_end, new_slot, new_job}
use Rattle.cv_event.specs.States.{started, looked, delivered, slot_stands, stands_at, composed_by}
use Rattle.cv_event.specs.States.{edit_made, did, after, new_canvas, begin, replay}
use Rattle.cv_event.specs.Legality.{is_open, open_slot, all_ready, task_behind, open_task, task_from, task}
use Rattle.cv_event.specs.Legality.{is_view, shows, is_fresh, on_canvas, Allows, LegalFrom, IsLegal}
use Rattle.cv_event.specs.Histories.{accepted_edit, edits, looks_at, delivers, composes, some_act}
use Rattle.cv_event.specs.Laws.{entry_of, started_between}
use Rattle.cv_event.specs.JobLaws.{AcceptedIsCounted, CanvasesStay, slot_layer, layer_id, shown_by}
use Rattle.cv_event.specs.JobLaws.{SlotsAreOfTheTaken, FreshIsOfEdits, is_miss, is_by, DeliveryIsByLooker}
use Rattle.cv_event.specs.JobLaws.{FinishIsByComposer, has_task, TaskIsDue, LooksAreOfLiveJobs}
use Rattle.cv_event.specs.JobLaws.{ComposesAreOfLiveJobs}
use Rattle.cv_event.proofs.JobLemmas.{at_map, does, job_does, after_one, began}
use Rattle.cv_event.proofs.EndLemmas.{stays_where, edited_stays, edit_stays, fixed_more, canvas_fixed}
use Rattle.cv_event.proofs.SlotLemmas.{open_slot_is, look_is, same_some, on_slot, slot_does, slot_one}
use Rattle.cv_event.proofs.SlotLemmas.{and_true, and_false, edit_part, look_open, delivery_missed, open_one}
use Rattle.cv_event.proofs.SlotLemmas.{slots_none, some_none, slot_now, composer_one}
use Rattle.cv_event.proofs.TakenLemmas.{view_is_last}
use Rattle.cv_event.proofs.PresentLemmas.{project_fixed, view_fixed}
use Rattle.cv_event.proofs.ShownLemmas.{settled_more}

-- ---- accepted edits

accepted_started : (s : State) (c : ℕ) (v : Option PixelGrid) → (started c v s).accepted ≡ s.accepted
accepted_started s c None = refl
accepted_started s c (Some view) = refl

accepted_made : (s : State) (e : Edit) (v : Option EditError) (xs : List Edit)
    → length xs + (edit_made e v s).accepted ≡ length (cons_option (accepted_edit (act.Edit e v)) xs) + s.accepted
accepted_made s e None xs =
    let longer : length (e ∷ xs) ≡ suc (length xs) = refl in
    omega (arith, longer)
accepted_made s e (Some error) xs = refl

accepted_one : (s : State) (who : ℕ) (a : Act) (xs : List Edit)
    → length xs + (did s who a).accepted ≡ length (cons_option (accepted_edit a) xs) + s.accepted
accepted_one s who (act.Edit e v) xs = accepted_made s e v xs
accepted_one s who (act.View c view) xs = refl
accepted_one s who (act.Start c j) xs = ap (λ n. length xs + n) (accepted_started s c _)
accepted_one s who (act.Look j at hit) xs = refl
accepted_one s who (act.Deliver j at fate) xs = refl
accepted_one s who (act.Compose j) xs = refl
accepted_one s who (act.Finish j) xs = refl
accepted_one s who (act.Fail j) xs = refl
accepted_one s who (act.Cancel j) xs = refl
accepted_one s who (act.Preview j bits) xs = refl
accepted_one s who (act.Save c j) xs = refl

accepted_more : (s : State) (rest : List Entry) → (fold after s rest).accepted ≡ length (edits rest) + s.accepted
accepted_more s [] = omega arith
accepted_more s (entry ∷ rest) =
    accepted_more (after s entry) rest ∙ accepted_one s entry.caller entry.act (edits rest)

pub accepted_is_counted : AcceptedIsCounted
accepted_is_counted o journal = accepted_more (begin o) journal ∙ omega arith

-- ---- canvases

pub spec_here : (o : Option Canvas)
    → option_map (λ (k : Canvas). k.spec) o ≡ option_and_then (λ (k : Canvas). Some k.spec) o
spec_here None = refl
spec_here (Some k) = refl

pub spec_first : (specs : List CanvasSpec) (c : ℕ)
    → option_and_then (λ (k : Canvas). Some k.spec) (slice_get (map new_canvas specs) c) ≡ slice_get specs c
spec_first [] c = refl
spec_first (spec ∷ specs) zero = refl
spec_first (spec ∷ specs) (suc c) = spec_first specs c

pub canvases_stay : CanvasesStay
canvases_stay o journal c =
    spec_here (slice_get (replay o journal).canvases c)
    ∙ settled_more (λ (k : Canvas). Some k.spec) (record { viewed = λ view k. refl; cache = λ cache k. refl })
    (λ j job k. refl) (begin o) journal c
    ∙ spec_first o.canvases c

-- ---- slots

ids_stand : (standing : Standing) (xs : List Slot) (i : ℕ)
    → map slot_layer (change_at i (slot_stands standing) xs) ≡ map slot_layer xs
ids_stand standing [] i = refl
ids_stand standing (x ∷ xs) zero = refl
ids_stand standing (x ∷ xs) (suc i) = ap (λ ids. x.layer ∷ ids) (ids_stand standing xs i)

ids_edited : (project : Project) (e : Edit) (xs : List Slot)
    → map slot_layer (map (slot_edited project e) xs) ≡ map slot_layer xs
ids_edited project e [] = refl
ids_edited project e (x ∷ xs) = ap (λ ids. x.layer ∷ ids) (ids_edited project e xs)

ids_new : (layers : List Layer) → map slot_layer (map new_slot layers) ≡ map layer_id layers
ids_new [] = refl
ids_new (layer ∷ layers) = ap (λ ids. layer.core.id ∷ ids) (ids_new layers)

ids_one : (j who : ℕ) (a : Act) (job : Job) → shown_by (does j who a job) ≡ shown_by job
ids_one j who (act.Edit e v) job =
    edit_stays shown_by e v job (edited_stays shown_by (is_some job.ended) job _ (ids_edited job.project e job.slots))
ids_one j who (act.View c view) job = refl
ids_one j who (act.Start c k) job = stays_where shown_by (job.canvas == c) (with_end Cancelled) job refl
ids_one j who (act.Look k i hit) job =
    stays_where shown_by (k == j) (stands_at i (looked who hit)) job (ids_stand (looked who hit) job.slots i)
ids_one j who (act.Deliver k i fate) job =
    stays_where shown_by (k == j) (stands_at i (delivered fate)) job (ids_stand (delivered fate) job.slots i)
ids_one j who (act.Compose k) job = stays_where shown_by (k == j) (composed_by who) job refl
ids_one j who (act.Finish k) job = stays_where shown_by (k == j) (with_end Finished) job refl
ids_one j who (act.Fail k) job = stays_where shown_by (k == j) (with_end NoMemory) job refl
ids_one j who (act.Cancel k) job = stays_where shown_by (k == j) (with_end Cancelled) job refl
ids_one j who (act.Preview k bits) job = refl
ids_one j who (act.Save c k) job = refl

ids_more : (j : ℕ) (rest : List Entry) (job : Job) → shown_by (fold (job_does j) job rest) ≡ shown_by job
ids_more j [] job = refl
ids_more j (entry ∷ rest) job =
    ids_more j rest (job_does j job entry) ∙ ids_one j entry.caller entry.act job

pub slots_are_of_the_taken : SlotsAreOfTheTaken
slots_are_of_the_taken o past rest who c j legal =
    let b = began o past rest who c j legal in
    let first = new_job c (replay o past).project b.view in
    let project = fixed_more (λ (k : Job). k.project) project_fixed j rest first in
    let view = fixed_more (λ (k : Job). k.view) view_fixed j rest first in
    subst (λ o2. IsSomeAnd o2 (λ (job : Job). (job.canvas ≡ c) × (shown_by job ≡ map layer_id (slots job.project job.view)))) (sym b.job_is)
    (fixed_more (λ (k : Job). k.canvas) canvas_fixed j rest first, ids_more j rest first ∙ ids_new (slots (replay o past).project b.view) ∙ sym (λ i. map layer_id (slots (project i) (view i))))

-- ---- fresh slots

fresh_on : (v : PixelGrid) (t : Bool) (o : Option Canvas)
    → option_map_or (λ canvas. shows canvas v && t) o false
    ≡ (option_map_or (is_view v) (option_and_then (λ (k : Canvas). k.view) o) false && t)
fresh_on v t None = refl
fresh_on v t (Some k) = refl

pub fresh_is_of_edits : FreshIsOfEdits
fresh_is_of_edits o past rest who c j at legal job slot there is live =
    let journal = started_between past who c j rest in
    let s = replay o journal in
    let b = began o past rest who c j legal in
    let first = new_job c (replay o past).project b.view in
    let same : job ≡ fold (job_does j) first rest = same_some (job_in s.jobs j) there b.job_is in
    let on : job.canvas ≡ c = ap (λ (k : Job). k.canvas) same ∙ fixed_more (λ (k : Job). k.canvas) canvas_fixed j rest first in
    let touched = (slot_now o past rest who c j at legal job slot there is).touched live in
    let last = view_is_last o journal c legal in
    ap (λ (o2 : Option Job). option_map_or (λ (job : Job). option_map_or (λ slot. on_canvas is_fresh s job slot) (slice_get job.slots at) false) o2 false) there
    ∙ ap (λ (o2 : Option Slot). option_map_or (λ slot. on_canvas is_fresh s job slot) o2 false) is
    ∙ fresh_on job.view (not slot.touched) (slice_get s.canvases job.canvas)
    ∙ (λ i. option_map_or (is_view job.view) (option_and_then (λ (k : Canvas). k.view) (slice_get s.canvases (on i))) false && not (touched i))
    ∙ ap (λ v. option_map_or (is_view job.view) v false && not (list_any (λ e. touches_any e (deps job.project slot.layer)) (edits rest))) last

-- ---- who delivers

-- a slot waits for this caller
abbrev waits : ℕ → Standing → Bool
waits w Open = false
waits w (Missed who) = who == w
waits w Ready = false
waits w Lost = false

-- it does behind further entries, with a miss of this caller's and a delivery, or not
abbrev due : ℕ → Standing → Bool → Bool → Bool
due w Open missed done = missed && not done
due w (Missed who) missed done = who == w && not done
due w Ready missed done = false
due w Lost missed done = false

due_none : (w : ℕ) (x : Standing) → waits w x ≡ due w x false false
due_none w Open = refl
due_none w (Missed who) = and_true (who == w)
due_none w Ready = refl
due_none w Lost = refl

-- an act that is no miss and no delivery
quiet : (w : ℕ) (x : Standing) (b m d : Bool) → due w x m d ≡ due w x ((b && false) || m) (false || d)
quiet w x b m d = ap (λ n. due w x (n || m) d) (and_false b)

open_due : (w : ℕ) (x : Standing) (m d : Bool) → is_open x ≡ true → due w x m d ≡ (m && not d)
open_due w Open m d h = refl
open_due w (Missed who) m d h = absurd (false≢true h)
open_due w Ready m d h = absurd (false≢true h)
open_due w Lost m d h = absurd (false≢true h)

miss_or_hit : (w who : ℕ) (hit m d : Bool) → m ≡ false
    → due w (looked who hit) m d ≡ (((who == w && not hit) || m) && not d)
miss_or_hit w who true m d none = by (who == w) m none
  where
    by : (b m : Bool) → m ≡ false → false ≡ (((b && false) || m) && not d)
    by b true h = absurd (false≢true (sym h))
    by true false h = refl
    by false false h = refl
miss_or_hit w who false m d none = by (who == w) m none
  where
    by : (b m : Bool) → m ≡ false → (b && not d) ≡ (((b && true) || m) && not d)
    by b true h = absurd (false≢true (sym h))
    by true false h = refl
    by false false h = refl

due_looked : (w who : ℕ) (a b hit : Bool) (slot : Slot) (m d : Bool)
    → (a ≡ true → b ≡ true → is_open slot.standing ≡ true) → (a ≡ true → b ≡ true → m ≡ false)
    → due w (on_slot a b (looked who hit) slot).standing m d
    ≡ due w slot.standing ((who == w && (a && (b && not hit))) || m) (false || d)
due_looked w who false b hit slot m d was none = quiet w slot.standing (who == w) m d
due_looked w who true false hit slot m d was none = quiet w slot.standing (who == w) m d
due_looked w who true true hit slot m d was none =
    miss_or_hit w who hit m d (none refl refl)
    ∙ sym (open_due w slot.standing ((who == w && not hit) || m) d (was refl refl))

given_none : (w : ℕ) (fate : Fate) (m d : Bool) → due w (delivered fate) m d ≡ false
given_none w Stored m d = refl
given_none w Kept m d = refl
given_none w Dropped m d = refl

due_delivered : (w who : ℕ) (a b : Bool) (fate : Fate) (slot : Slot) (m d : Bool)
    → (a ≡ true → b ≡ true → slot.standing ≡ Missed who)
    → due w (on_slot a b (delivered fate) slot).standing m d
    ≡ due w slot.standing ((who == w && false) || m) ((a && b) || d)
due_delivered w who false b fate slot m d was = quiet w slot.standing (who == w) m d
due_delivered w who true false fate slot m d was = quiet w slot.standing (who == w) m d
due_delivered w who true true fate slot m d was =
    given_none w fate m d ∙ and_false (who == w)
    ∙ ap (λ x. due w x ((who == w && false) || m) true) (sym (was refl refl))

-- a slot at which was looked isn't looked at again
no_look : (s : State) (j who at : ℕ) (a : Act) (job : Job) (slot : Slot) → Allows s who a → job_in s.jobs j ≡ Some job
    → slice_get job.slots at ≡ Some slot → is_open slot.standing ≡ false → is_miss j at a ≡ false
no_look s j who at (act.Edit e v) job slot allowed there is closed = refl
no_look s j who at (act.View c view) job slot allowed there is closed = refl
no_look s j who at (act.Start c k) job slot allowed there is closed = refl
no_look s j who at (act.Look k i hit) job slot allowed there is closed = by (k == j) (i == at) refl refl
  where
    by : (a b : Bool) → (k == j) ≡ a → (i == at) ≡ b → (a && (b && not hit)) ≡ false
    by true true e f = absurd (false≢true (sym closed ∙ look_open s j k i at job slot allowed.0 there is e f))
    by true false e f = refl
    by false b e f = refl
no_look s j who at (act.Deliver k i fate) job slot allowed there is closed = refl
no_look s j who at (act.Compose k) job slot allowed there is closed = refl
no_look s j who at (act.Finish k) job slot allowed there is closed = refl
no_look s j who at (act.Fail k) job slot allowed there is closed = refl
no_look s j who at (act.Cancel k) job slot allowed there is closed = refl
no_look s j who at (act.Preview k bits) job slot allowed there is closed = refl
no_look s j who at (act.Save c k) job slot allowed there is closed = refl

neither : (b c d : Bool) → c ≡ false → d ≡ false → ((b && c) || d) ≡ false
neither b true d e f = absurd (false≢true (sym e))
neither b false true e f = absurd (false≢true (sym f))
neither true false false e f = refl
neither false false false e f = refl

no_looks : (s : State) (rest : List Entry) (j at w : ℕ) (job : Job) (slot : Slot) → LegalFrom s rest
    → job_in s.jobs j ≡ Some job → slice_get job.slots at ≡ Some slot → is_open slot.standing ≡ false
    → list_any (is_by w (is_miss j at)) rest ≡ false
no_looks s [] j at w job slot legal there is closed = refl
no_looks s (entry ∷ rest) j at w job slot legal there is closed =
    let does_slot = slot_does j at job entry.caller entry.act in
    neither (entry.caller == w) (is_miss j at entry.act) (list_any (is_by w (is_miss j at)) rest)
    (no_look s j entry.caller at entry.act job slot legal.0 there is closed)
    (no_looks (after s entry) rest j at w (job_does j job entry) (does_slot slot) legal.1
    (after_one s entry.caller entry.act j job legal.0 there)
    (slot_one j entry.caller entry.act job at ∙ ap (option_map does_slot) is)
    (open_one s j entry.caller entry.act job at slot legal.0 there is ∙ ap (λ b. b && not (looks_at j at entry.act)) closed))

looked_closed : (who : ℕ) (a b hit : Bool) (slot : Slot) → a ≡ true → b ≡ true
    → is_open (on_slot a b (looked who hit) slot).standing ≡ false
looked_closed who true true true slot e f = refl
looked_closed who true true false slot e f = refl
looked_closed who true false hit slot e f = absurd (false≢true f)
looked_closed who false b hit slot e f = absurd (false≢true e)

due_one : (s : State) (j at w who : ℕ) (a : Act) (job : Job) (slot : Slot) (m d : Bool) → Allows s who a
    → job_in s.jobs j ≡ Some job → slice_get job.slots at ≡ Some slot
    → (is_open (slot_does j at job who a slot).standing ≡ false → m ≡ false)
    → due w (slot_does j at job who a slot).standing m d
    ≡ due w slot.standing ((who == w && is_miss j at a) || m) (delivers j at a || d)
due_one s j at w who (act.Edit e v) job slot m d allowed there is none =
    edit_part (λ (x : Slot). due w x.standing m d) job e v slot refl ∙ quiet w slot.standing (who == w) m d
due_one s j at w who (act.View c view) job slot m d allowed there is none = quiet w slot.standing (who == w) m d
due_one s j at w who (act.Start c k) job slot m d allowed there is none = quiet w slot.standing (who == w) m d
due_one s j at w who (act.Look k i hit) job slot m d allowed there is none =
    due_looked w who (k == j) (i == at) hit slot m d (look_open s j k i at job slot allowed.0 there is)
    (λ e f. none (looked_closed who (k == j) (i == at) hit slot e f))
due_one s j at w who (act.Deliver k i fate) job slot m d allowed there is none =
    due_delivered w who (k == j) (i == at) fate slot m d (delivery_missed s who j k i at job slot fate allowed there is)
due_one s j at w who (act.Compose k) job slot m d allowed there is none = quiet w slot.standing (who == w) m d
due_one s j at w who (act.Finish k) job slot m d allowed there is none = quiet w slot.standing (who == w) m d
due_one s j at w who (act.Fail k) job slot m d allowed there is none = quiet w slot.standing (who == w) m d
due_one s j at w who (act.Cancel k) job slot m d allowed there is none = quiet w slot.standing (who == w) m d
due_one s j at w who (act.Preview k bits) job slot m d allowed there is none = quiet w slot.standing (who == w) m d
due_one s j at w who (act.Save c k) job slot m d allowed there is none = quiet w slot.standing (who == w) m d

due_more : (s : State) (rest : List Entry) (j at w : ℕ) (job : Job) (slot now : Slot) → LegalFrom s rest
    → job_in s.jobs j ≡ Some job → slice_get job.slots at ≡ Some slot
    → slice_get (fold (job_does j) job rest).slots at ≡ Some now
    → waits w now.standing
    ≡ due w slot.standing (list_any (is_by w (is_miss j at)) rest) (some_act (delivers j at) rest)
due_more s [] j at w job slot now legal there is behind =
    ap (λ (x : Slot). waits w x.standing) (same_some (slice_get job.slots at) behind is) ∙ due_none w slot.standing
due_more s (entry ∷ rest) j at w job slot now legal there is behind =
    let does_slot = slot_does j at job entry.caller entry.act in
    let there2 = after_one s entry.caller entry.act j job legal.0 there in
    let is2 : slice_get (job_does j job entry).slots at ≡ Some (does_slot slot) =
    slot_one j entry.caller entry.act job at ∙ ap (option_map does_slot) is in
    due_more (after s entry) rest j at w (job_does j job entry) (does_slot slot) now legal.1 there2 is2 behind
    ∙ due_one s j at w entry.caller entry.act job slot (list_any (is_by w (is_miss j at)) rest)
    (some_act (delivers j at) rest) legal.0 there is
    (no_looks (after s entry) rest j at w (job_does j job entry) (does_slot slot) legal.1 there2 is2)

itself : (n : ℕ) → (n == n) ≡ true
itself n = grind (arith, nat_tests)

waits_is : (w : ℕ) (x : Standing) → waits w x ≡ true → x ≡ Missed w
waits_is w Open h = absurd (false≢true h)
waits_is w (Missed who) h = ap Missed (eqb-true who w h)
waits_is w Ready h = absurd (false≢true h)
waits_is w Lost h = absurd (false≢true h)

waits_now : (o : Opening) (past rest : List Entry) (who c j at painter : ℕ) → IsLegal o (started_between past who c j rest)
    → (job : Job) (slot : Slot) → job_in (replay o (started_between past who c j rest)).jobs j ≡ Some job
    → slice_get job.slots at ≡ Some slot
    → waits painter slot.standing ≡ (list_any (is_by painter (is_miss j at)) rest && not (some_act (delivers j at) rest))
waits_now o past rest who c j at painter legal job slot there is =
    by (slice_get (slots (replay o past).project (began o past rest who c j legal).view) at) refl
  where
    by : (l : Option Layer)
        → slice_get (slots (replay o past).project (began o past rest who c j legal).view) at ≡ l
        → waits painter slot.standing ≡ (list_any (is_by painter (is_miss j at)) rest && not (some_act (delivers j at) rest))
    by None none =
        let b = began o past rest who c j legal in
        let first = new_job c (replay o past).project b.view in
        let same : job ≡ fold (job_does j) first rest = same_some (job_in (replay o (started_between past who c j rest)).jobs j) there b.job_is in
        let gone = slots_none j rest first at (at_map new_slot (slots (replay o past).project b.view) at ∙ ap (option_map new_slot) none) in
        absurd (some_none slot (sym is ∙ ap (λ (k : Job). slice_get k.slots at) same ∙ gone))
    by (Some l) some =
        let b = began o past rest who c j legal in
        let first = new_job c (replay o past).project b.view in
        let same : job ≡ fold (job_does j) first rest = same_some (job_in (replay o (started_between past who c j rest)).jobs j) there b.job_is in
        due_more (after (replay o past) (entry_of who (act.Start c j))) rest j at painter first (new_slot l) slot b.legal b.new_is
        (at_map new_slot (slots (replay o past).project b.view) at ∙ ap (option_map new_slot) some)
        (ap (λ (k : Job). slice_get k.slots at) (sym same) ∙ is)

pub delivery_is_by_looker : DeliveryIsByLooker
delivery_is_by_looker o past rest who c j at painter legal job slot there is =
    let now = waits_now o past rest who c j at painter legal job slot there is in
    (λ h. sym now ∙ ap (waits painter) h ∙ itself painter, λ h. waits_is painter slot.standing (now ∙ h))

-- ---- the composition that is due

-- the job whose picture is to be composed, of jobs numbered from k
pub record ComposeIs (k : ℕ) (jobs : List Job) (j : ℕ) : Type 0 where
  pub before : ℕ
  pub job : Job
  pub number : j ≡ k + before
  pub job_is : slice_get jobs before ≡ Some job
  pub live : job.ended ≡ None
  pub ready : all_ready job.slots ≡ true
  pub free : job.composer ≡ None

none_is : (o : Option ℕ) → is_none o ≡ true → o ≡ None
none_is None h = refl
none_is (Some x) h = absurd (false≢true h)

compose_task_is : (k : ℕ) (job : Job) (j : ℕ) → open_task k job ≡ Some (Compose j)
    → (k ≡ j) × (job.ended ≡ None) × (all_ready job.slots ≡ true) × (job.composer ≡ None)
compose_task_is k job j h = by job.ended refl h
  where
    composed : (a b : Bool) → (if a && b then Some (Compose k) else None) ≡ Some (Compose j)
        → (k ≡ j) × (a ≡ true) × (b ≡ true)
    composed true true h = (cc, refl, refl)
    composed true false h = absurd cc
    composed false b h = absurd cc

    of_open : (o : Option ℕ) → task_behind k job o ≡ Some (Compose j) → job.ended ≡ None
        → (k ≡ j) × (job.ended ≡ None) × (all_ready job.slots ≡ true) × (job.composer ≡ None)
    of_open None h live =
        let r = composed (all_ready job.slots) (is_none job.composer) h in
        (r.0, live, r.1, none_is job.composer r.2)
    of_open (Some n) h live = absurd cc

    by : (e : Option How) → job.ended ≡ e
        → (if is_some e then None else task_behind k job (open_slot 0 job.slots)) ≡ Some (Compose j)
        → (k ≡ j) × (job.ended ≡ None) × (all_ready job.slots ≡ true) × (job.composer ≡ None)
    by None live h = of_open (open_slot 0 job.slots) h live
    by (Some how) live h = absurd cc

pub compose_is : (k : ℕ) (jobs : List Job) (j : ℕ) → task_from k jobs ≡ Some (Compose j) → ComposeIs k jobs j
compose_is k [] j h = absurd cc
compose_is k (job ∷ jobs) j h = by (open_task k job) refl h (compose_is (suc k) jobs j)
  where
    by : (o : Option Task) → open_task k job ≡ o → option_or o (task_from (suc k) jobs) ≡ Some (Compose j)
        → (task_from (suc k) jobs ≡ Some (Compose j) → ComposeIs (suc k) jobs j) → ComposeIs k (job ∷ jobs) j
    by (Some t) is h others =
        let r = compose_task_is k job j (is ∙ h) in
        record { before = 0; job = job; number = omega (arith, r.0); job_is = refl; live = r.1; ready = r.2; free = r.3 }
    by None is h others = more (others h)
      where
        more : ComposeIs (suc k) jobs j → ComposeIs k (job ∷ jobs) j
        more r = record {
          before = suc r.before;
          job = r.job;
          number = omega (arith, r.number);
          job_is = r.job_is;
          live = r.live;
          ready = r.ready;
          free = r.free;
        }

pub composes_are_of_live_jobs : ComposesAreOfLiveJobs
composes_are_of_live_jobs s j h =
    let r = compose_is 1 s.jobs j h in
    let number : j ≡ suc r.before = omega (arith, r.number) in
    subst (λ o. IsSomeAnd o (λ (job : Job). (job.ended ≡ None) × (all_ready job.slots ≡ true) × (job.composer ≡ None)))
    (sym (ap (job_in s.jobs) number ∙ r.job_is)) (r.live, r.ready, r.free)

pub looks_are_of_live_jobs : LooksAreOfLiveJobs
looks_are_of_live_jobs s j at h =
    let r = look_is 1 s.jobs j at h in
    let q = open_slot_is 0 r.job.slots at r.open_is in
    let number : j ≡ suc r.before = omega (arith, r.number) in
    let place : at ≡ q.before = omega (arith, q.number) in
    subst (λ o. IsSomeAnd o (λ (job : Job). IsSomeAnd (slice_get job.slots at) (λ slot. (job.ended ≡ None) × (is_open slot.standing ≡ true))))
    (sym (ap (job_in s.jobs) number ∙ r.job_is))
    (subst (λ o. IsSomeAnd o (λ (slot : Slot). (r.job.ended ≡ None) × (is_open slot.standing ≡ true)))
    (sym (ap (slice_get r.job.slots) place ∙ q.slot_is)) (r.live, q.open_is))

-- ---- who finishes

-- a job's picture is composed by this caller, behind further entries with a compose of this caller's, or not
abbrev is_composed : ℕ → Option ℕ → Bool → Bool
is_composed w None made = made
is_composed w (Some who) made = who == w

-- the composer of a job that is composed is nobody before
compose_free : (s : State) (j k : ℕ) (job : Job) → task s ≡ Some (Compose k) → job_in s.jobs j ≡ Some job
    → (k == j) ≡ true → job.composer ≡ None
compose_free s j k job due there same =
    let r = compose_is 1 s.jobs k due in
    let number : j ≡ suc r.before = omega (arith, r.number, eqb-true k j same) in
    let job_is : job_in s.jobs j ≡ Some r.job = ap (job_in s.jobs) number ∙ r.job_is in
    ap (λ (k : Job). k.composer) (same_some (job_in s.jobs j) there job_is) ∙ r.free

no_compose : (s : State) (j who : ℕ) (a : Act) (job : Job) → Allows s who a → job_in s.jobs j ≡ Some job
    → is_none job.composer ≡ false → composes j a ≡ false
no_compose s j who (act.Edit e v) job allowed there taken = refl
no_compose s j who (act.View c view) job allowed there taken = refl
no_compose s j who (act.Start c k) job allowed there taken = refl
no_compose s j who (act.Look k i hit) job allowed there taken = refl
no_compose s j who (act.Deliver k i fate) job allowed there taken = refl
no_compose s j who (act.Compose k) job allowed there taken = by (k == j) refl
  where
    by : (b : Bool) → (k == j) ≡ b → b ≡ false
    by true e = absurd (false≢true (sym taken ∙ ap is_none (compose_free s j k job allowed there e)))
    by false e = refl
no_compose s j who (act.Finish k) job allowed there taken = refl
no_compose s j who (act.Fail k) job allowed there taken = refl
no_compose s j who (act.Cancel k) job allowed there taken = refl
no_compose s j who (act.Preview k bits) job allowed there taken = refl
no_compose s j who (act.Save c k) job allowed there taken = refl

no_composes : (s : State) (rest : List Entry) (j w : ℕ) (job : Job) → LegalFrom s rest → job_in s.jobs j ≡ Some job
    → is_none job.composer ≡ false → list_any (is_by w (composes j)) rest ≡ false
no_composes s [] j w job legal there taken = refl
no_composes s (entry ∷ rest) j w job legal there taken =
    neither (entry.caller == w) (composes j entry.act) (list_any (is_by w (composes j)) rest)
    (no_compose s j entry.caller entry.act job legal.0 there taken)
    (no_composes (after s entry) rest j w (job_does j job entry) legal.1
    (after_one s entry.caller entry.act j job legal.0 there)
    (composer_one j entry.caller entry.act job ∙ ap (λ b. b && not (composes j entry.act)) taken))

-- an act that composes nothing
quiet_composer : (w : ℕ) (b m : Bool) (o p : Option ℕ) → p ≡ o → is_composed w p m ≡ is_composed w o ((b && false) || m)
quiet_composer w b m o p same =
    ap (λ o. is_composed w o m) same ∙ ap (λ n. is_composed w o (n || m)) (and_false b)

composer_part : Job → Option ℕ
composer_part job = job.composer

composed_where : (w who : ℕ) (a m : Bool) (job : Job) → (a ≡ true → job.composer ≡ None) → (a ≡ true → m ≡ false)
    → is_composed w (if a then composed_by who job else job).composer m ≡ is_composed w job.composer ((who == w && a) || m)
composed_where w who false m job free none = quiet_composer w (who == w) m job.composer job.composer refl
composed_where w who true m job free none =
    by (who == w) m (none refl) ∙ ap (λ o. is_composed w o ((who == w && true) || m)) (sym (free refl))
  where
    by : (b m : Bool) → m ≡ false → b ≡ ((b && true) || m)
    by b true h = absurd (false≢true (sym h))
    by true false h = refl
    by false false h = refl

composed_taken : (who : ℕ) (a : Bool) (job : Job) → a ≡ true → is_none (if a then composed_by who job else job).composer ≡ false
composed_taken who true job e = refl
composed_taken who false job e = absurd (false≢true e)

composed_one : (s : State) (j w who : ℕ) (a : Act) (job : Job) (m : Bool) → Allows s who a → job_in s.jobs j ≡ Some job
    → (is_none (does j who a job).composer ≡ false → m ≡ false)
    → is_composed w (does j who a job).composer m ≡ is_composed w job.composer ((who == w && composes j a) || m)
composed_one s j w who (act.Edit e v) job m allowed there none =
    quiet_composer w (who == w) m job.composer _ (edit_stays (λ (k : Job). k.composer) e v job (edited_stays (λ (k : Job). k.composer) (is_some job.ended) job _ refl))
composed_one s j w who (act.View c view) job m allowed there none =
    quiet_composer w (who == w) m job.composer job.composer refl
composed_one s j w who (act.Start c k) job m allowed there none =
    quiet_composer w (who == w) m job.composer _ (stays_where (λ (k : Job). k.composer) (job.canvas == c) (with_end Cancelled) job refl)
composed_one s j w who (act.Look k i hit) job m allowed there none =
    quiet_composer w (who == w) m job.composer _ (stays_where (λ (k : Job). k.composer) (k == j) (stands_at i (looked who hit)) job refl)
composed_one s j w who (act.Deliver k i fate) job m allowed there none =
    quiet_composer w (who == w) m job.composer _ (stays_where (λ (k : Job). k.composer) (k == j) (stands_at i (delivered fate)) job refl)
composed_one s j w who (act.Compose k) job m allowed there none =
    composed_where w who (k == j) m job (compose_free s j k job allowed there)
    (λ e. none (composed_taken who (k == j) job e))
composed_one s j w who (act.Finish k) job m allowed there none =
    quiet_composer w (who == w) m job.composer _ (stays_where (λ (k : Job). k.composer) (k == j) (with_end Finished) job refl)
composed_one s j w who (act.Fail k) job m allowed there none =
    quiet_composer w (who == w) m job.composer _ (stays_where (λ (k : Job). k.composer) (k == j) (with_end NoMemory) job refl)
composed_one s j w who (act.Cancel k) job m allowed there none =
    quiet_composer w (who == w) m job.composer _ (stays_where (λ (k : Job). k.composer) (k == j) (with_end Cancelled) job refl)
composed_one s j w who (act.Preview k bits) job m allowed there none =
    quiet_composer w (who == w) m job.composer job.composer refl
composed_one s j w who (act.Save c k) job m allowed there none =
    quiet_composer w (who == w) m job.composer job.composer refl

composed_more : (s : State) (rest : List Entry) (j w : ℕ) (job : Job) → LegalFrom s rest → job_in s.jobs j ≡ Some job
    → is_composed w (fold (job_does j) job rest).composer false
    ≡ is_composed w job.composer (list_any (is_by w (composes j)) rest)
composed_more s [] j w job legal there = refl
composed_more s (entry ∷ rest) j w job legal there =
    let there2 = after_one s entry.caller entry.act j job legal.0 there in
    composed_more (after s entry) rest j w (job_does j job entry) legal.1 there2
    ∙ composed_one s j w entry.caller entry.act job (list_any (is_by w (composes j)) rest) legal.0 there
    (no_composes (after s entry) rest j w (job_does j job entry) legal.1 there2)

composer_is : (w : ℕ) (o : Option ℕ) → is_composed w o false ≡ true → o ≡ Some w
composer_is w None h = absurd (false≢true h)
composer_is w (Some who) h = ap Some (eqb-true who w h)

pub finish_is_by_composer : FinishIsByComposer
finish_is_by_composer o past rest who c j composer legal =
    let b = began o past rest who c j legal in
    let first = new_job c (replay o past).project b.view in
    let now = composed_more (after (replay o past) (entry_of who (act.Start c j))) rest j composer first b.legal b.new_is in
    subst (λ o2. IsSomeAnd o2 (λ (job : Job). (job.composer ≡ Some composer) ↔ (list_any (is_by composer (composes j)) rest ≡ true))) (sym b.job_is)
    (λ h. sym now ∙ ap (λ o2. is_composed composer o2 false) h ∙ itself composer, λ h. composer_is composer (fold (job_does j) first rest).composer (now ∙ h))

-- ---- whether a task is due

some_either : {A : Type 0} (a b : Option A) → is_some (option_or a b) ≡ (is_some a || is_some b)
some_either None b = refl
some_either (Some x) b = refl

open_some : (k : ℕ) (xs : List Slot)
    → is_some (open_slot k xs) ≡ list_any (λ (slot : Slot). is_open slot.standing) xs
open_some k [] = refl
open_some k (x ∷ xs) =
    by (is_open x.standing) ∙ ap (λ b. is_open x.standing || b) (open_some (suc k) xs)
  where
    by : (b : Bool) → is_some (if b then Some k else open_slot (suc k) xs) ≡ (b || is_some (open_slot (suc k) xs))
    by true = refl
    by false = refl

task_some : (j : ℕ) (job : Job) → is_some (open_task j job) ≡ has_task job
task_some j job = by job.ended
  where
    made : (b : Bool) → is_some (if b then Some (Compose j) else None) ≡ b
    made true = refl
    made false = refl

    behind : (o : Option ℕ)
        → is_some (task_behind j job o) ≡ (is_some o || (all_ready job.slots && is_none job.composer))
    behind None = made (all_ready job.slots && is_none job.composer)
    behind (Some at) = refl

    by : (e : Option How)
        → is_some (if is_some e then None else task_behind j job (open_slot 0 job.slots))
        ≡ (is_none e && (list_any (λ (slot : Slot). is_open slot.standing) job.slots || (all_ready job.slots && is_none job.composer)))
    by (Some how) = refl
    by None =
        behind (open_slot 0 job.slots)
        ∙ ap (λ b. b || (all_ready job.slots && is_none job.composer)) (open_some 0 job.slots)

some_from : (k : ℕ) (jobs : List Job) → is_some (task_from k jobs) ≡ list_any has_task jobs
some_from k [] = refl
some_from k (job ∷ jobs) =
    some_either (open_task k job) (task_from (suc k) jobs)
    ∙ λ i. task_some k job i || some_from (suc k) jobs i

pub task_is_due : TaskIsDue
task_is_due s = some_from 1 s.jobs
