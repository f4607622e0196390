-- What stands in a cache was painted for a ready slot of a job on its canvas, of the present parts of its layer.
use Rattle.std.proofs.Common.{◌≡◌, ◌∙◌, sym, ap, refl, ℕ, zero, suc, ◌==◌, Bool, true, false, cond, ◌||◌}
use Rattle.std.proofs.Common.{List, [], ◌∷◌, map, filter, find, reverse, Option, Some, None, is_some, slice_get}
use Rattle.std.proofs.Common.{option_map, option_and_then, IsSomeAnd, fold, subst, if◌then◌else◌, arith}
use Rattle.std.specs.List.{AllByRecursion}
use Rattle.std.proofs.lemmas.Bool.Decides.{nat_tests}
use Rattle.std.proofs.lemmas.List.{reverse-append}
use Rattle.cv_model.specs.declared.edit.Edit.{Edit}
use Rattle.cv_model.specs.declared.edit.EditError.{EditError}
use Rattle.cv_model.specs.Views.{PixelGrid}
use Rattle.cv_model.specs.Layers.{Core, Layer, Project, is_layer, core_in, parts, parts_among, is_slot, slots}
use Rattle.cv_event.specs.declared.entry.Act.{Act}
use Rattle.cv_event.specs.declared.entry.Act.TheVariants as act
use Rattle.cv_event.specs.declared.entry.Entry.{Entry}
use Rattle.cv_event.specs.declared.entry.Fate.TheVariants.{Stored}
use Rattle.cv_event.specs.declared.entry.How.TheVariants.{Finished, Cancelled, NoMemory}
use Rattle.cv_event.specs.declared.slot.Slot.{Slot}
use Rattle.cv_event.specs.declared.slot.Standing.{Standing}
use Rattle.cv_event.specs.declared.slot.Standing.TheVariants.{Missed}
use Rattle.cv_event.specs.States.{Job, Cached, State, job_in, change_job, view_on, stays, slot_edited, job_edited}
use Rattle.cv_event.specs.States.{keeps_cache, with_end, cancelled_on, new_slot, new_job, started, looked, delivered}
use Rattle.cv_event.specs.States.{slot_stands, stands_at, image_of_slot, composed_by, edit_made, did, after, begin}
use Rattle.cv_event.specs.Legality.{is_ready, fate_of, Allows, LegalFrom}
use Rattle.cv_event.specs.Histories.{makes_ready, cached, image_on, cache_behind, IsPainted}
use Rattle.cv_event.specs.Laws.{CachedImagesArePresent}
use Rattle.cv_event.proofs.JobLemmas.{does, after_one}
use Rattle.cv_event.proofs.EndLemmas.{fixed_one, canvas_fixed}
use Rattle.cv_event.proofs.SlotLemmas.{on_slot, slot_does, slot_one, ready_one, layer_one}
use Rattle.cv_event.proofs.CacheLemmas.{cache_of_one_canvas}
use Rattle.cv_event.proofs.PresentLemmas.{all_map, all_same, all_change, all_more, all_at, all_filter, deps_same}
use Rattle.cv_event.proofs.PresentLemmas.{IsFreshSlot, IsFreshJob, AllFresh, fresh_one, leaves, parts_one}
use Rattle.cv_event.proofs.PresentLemmas.{project_fixed, view_fixed, stored_fresh, job_of, emptied, behind_looked}
use Rattle.cv_event.proofs.PresentLemmas.{behind_delivered, empty_at}

-- ---- a job's slots show layers that its project has

all_reversed : {A : Type 0} (P : A → Type 0) (xs : List A) → AllByRecursion P xs → AllByRecursion P (reverse xs)
all_reversed P [] h = tt
all_reversed P (x ∷ xs) h =
    subst (AllByRecursion P) (sym (reverse-append (x ∷ []) xs))
    (all_more P (reverse xs) (x ∷ []) (all_reversed P xs h.1) (h.0, tt))

abbrev IsIn : List Layer → Layer → Type 0
IsIn layers layer = is_some (core_in layers layer.core.id) ≡ true

in_self : (layer : Layer) (layers : List Layer) → IsIn (layer ∷ layers) layer
in_self layer layers =
    let same : is_layer layer.core.id layer ≡ true = grind (arith, nat_tests) in
    ap (λ b. is_some (option_map (λ (x : Layer). x.core) (cond b (Some layer) (find (is_layer layer.core.id)
    layers)))) same

in_more : (layer other : Layer) (layers : List Layer) → IsIn layers other → IsIn (layer ∷ layers) other
in_more layer other layers h = by (is_layer other.core.id layer)
  where
    by : (b : Bool) → is_some (option_map (λ (x : Layer). x.core) (cond b (Some layer) (find (is_layer other.core.id)
        layers))) ≡ true
    by true = refl
    by false = h

all_in : (layers : List Layer) → AllByRecursion (IsIn layers) layers
all_in [] = tt
all_in (layer ∷ layers) = (
  in_self layer layers,
  all_same (IsIn layers) (IsIn (layer ∷ layers)) (λ other h. in_more layer other layers h)
      layers (all_in layers),
)

abbrev HasParts : Project → Slot → Type 0
HasParts project slot = is_some (parts project slot.layer) ≡ true

some_parts : (layers : List Layer) (o : Option Core) → is_some o ≡ true → is_some (option_map (parts_among layers) o)
    ≡ true
some_parts layers None h = h
some_parts layers (Some own) h = refl

abbrev pub IsShownJob : Job → Type 0
IsShownJob job = AllByRecursion (HasParts job.project) job.slots

new_shown : (project : Project) (view : PixelGrid) → AllByRecursion (HasParts project) (map new_slot (slots project
    view))
new_shown project view =
    all_map (IsIn project.layers) (HasParts project) new_slot
    (λ layer h. some_parts project.layers (core_in project.layers layer.core.id) h) (slots project view)
    (all_reversed (IsIn project.layers) (filter (is_slot view) project.layers)
    (all_filter (IsIn project.layers) (IsIn project.layers) (is_slot view) (λ layer is h. h) project.layers
    (all_in project.layers)))

job_shown_edited : (e : Edit) (job : Job) → IsShownJob job → IsShownJob (job_edited e job)
job_shown_edited e job was = by (is_some job.ended)
  where
    by : (b : Bool) → IsShownJob (if b then job else record job { slots = map (slot_edited job.project e) job.slots })
    by true = was
    by false = all_map (HasParts job.project) (HasParts job.project) (slot_edited job.project e) (λ slot h. h)
        job.slots was

cancelled_shown : (c : ℕ) (job : Job) → IsShownJob job → IsShownJob (cancelled_on c job)
cancelled_shown c job was = by (job.canvas == c)
  where
    by : (b : Bool) → IsShownJob (if b then with_end Cancelled job else job)
    by true = was
    by false = was

stands_shown : (i : ℕ) (standing : Standing) (job : Job) → IsShownJob job → IsShownJob (stands_at i standing job)
stands_shown i standing job was =
    all_change (HasParts job.project) (slot_stands standing) (λ slot h. h) job.slots i was

abbrev pub AllShown : State → Type 0
AllShown s = AllByRecursion IsShownJob s.jobs

change_shown : (k : ℕ) (f : Job → Job) (jobs : List Job) → ((job : Job) → IsShownJob job → IsShownJob (f job))
    → AllByRecursion IsShownJob jobs → AllByRecursion IsShownJob (change_job k f jobs)
change_shown zero f jobs keeps h = h
change_shown (suc k) f jobs keeps h = all_change IsShownJob f keeps jobs k h

started_shown : (s : State) (c : ℕ) (v : Option PixelGrid) → AllShown s → AllShown (started c v s)
started_shown s c None h = h
started_shown s c (Some view) h =
    all_more IsShownJob (map (cancelled_on c) s.jobs) (new_job c s.project view ∷ [])
    (all_map IsShownJob IsShownJob (cancelled_on c) (cancelled_shown c) s.jobs h) (new_shown s.project view, tt)

made_shown : (s : State) (e : Edit) (v : Option EditError) → AllShown s → AllShown (edit_made e v s)
made_shown s e None h = all_map IsShownJob IsShownJob (job_edited e) (job_shown_edited e) s.jobs h
made_shown s e (Some error) h = h

pub shown_one : (s : State) (who : ℕ) (a : Act) → AllShown s → AllShown (did s who a)
shown_one s who (act.Edit e v) h = made_shown s e v h
shown_one s who (act.View c view) h = h
shown_one s who (act.Start c j) h = started_shown s c (view_on s c) h
shown_one s who (act.Look j i hit) h =
    change_shown j (stands_at i (looked who hit)) s.jobs (stands_shown i (looked who hit)) h
shown_one s who (act.Deliver j i fate) h =
    change_shown j (stands_at i (delivered fate)) s.jobs (stands_shown i (delivered fate)) h
shown_one s who (act.Compose j) h = change_shown j (composed_by who) s.jobs (λ job was. was) h
shown_one s who (act.Finish j) h = change_shown j (with_end Finished) s.jobs (λ job was. was) h
shown_one s who (act.Fail j) h = change_shown j (with_end NoMemory) s.jobs (λ job was. was) h
shown_one s who (act.Cancel j) h = change_shown j (with_end Cancelled) s.jobs (λ job was. was) h
shown_one s who (act.Preview j bits) h = h
shown_one s who (act.Save c j) h = h

-- ---- images

-- an image of a slot of a job on this canvas, whether it is ready or not
record IsMade (s : State) (c : ℕ) (image : Cached) : Type 0 where
  number : ℕ
  job : Job
  job_is : job_in s.jobs number ≡ Some job
  canvas_is : job.canvas ≡ c
  place : ℕ
  slot : Slot
  slot_is : slice_get job.slots place ≡ Some slot
  layer_is : slot.layer ≡ image.layer
  view_is : image.view ≡ job.view
  has_parts : is_some (parts job.project image.layer) ≡ true
  parts_are : parts job.project image.layer ≡ parts s.project image.layer

abbrev made_of : (s : State) (c : ℕ) (image : Cached) → IsPainted s c image → IsMade s c image
made_of s c image was = record {
  number = was.number;
  job = was.job;
  job_is = was.job_is;
  canvas_is = was.canvas_is;
  place = was.place;
  slot = was.slot;
  slot_is = was.slot_is;
  layer_is = was.layer_is;
  view_is = was.view_is;
  has_parts = was.has_parts;
  parts_are = was.parts_are;
}

painted_after : (s : State) (who c : ℕ) (a : Act) (image : Cached) → Allows s who a → leaves s.project a image ≡ true
    → (was : IsMade s c image)
    → is_ready (slot_does was.number was.place was.job who a was.slot).standing ≡ true
    → IsPainted (did s who a) c image
painted_after s who c a image allowed left was ready =
    let stays = fixed_one (λ (job : Job). job.project) project_fixed was.number who a was.job in
    let same : parts (does was.number who a was.job).project image.layer ≡ parts (did s who a).project image.layer =
    ap (λ p. parts p image.layer) stays ∙ was.parts_are ∙ parts_one s who a image left in
    record {
      number = was.number;
      job = does was.number who a was.job;
      job_is = after_one s who a was.number was.job allowed was.job_is;
      canvas_is = fixed_one (λ (job : Job). job.canvas) canvas_fixed was.number who a was.job ∙ was.canvas_is;
      place = was.place;
      slot = slot_does was.number was.place was.job who a was.slot;
      slot_is = slot_one was.number who a was.job was.place
          ∙ ap (option_map (slot_does was.number was.place was.job who a)) was.slot_is;
      layer_is = layer_one was.number who a was.job was.place was.slot ∙ was.layer_is;
      ready_is = ready;
      view_is = was.view_is ∙ sym (fixed_one (λ (job : Job). job.view) view_fixed was.number who a was.job);
      has_parts = ap (λ p. is_some (parts p image.layer)) stays ∙ was.has_parts;
      parts_are = same;
      deps_are = deps_same (does was.number who a was.job).project (did s who a).project image.layer same;
    }

painted_one : (s : State) (who c : ℕ) (a : Act) (image : Cached) → Allows s who a → leaves s.project a image ≡ true →
    IsPainted s c image → IsPainted (did s who a) c image
painted_one s who c a image allowed left was =
    painted_after s who c a image allowed left (made_of s c image was)
    (ready_one s was.number who a was.job was.place was.slot allowed was.job_is was.slot_is
    ∙ ap (λ b. b || makes_ready was.number was.place a) was.ready_is)

-- the slot of a stored delivery is ready
stored_ready : (j at : ℕ) (slot : Slot) → is_ready (on_slot (j == j) (at == at) (delivered Stored) slot).standing ≡ true
stored_ready j at slot =
    let one : (j == j) ≡ true = grind (arith, nat_tests) in
    let other : (at == at) ≡ true = grind (arith, nat_tests) in
    λ i. is_ready (on_slot (one i) (other i) (delivered Stored) slot).standing

-- the image of a slot whose delivery is stored
painted_stored : (s : State) (who j at : ℕ) (image : Cached) → AllFresh s → AllShown s
    → Allows s who (act.Deliver j at Stored) → (c : ℕ) → image_on s c j at ≡ Some image
    → IsPainted (did s who (act.Deliver j at Stored)) c image
painted_stored s who j at image fresh shown allowed c is = by (job_in s.jobs j) refl allowed is
  where
    of_slot : (job : Job) → job_in s.jobs j ≡ Some job → (o : Option Slot) → slice_get job.slots at ≡ o
        → IsSomeAnd o (λ slot. (slot.standing ≡ Missed who) × (Stored ≡ fate_of s job slot))
        → (b : Bool) → (job.canvas == c) ≡ b → (if b then option_map (image_of_slot job) o else None) ≡ Some image
        → IsPainted (did s who (act.Deliver j at Stored)) c image
    of_slot job there None at_is nothing b on h = absurd nothing
    of_slot job there (Some slot) at_is may false on h = absurd cc
    of_slot job there (Some slot) at_is may true on h =
        let same : image_of_slot job slot ≡ image = cc in
        let number : job.canvas ≡ c = grind (arith, nat_tests) in
        let live = stored_fresh s job slot may.1 in
        let slot_fresh = all_at (IsFreshSlot s.project job.project) job.slots at slot (job_of (IsFreshJob s.project)
        s.jobs j job fresh there live.0) at_is in
        subst (IsPainted (did s who (act.Deliver j at Stored)) c) same
        (painted_after s who c (act.Deliver j at Stored) (image_of_slot job slot) allowed refl (record {
          number = j;
          job = job;
          job_is = there;
          canvas_is = number;
          place = at;
          slot = slot;
          slot_is = at_is;
          layer_is = refl;
          view_is = refl;
          has_parts = all_at (HasParts job.project) job.slots at slot (job_of IsShownJob s.jobs j job shown there)
              at_is;
          parts_are = slot_fresh live.1;
        }) (stored_ready j at slot))

    by : (o : Option Job) → job_in s.jobs j ≡ o → IsSomeAnd o (λ (job : Job). IsSomeAnd (slice_get job.slots at) (λ
        slot. (slot.standing ≡ Missed who) × (Stored ≡ fate_of s job slot)))
        → option_and_then (λ (job : Job). if job.canvas == c then option_map (image_of_slot job) (slice_get job.slots
        at) else None) o ≡ Some image
        → IsPainted (did s who (act.Deliver j at Stored)) c image
    by None there nothing h = absurd nothing
    by (Some job) there may h = of_slot job there (slice_get job.slots at) refl may (job.canvas == c) refl h

-- ---- a cache

abbrev pub AllPainted : State → ℕ → Type 0
AllPainted s c = AllByRecursion (IsPainted s c) (cached s c)

-- what stays behind an act, each image painted of the parts behind it
behind_edit : (s : State) (who c : ℕ) (e : Edit) (v : Option EditError) → Allows s who (act.Edit e v) → AllPainted s
    c → AllByRecursion (IsPainted (did s who (act.Edit e v)) c) (cache_behind s c (act.Edit e v) (cached s c))
behind_edit s who c e None allowed h = all_filter (IsPainted s c) (IsPainted (did s who (act.Edit e None)) c) (stays
    s.project e) (λ image left was. painted_one s who c (act.Edit e None) image allowed left was) (cached s c) h
behind_edit s who c e (Some error) allowed h = h

painted_behind : (s : State) (who c : ℕ) (a : Act) → Allows s who a → AllFresh s → AllShown s → AllPainted s c → AllByRecursion
    (IsPainted (did s who a) c) (cache_behind s c a (cached s c))
painted_behind s who c (act.Edit e v) allowed fresh shown h = behind_edit s who c e v allowed h
painted_behind s who c (act.View k view) allowed fresh shown h =
    emptied _ (k == c) (keeps_cache (view_on s c) view) (cached s c)
    (all_same (IsPainted s c) _ (λ image was. painted_one s who c (act.View k view) image allowed refl was) (cached s c)
    h)
painted_behind s who c (act.Start k j) allowed fresh shown h =
    all_same (IsPainted s c) _ (λ image was. painted_one s who c (act.Start k j) image allowed refl was) (cached s c) h
painted_behind s who c (act.Look j at hit) allowed fresh shown h =
    behind_looked (IsPainted (did s who (act.Look j at hit)) c) s c j at hit
    (all_same (IsPainted s c) _ (λ image was. painted_one s who c (act.Look j at hit) image allowed refl was) (cached s
    c) h)
painted_behind s who c (act.Deliver j at fate) allowed fresh shown h =
    behind_delivered (IsPainted (did s who (act.Deliver j at fate)) c) s c j at fate
    (λ is image there. subst (λ f. IsPainted (did s who (act.Deliver j at f)) c image) (sym is)
    (painted_stored s who j at image fresh shown (subst (λ f. Allows s who (act.Deliver j at f)) is allowed) c there))
    (all_same (IsPainted s c) _ (λ image was. painted_one s who c (act.Deliver j at fate) image allowed refl was) (cached
    s c) h)
painted_behind s who c (act.Compose j) allowed fresh shown h =
    all_same (IsPainted s c) _ (λ image was. painted_one s who c (act.Compose j) image allowed refl was) (cached s c) h
painted_behind s who c (act.Finish j) allowed fresh shown h =
    all_same (IsPainted s c) _ (λ image was. painted_one s who c (act.Finish j) image allowed refl was) (cached s c) h
painted_behind s who c (act.Fail j) allowed fresh shown h =
    all_same (IsPainted s c) _ (λ image was. painted_one s who c (act.Fail j) image allowed refl was) (cached s c) h
painted_behind s who c (act.Cancel j) allowed fresh shown h =
    all_same (IsPainted s c) _ (λ image was. painted_one s who c (act.Cancel j) image allowed refl was) (cached s c) h
painted_behind s who c (act.Preview j bits) allowed fresh shown h = h
painted_behind s who c (act.Save k j) allowed fresh shown h = h

painted_more : (s : State) (rest : List Entry) (c : ℕ) → LegalFrom s rest → AllFresh s → AllShown s → AllPainted s c → AllPainted
    (fold after s rest) c
painted_more s [] c legal fresh shown h = h
painted_more s (entry ∷ rest) c legal fresh shown h =
    painted_more (after s entry) rest c legal.1 (fresh_one s entry.caller entry.act fresh)
    (shown_one s entry.caller entry.act shown)
    (subst (AllByRecursion (IsPainted (after s entry) c)) (sym (cache_of_one_canvas s entry.caller c entry.act))
    (painted_behind s entry.caller c entry.act legal.0 fresh shown h))

pub cached_images_are_present : CachedImagesArePresent
cached_images_are_present o journal c legal =
    painted_more (begin o) journal c legal tt tt (empty_at (IsPainted (begin o) c) o.canvases c)
