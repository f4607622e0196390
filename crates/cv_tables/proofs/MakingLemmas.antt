-- How a job is made of a store's layers.
use Rattle.std.proofs.Common.{◌≡◌, ◌∙◌, sym, ap, refl, subst, ℕ, zero, suc, ◌-◌, ◌<◌, ◌≤◌, Bool, true, false, ◌&&◌, ◌||◌}
use Rattle.std.proofs.Common.{List, [], ◌∷◌, ◌++◌, length, map, find, filter, reverse, drop, Option, Some, None, option_map}
use Rattle.std.proofs.Common.{slice_get, arith, if◌then◌else◌, cond, nat_lt}
use Rattle.std.specs.List.{list_any}
use Rattle.std.proofs.lemmas.Bool.Decides.{nat_tests}
use Rattle.std.proofs.lemmas.List.{map-append, reverse-append, length-reverse}
use Rattle.cv_model.specs.declared.layer.LayerFrame.{LayerFrame}
use Rattle.cv_model.specs.Views.{PixelGrid}
use Rattle.cv_model.specs.Scales.{holds_scale}
use Rattle.cv_model.specs.Layers.{Core, Layer, is_layer, has_layer, core_in, parts_among, is_slot, slots}
use Rattle.cv_model.specs.Edits.{is_over}
use Rattle.cv_model.specs.Paintings.{Input, FrameParts, slot_frame}
use Rattle.cv_store.specs.Stores.{StoreParts, IsStore, layer_of, frame_of as layer_frame, project_of, input_in, input_from}
use Rattle.cv_event.specs.States.{new_slot}
use Rattle.cv_event.proofs.PresentLemmas.{neither}
use Rattle.cv_tables.specs.Rows.{GatheredParts, gathered_more, IsGathered, no_image, IsRow}
use Rattle.cv_tables.specs.Rows.{input_of, painting_shown, slot_layer, layer_id}

-- ---- layers by their ids

any_found : (layers : List Layer) (id : ℕ) → has_layer id layers ≡ true → core_in layers id ≡ None → ⊥
any_found [] id any none = absurd cc
any_found (l ∷ ls) id any none = by (is_layer id l) (any_found ls id) any none
  where
    by : (b : Bool) → (has_layer id ls ≡ true → core_in ls id ≡ None → ⊥) → (b || list_any (is_layer id) ls) ≡ true
        → option_map (λ (layer : Layer). layer.core) (cond b (Some l) (find (is_layer id) ls)) ≡ None → ⊥
    by true rest any none = absurd cc
    by false rest any none = rest any none

none_there : (store : StoreParts) (o : Option Core) → option_map (input_from store) (option_map (parts_among
    (project_of store).layers) o) ≡ None → o ≡ None
none_there store None is = refl
none_there store (Some own) is = absurd cc

pub input_there : (store : StoreParts) (id : ℕ) → has_layer id (map layer_of store.layers) ≡ true → input_in store id ≡ None → ⊥
input_there store id any none =
    any_found (map layer_of store.layers) id any (none_there store (core_in (map layer_of store.layers) id) none)

pub placed : (layers : List Layer) (i : ℕ) (frame : LayerFrame) → option_map layer_frame (slice_get layers i) ≡ Some frame
    → has_layer frame.id layers ≡ true
placed [] i frame is = absurd cc
placed (l ∷ ls) zero frame is =
    let here : layer_frame l ≡ frame = cc in
    let id : l.core.id ≡ frame.id = ap (λ (f : LayerFrame). f.id) here in
    let pass : is_layer frame.id l ≡ true = grind (arith, nat_tests, id) in
    λ i. pass i || list_any (is_layer frame.id) ls
placed (l ∷ ls) (suc i) frame is =
    let rest = placed ls i frame is in by (is_layer frame.id l) rest
  where
    by : (b : Bool) → list_any (is_layer frame.id) ls ≡ true → (b || list_any (is_layer frame.id) ls) ≡ true
    by true h = refl
    by false h = h

-- ---- one layer more

behind : {A B : Type 0} (f : A → B) (xs : List A) (x : A) → map f (xs ++ x ∷ []) ≡ map f xs ++ f x ∷ []
behind f xs x = map-append f xs (x ∷ [])

gathered_one : (store : StoreParts) (layers : List Layer) (g : GatheredParts) (l : Layer) (input : Input)
    → input_in store l.core.id ≡ Some input → IsGathered store layers g
    → IsGathered store (layers ++ l ∷ []) (gathered_more g (layer_frame l) input)
gathered_one store layers g l input is kept = record {
  slots_are = ap (λ s. s ++ new_slot l ∷ []) kept.slots_are ∙ sym (behind new_slot layers l);
  frames_are = ap (λ s. s ++ slot_frame l ∷ []) kept.frames_are ∙ sym (behind slot_frame layers l);
  inputs_are = behind Some g.inputs input ∙ (λ i. kept.inputs_are i ++ sym is i ∷ [])
      ∙ sym (behind (λ (l : Layer). input_in store l.core.id) layers l);
  images_are = ap (λ s. s ++ None ∷ []) kept.images_are ∙ sym (behind no_image layers l);
}

-- the rest from a place on
there : (layers : List Layer) (i : ℕ) (frame : LayerFrame) → option_map layer_frame (slice_get layers i) ≡ Some frame
    → (l : Layer) × (slice_get layers i ≡ Some l) × (layer_frame l ≡ frame) × (drop i layers ≡ l ∷ drop (suc i) layers)
there [] i frame is = absurd cc
there (l ∷ ls) zero frame is = let here : layer_frame l ≡ frame = cc in (l, refl, here, refl)
there (l ∷ ls) (suc i) frame is = there ls i frame is

abbrev pub gathered_at : StoreParts → PixelGrid → ℕ → List Layer
gathered_at store view at = reverse (filter (is_slot view) (drop at (map layer_of store.layers)))

passed : (view : PixelGrid) (l : Layer) (ls : List Layer) → is_slot view l ≡ true
    → reverse (filter (is_slot view) (l ∷ ls)) ≡ reverse (filter (is_slot view) ls) ++ l ∷ []
passed view l ls pass =
    ap (λ b. reverse (if b then l ∷ filter (is_slot view) ls else filter (is_slot view) ls)) pass
    ∙ reverse-append (l ∷ []) (filter (is_slot view) ls)

failed : (view : PixelGrid) (l : Layer) (ls : List Layer) → is_slot view l ≡ false
    → reverse (filter (is_slot view) (l ∷ ls)) ≡ reverse (filter (is_slot view) ls)
failed view l ls fail = ap (λ b. reverse (if b then l ∷ filter (is_slot view) ls else filter (is_slot view) ls)) fail

pub gathered_step : (store : StoreParts) (view : PixelGrid) (at : ℕ) (g : GatheredParts) (frame : LayerFrame) (input : Input)
    → 0 < at → at ≤ length store.layers
    → option_map layer_frame (slice_get (map layer_of store.layers) (at - 1)) ≡ Some frame
    → (frame.visible && holds_scale frame.scales view.u) ≡ true → input_in store frame.id ≡ Some input
    → IsGathered store (gathered_at store view at) g
    → (at - 1 ≤ length store.layers) × IsGathered store (gathered_at store view (at - 1)) (gathered_more g frame input)
gathered_step store view zero g frame input some few is pass found kept = absurd (omega (arith, some))
gathered_step store view (suc i) g frame input some few is pass found kept =
    let down : suc i - 1 ≡ i = omega arith in
    let layers = map layer_of store.layers in
    let q = there layers i frame (subst (λ n. option_map layer_frame (slice_get layers n) ≡ Some frame) down is) in
    let l = q.0 in
    let shown : is_slot view l ≡ true =
    subst (λ (f : LayerFrame). (f.visible && holds_scale f.scales view.u) ≡ true) (sym q.2) pass in
    let one = gathered_one store (gathered_at store view (suc i)) g l input
    (subst (λ (f : LayerFrame). input_in store f.id ≡ Some input) (sym q.2) found) kept in
    let list : gathered_at store view (suc i - 1) ≡ gathered_at store view (suc i) ++ l ∷ [] =
    ap (gathered_at store view) down ∙ ap (λ xs. reverse (filter (is_slot view) xs)) q.3 ∙ passed view l (drop (suc i) layers) shown in (
      omega (arith, few),
      subst (λ f. IsGathered store (gathered_at store view (suc i - 1)) (gathered_more g f input)) q.2
          (subst (λ xs. IsGathered store xs (gathered_more g (layer_frame l) input)) (sym list) one),
    )

pub gathered_past : (store : StoreParts) (view : PixelGrid) (at : ℕ) (g : GatheredParts) (frame : LayerFrame)
    → 0 < at → at ≤ length store.layers
    → option_map layer_frame (slice_get (map layer_of store.layers) (at - 1)) ≡ Some frame
    → (frame.visible && holds_scale frame.scales view.u) ≡ false
    → IsGathered store (gathered_at store view at) g
    → (at - 1 ≤ length store.layers) × IsGathered store (gathered_at store view (at - 1)) g
gathered_past store view zero g frame some few is fail kept = absurd (omega (arith, some))
gathered_past store view (suc i) g frame some few is fail kept =
    let down : suc i - 1 ≡ i = omega arith in
    let layers = map layer_of store.layers in
    let q = there layers i frame (subst (λ n. option_map layer_frame (slice_get layers n) ≡ Some frame) down is) in
    let l = q.0 in
    let shown : is_slot view l ≡ false =
    subst (λ (f : LayerFrame). (f.visible && holds_scale f.scales view.u) ≡ false) (sym q.2) fail in
    let list : gathered_at store view (suc i - 1) ≡ gathered_at store view (suc i) =
    ap (gathered_at store view) down ∙ ap (λ xs. reverse (filter (is_slot view) xs)) q.3 ∙ failed view l (drop (suc i) layers) shown in
    (omega (arith, few), subst (λ xs. IsGathered store xs g) (sym list) kept)

-- ---- a job of what is gathered

few_passed : (test : Layer → Bool) (layers : List Layer) → length (filter test layers) ≤ length layers
few_passed test [] = omega arith
few_passed test (l ∷ ls) = by (test l) (few_passed test ls)
  where
    by : (b : Bool) → length (filter test ls) ≤ length ls → length (if b then l ∷ filter test ls else filter test ls) ≤ suc (length ls)
    by true h = omega (arith, h)
    by false h = omega (arith, h)

not_below : (a b : ℕ) → nat_lt a b ≡ false → b ≤ a
not_below a b h = grind (arith, nat_tests)

few_layers : (layers : List Layer) → is_over layers ≡ false → length layers ≤ 32
unfolding is_over
few_layers layers h = not_below 32 (length layers) (neither (nat_lt 32 (length layers)) _ h).0

few_slots : (store : StoreParts) (view : PixelGrid) → IsStore store → length (slots (project_of store) view) ≤ 32
few_slots store view kept =
    let layers = map layer_of store.layers in
    let few = few_layers layers kept.within in
    let size = length-reverse (filter (is_slot view) layers) in
    let part = few_passed (is_slot view) layers in omega (arith, few, size, part)

map_map : {A B C : Type 0} (g : B → C) (f : A → B) (h : A → C) → ((x : A) → g (f x) ≡ h x) → (xs : List A) → map g (map f xs) ≡ map h xs
map_map g f h same [] = refl
map_map g f h same (x ∷ xs) = λ i. same x i ∷ map_map g f h same xs i

size_map : {A B : Type 0} (f : A → B) (xs : List A) → length (map f xs) ≡ length xs
size_map f [] = refl
size_map f (x ∷ xs) = ap suc (size_map f xs)

pub made_row : (c : ℕ) (store : StoreParts) (view : PixelGrid) (g : GatheredParts) (frame : FrameParts)
    → IsStore store → IsGathered store (slots (project_of store) view) g
    → frame ≡ record { width = view.w; height = view.h; background = store.background; slots = g.frames }
    → IsRow (record { canvas = c; store = store; view = view; slots = g.slots; composer = None; ended = None })
    (Some (record { frame = frame; inputs = g.inputs; images = g.images }))
made_row c store view g frame kept_store kept is =
    let layers = slots (project_of store) view in record {
      live = record {
        frame = is ∙ ap (λ s. record { width = view.w; height = view.h; background = store.background; slots = s }) kept.frames_are;
        inputs = kept.inputs_are ∙ sym (ap (map (input_of store)) kept.slots_are
            ∙ map_map (input_of store) new_slot (λ (l : Layer). input_in store l.core.id) (λ l. refl) layers);
        images = kept.images_are ∙ sym (ap (map (painting_shown store view)) kept.slots_are
            ∙ map_map (painting_shown store view) new_slot no_image (λ l. refl) layers);
      };
      gone = tt;
      layers = ap (map slot_layer) kept.slots_are ∙ map_map slot_layer new_slot layer_id (λ l. refl) layers;
      short = subst (λ n. n ≤ 32) (sym (ap length kept.slots_are ∙ size_map new_slot layers)) (few_slots store view kept_store);
    }
