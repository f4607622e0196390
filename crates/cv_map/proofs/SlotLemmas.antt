-- The slots of a store's project, from the bottom up, and their images.
use Rattle.std.proofs.Common.{◌≡◌, ◌∙◌, ap, sym, subst, refl, ℕ, zero, suc, ◌+◌, ◌<◌, ◌≤◌, Bool, true, false, if◌then◌else◌, cond, nat_eq}
use Rattle.std.proofs.Common.{List, [], ◌∷◌, ◌++◌, map, filter, reverse, drop, length, Option, Some, None, slice_get, option_map, option_and_then, arith}
use Rattle.std.specs.Prelude.{find}
use Rattle.std.proofs.lemmas.Bool.Decides.{nat_tests}
use Rattle.std.proofs.lemmas.Grind.{reverse_onto}
use Rattle.std.proofs.lemmas.List.{map-append, length-append, length-map, drop_all, drop_more}
use Rattle.std.proofs.lemmas.Option.{slice_get_within, get_or_from_slice_get}
use Rattle.std.specs.List.{AllByRecursion, IsDistinct}
use Rattle.cv_model.specs.declared.layer.LayerFrame.{LayerFrame}
use Rattle.cv_model.specs.Layers.{Layer, Project, is_layer, is_slot, parts_among}
use Rattle.cv_model.specs.Paintings.{Input, Painting, SlotFrame, slot_frame}
use Rattle.cv_model.specs.Views.{PixelGrid}
use Rattle.cv_compose.specs.Laws.{IsPlaceOf, ArePlacesOf}
use Rattle.cv_store.specs.Stores.{StoreParts, RevisedLayer, IsStore, layer_of, id_of, frame_of, project_of, input_from, input_in}

-- ---- a layer by its id

-- a number that no id of these layers equals isn't the id of one of them
apart_at : (id : ℕ) (rows : List RevisedLayer) (n : ℕ) (layer : Layer) → slice_get (map layer_of rows) n ≡ Some layer
    → AllByRecursion (λ other. nat_eq id other ≡ false) (map id_of rows) → is_layer layer.core.id (record layer { core = record layer.core { id = id } }) ≡ false
apart_at id [] n layer at apart = absurd cc
apart_at id (row ∷ rows) zero layer at apart =
    let is : row.layer ≡ layer = cc in subst (λ (l : Layer). nat_eq id l.core.id ≡ false) is apart.0
apart_at id (row ∷ rows) (suc n) layer at apart = apart_at id rows n layer at apart.1

same_id : (id : ℕ) → nat_eq id id ≡ true
same_id id = grind (arith, nat_tests)

-- where the ids differ, the layer at a place is the one with its id
found_at : (rows : List RevisedLayer) (n : ℕ) (layer : Layer) → IsDistinct nat_eq (map id_of rows)
    → slice_get (map layer_of rows) n ≡ Some layer → find (is_layer layer.core.id) (map layer_of rows) ≡ Some layer
unfolding IsDistinct
found_at [] n layer distinct at = absurd cc
found_at (row ∷ rows) zero layer distinct at =
    let is : row.layer ≡ layer = cc in
    ap (λ (l : Layer). cond (is_layer l.core.id row.layer) (Some row.layer) (find (is_layer l.core.id) (map layer_of rows))) (sym is)
    ∙ ap (λ b. cond b (Some row.layer) (find (is_layer row.layer.core.id) (map layer_of rows))) (same_id row.layer.core.id)
    ∙ ap Some is
found_at (row ∷ rows) (suc n) layer distinct at =
    ap (λ b. cond b (Some row.layer) (find (is_layer layer.core.id) (map layer_of rows)))
    (apart_at row.layer.core.id rows n layer at distinct.0)
    ∙ found_at rows n layer distinct.1 at

-- what the layer at a place is painted from
input_at : (s : StoreParts) (n : ℕ) (layer : Layer) → IsStore s → slice_get (map layer_of s.layers) n ≡ Some layer
    → input_in s layer.core.id ≡ Some (input_from s (parts_among (project_of s).layers layer.core))
input_at s n layer kept at =
    ap (λ (found : Option Layer). option_map (input_from s) (option_map (parts_among (project_of s).layers)
    (option_map (λ (l : Layer). l.core) found)))
    (found_at s.layers n layer kept.distinct at)

-- the painting of a layer, if there is one
abbrev pub painting_of : PixelGrid → Option Input → Option Painting
painting_of view found = option_map (λ input. record { input = input; view = view }) found

-- a slot's image is the painting of the slot's layer
place_at : (s : StoreParts) (view : PixelGrid) (n : ℕ) (layer : Layer) → IsStore s
    → slice_get (map layer_of s.layers) n ≡ Some layer
    → IsPlaceOf (project_of s) view layer true (painting_of view (input_in s layer.core.id))
place_at s view n layer kept at =
    subst (λ (found : Option Input). IsPlaceOf (project_of s) view layer true (painting_of view found))
    (sym (input_at s n layer kept at)) (refl, refl)

-- ---- slots, from the bottom up

-- the slots among the layers from a place on, bottom first
abbrev pub shown_from : PixelGrid → List Layer → ℕ → List Layer
shown_from view layers at = reverse (filter (is_slot view) (drop at layers))

one_more : (view : PixelGrid) (layer : Layer) (rest : List Layer) (b : Bool) → is_slot view layer ≡ b
    → reverse (filter (is_slot view) (layer ∷ rest))
    ≡ (if b then reverse (filter (is_slot view) rest) ++ layer ∷ [] else reverse (filter (is_slot view) rest))
one_more view layer rest true is =
    ap (λ b. reverse (cond b (layer ∷ filter (is_slot view) rest) (filter (is_slot view) rest))) is
    ∙ reverse_onto (filter (is_slot view) rest) layer []
one_more view layer rest false is = ap (λ b. reverse (cond b (layer ∷ filter (is_slot view) rest) (filter (is_slot view) rest))) is

-- those from one place lower, with the layer there if it is one
shown_more : (view : PixelGrid) (layers : List Layer) (n : ℕ) (layer : Layer) (b : Bool) → slice_get layers n ≡ Some layer
    → is_slot view layer ≡ b
    → shown_from view layers n ≡ (if b then shown_from view layers (n + 1) ++ layer ∷ [] else shown_from view layers (n + 1))
shown_more view layers n layer b at is =
    ap (λ rest. reverse (filter (is_slot view) rest))
    (drop_more layers n layer (slice_get_within layers n layer at)
    ∙ ap (λ (l : Layer). l ∷ drop (n + 1) layers) (get_or_from_slice_get layers n layer layer at))
    ∙ one_more view layer (drop (n + 1) layers) b is

places_more : (project : Project) (view : PixelGrid) (k : ℕ) (layers : List Layer) (images : List (Option Painting)) (layer : Layer)
    (image : Option Painting) → ArePlacesOf project view (λ n. true) k layers images → IsPlaceOf project view layer true image
    → ArePlacesOf project view (λ n. true) k (layers ++ layer ∷ []) (images ++ image ∷ [])
places_more project view k [] [] layer image are is = (is, tt)
places_more project view k [] (p ∷ images) layer image are is = absurd are
places_more project view k (first ∷ layers) [] layer image are is = absurd are
places_more project view k (first ∷ layers) (p ∷ images) layer image are is =
    (are.0, places_more project view (k + 1) layers images layer image are.1 is)

-- ---- the loop over the layers

-- before the layer above a place: the slots from the place on, and their images
pub record Along (s : StoreParts) (view : PixelGrid) (frames : List SlotFrame) (images : List (Option Painting)) (at : ℕ) : Type 0 where
  pub kept : IsStore s
  pub within : at ≤ length s.layers
  pub few : length images + at ≤ 32
  pub frames_are : frames ≡ map slot_frame (shown_from view (map layer_of s.layers) at)
  pub images_are : ArePlacesOf (project_of s) view (λ k. true) 0 (shown_from view (map layer_of s.layers) at) images

-- below the last layer there is none
pub begun : (s : StoreParts) (view : PixelGrid) (frames : List SlotFrame) (images : List (Option Painting)) (at : ℕ)
    → IsStore s → at ≡ length s.layers → at ≤ 32 → frames ≡ [] → images ≡ [] → Along s view frames images at
begun s view frames images at kept is few no_frames no_images =
    let none : shown_from view (map layer_of s.layers) at ≡ [] =
    ap (λ rest. reverse (filter (is_slot view) rest))
    (drop_all at (map layer_of s.layers) (let n = length-map s.layers layer_of in omega arith)) in
    record {
      kept = kept;
      within = omega arith;
      few = let n = ap (λ (l : List (Option Painting)). length l) no_images in omega arith;
      frames_are = no_frames ∙ sym (ap (map slot_frame) none);
      images_are =
          subst (λ (shown : List Layer). ArePlacesOf (project_of s) view (λ k. true) 0 shown images) (sym none)
          (subst (λ (found : List (Option Painting)). ArePlacesOf (project_of s) view (λ k. true) 0 [] found) (sym no_images) tt);
    }

-- how the layer at a place is merged, if it is a slot
abbrev slot_found : PixelGrid → Option Layer → Option LayerFrame
slot_found view found = option_and_then (λ layer. if is_slot view layer then Some (frame_of layer) else None) found

-- the layer of a slot that was found
record IsSlotAt (view : PixelGrid) (found : Option Layer) (frame : LayerFrame) : Type 0 where
  layer : Layer
  found_is : found ≡ Some layer
  is : is_slot view layer ≡ true
  frame_is : frame ≡ frame_of layer

slot_layer : (view : PixelGrid) (layer : Layer) (frame : LayerFrame) (b : Bool) → is_slot view layer ≡ b
    → (if b then Some (frame_of layer) else None) ≡ Some frame → IsSlotAt view (Some layer) frame
slot_layer view layer frame false is e = absurd cc
slot_layer view layer frame true is e =
    let same : frame_of layer ≡ frame = cc in record { layer = layer; found_is = refl; is = is; frame_is = sym same }

slot_is : (view : PixelGrid) (found : Option Layer) (frame : LayerFrame) → slot_found view found ≡ Some frame
    → IsSlotAt view found frame
slot_is view None frame e = absurd cc
slot_is view (Some layer) frame e = slot_layer view layer frame (is_slot view layer) refl e

no_slot : (view : PixelGrid) (layer : Layer) (b : Bool) → is_slot view layer ≡ b
    → (if b then Some (frame_of layer) else None) ≡ None → is_slot view layer ≡ false
no_slot view layer true is e = absurd cc
no_slot view layer false is e = is

-- the layer at a place
layer_there : (rows : List RevisedLayer) (n : ℕ) → n < length rows → (layer : Layer) × (slice_get (map layer_of rows) n ≡ Some layer)
layer_there [] n within = absurd (omega arith)
layer_there (row ∷ rows) zero within = (row.layer, refl)
layer_there (row ∷ rows) (suc n) within = layer_there rows n (omega arith)

-- the layer at the next place is no slot
pub passed : (s : StoreParts) (view : PixelGrid) (frames : List SlotFrame) (images : List (Option Painting)) (n : ℕ)
    → Along s view frames images (n + 1) → slot_found view (slice_get (map layer_of s.layers) n) ≡ None
    → Along s view frames images n
passed s view frames images n a none =
    let layer = layer_there s.layers n (let w = a.within in omega arith) in
    let no = no_slot view layer.0 (is_slot view layer.0) refl (ap (slot_found view) (sym layer.1) ∙ none) in
    let same = sym (shown_more view (map layer_of s.layers) n layer.0 false layer.1 no) in
    record {
      kept = a.kept;
      within = let w = a.within in omega arith;
      few = let f = a.few in omega arith;
      frames_are = a.frames_are ∙ ap (map slot_frame) same;
      images_are = subst (λ (shown : List Layer). ArePlacesOf (project_of s) view (λ k. true) 0 shown images) same a.images_are;
    }

-- it is a slot, which comes behind the others with its image
pub added : (s : StoreParts) (view : PixelGrid) (frames : List SlotFrame) (images : List (Option Painting)) (n : ℕ) (frame : LayerFrame)
    → Along s view frames images (n + 1) → slot_found view (slice_get (map layer_of s.layers) n) ≡ Some frame
    → Along s view (frames ++ record { id = frame.id; opacity = frame.opacity; blend = frame.blend } ∷ [])
    (images ++ painting_of view (input_in s frame.id) ∷ []) n
added s view frames images n frame a some =
    let slot = slot_is view (slice_get (map layer_of s.layers) n) frame some in
    let layer = slot.layer in
    let shown = shown_from view (map layer_of s.layers) (n + 1) in
    let same = sym (shown_more view (map layer_of s.layers) n layer true slot.found_is slot.is) in
    let image = subst (λ (f : LayerFrame). IsPlaceOf (project_of s) view layer true (painting_of view (input_in s f.id)))
    (sym slot.frame_is) (place_at s view n layer a.kept slot.found_is) in
    record {
      kept = a.kept;
      within = let w = a.within in omega arith;
      few = let f = a.few in let m = length-append images (painting_of view (input_in s frame.id) ∷ []) in omega arith;
      frames_are =
          ap (λ (front : List SlotFrame). front ++ record { id = frame.id; opacity = frame.opacity; blend = frame.blend } ∷ []) a.frames_are
          ∙ ap (λ (f : LayerFrame). map slot_frame shown ++ record { id = f.id; opacity = f.opacity; blend = f.blend } ∷ []) slot.frame_is
          ∙ sym (map-append slot_frame shown (layer ∷ []))
          ∙ ap (map slot_frame) same;
      images_are =
          subst (λ (all : List Layer). ArePlacesOf (project_of s) view (λ k. true) 0 all (images ++ painting_of view (input_in s frame.id) ∷ [])) same
          (places_more (project_of s) view 0 shown images layer (painting_of view (input_in s frame.id)) a.images_are image);
    }
