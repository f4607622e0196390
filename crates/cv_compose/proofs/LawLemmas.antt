-- The composition of a project's slots, and the project's pictures.
use Rattle.std.proofs.Common.{◌≡◌, ℕ, ◌+◌, Bool, true, false, nat_eq, List, ◌∷◌, [], map, ap, ◌∙◌, refl, Option, Some, None, zip, if◌then◌else◌}
use Rattle.std.proofs.Math.Path.{fun_ext}
use Rattle.std.specs.List.{AllZip, filter_map, list_any}
use Rattle.cv_model.specs.Blends.{merged}
use Rattle.cv_model.specs.Layers.{Layer, Parts, Project, parts_among, slots}
use Rattle.cv_model.specs.Paintings.{Painting, SlotFrame, composed, composed_at, frame_of, slot_frame, merged_painting}
use Rattle.cv_model.specs.Pictures.{pixel, merged_slot, colour_of, listed, picture_of}
use Rattle.cv_model.specs.Rasters.{pixels_of}
use Rattle.cv_model.specs.Views.{PixelGrid}
use Rattle.cv_compose.specs.Inputs.{IsSlotPainting}
use Rattle.cv_compose.specs.Laws.{IsPlaceOf, ArePlacesOf, ComposesListedSlots, ComposesAllSlots, SlotsAreComposition}

-- the slots from k on that a test names
chosen : (ℕ → Bool) → ℕ → List Layer → List Layer
chosen there k [] = []
chosen there k (layer ∷ layers) =
    if there k then layer ∷ chosen there (k + 1) layers else chosen there (k + 1) layers

-- what a slot's place merges at a pixel is what the slot merges there, if it is there
place_merges : (project : Project) (view : PixelGrid) (i j : ℕ) (layer : Layer) (here : Bool) (p : Option Painting)
    → IsPlaceOf project view layer here p
    → (places : List (SlotFrame × Option Painting)) (others : List Layer)
    → filter_map (merged_painting i j) places ≡ map (merged_slot project view i j) others
    → filter_map (merged_painting i j) ((slot_frame layer, p) ∷ places)
    ≡ map (merged_slot project view i j) (if here then layer ∷ others else others)
place_merges project view i j layer false None is places others rest = rest
place_merges project view i j layer false (Some p) is places others rest = absurd is
place_merges project view i j layer true None is places others rest = absurd is
place_merges project view i j layer true (Some p) is places others rest =
    ap (λ (parts : Parts). (pixel parts p.view i j, layer.opacity, layer.blend) ∷ filter_map (merged_painting i j) places) is.0
    ∙ ap (λ (v : PixelGrid). (pixel (parts_among project.layers layer.core) v i j, layer.opacity, layer.blend)
    ∷ filter_map (merged_painting i j) places) is.1
    ∙ ap (λ more. merged_slot project view i j layer ∷ more) rest

-- what the places merge at a pixel is what the chosen slots merge there
places_merge : (project : Project) (view : PixelGrid) (there : ℕ → Bool) (i j k : ℕ) (layers : List Layer)
    (paintings : List (Option Painting)) → ArePlacesOf project view there k layers paintings
    → filter_map (merged_painting i j) (zip (map slot_frame layers) paintings)
    ≡ map (merged_slot project view i j) (chosen there k layers)
unfolding chosen
places_merge project view there i j k [] [] are = refl
places_merge project view there i j k [] (p ∷ paintings) are = absurd are
places_merge project view there i j k (layer ∷ layers) [] are = absurd are
places_merge project view there i j k (layer ∷ layers) (p ∷ paintings) are =
    place_merges project view i j layer (there k) p are.0
    (zip (map slot_frame layers) paintings) (chosen there (k + 1) layers)
    (places_merge project view there i j (k + 1) layers paintings are.1)

-- so the composition is the picture of the chosen slots
composed_chosen : (project : Project) (view : PixelGrid) (there : ℕ → Bool) (paintings : List (Option Painting))
    → ArePlacesOf project view there 0 (slots project view) paintings
    → composed (record { frame = frame_of project view; paintings = paintings })
    ≡ picture_of project (chosen there 0 (slots project view)) view
unfolding composed_at colour_of
composed_chosen project view there paintings are =
    ap (λ f. record { width = view.w; height = view.h; pixels = pixels_of view.w view.h f })
    (fun_ext (λ i. fun_ext (λ j. ap (merged project.background)
    (places_merge project view there i j 0 (slots project view) paintings are))))

-- the chosen ones are those listed, or all
chosen_listed : (ready : List ℕ) (k : ℕ) (layers : List Layer) → chosen (λ n. list_any (nat_eq n) ready) k layers ≡ listed ready k layers
unfolding chosen
chosen_listed ready k [] = refl
chosen_listed ready k (layer ∷ layers) =
    ap (λ rest. if list_any (nat_eq k) ready then layer ∷ rest else rest) (chosen_listed ready (k + 1) layers)

chosen_all : (k : ℕ) (layers : List Layer) → chosen (λ n. true) k layers ≡ layers
unfolding chosen
chosen_all k [] = refl
chosen_all k (layer ∷ layers) = ap (λ rest. layer ∷ rest) (chosen_all (k + 1) layers)

pub composes_listed_slots : ComposesListedSlots
composes_listed_slots project view ready paintings are =
    composed_chosen project view (λ k. list_any (nat_eq k) ready) paintings are
    ∙ ap (λ shown. picture_of project shown view) (chosen_listed ready 0 (slots project view))

pub composes_all_slots : ComposesAllSlots
composes_all_slots project view paintings are =
    composed_chosen project view (λ k. true) paintings are
    ∙ ap (λ shown. picture_of project shown view) (chosen_all 0 (slots project view))

place_kept : (project : Project) (view : PixelGrid) (layer : Layer) (here : Bool) (p : Option Painting)
    → IsPlaceOf project view layer here p → IsSlotPainting view (slot_frame layer) p
place_kept project view layer false None is = tt
place_kept project view layer false (Some p) is = absurd is
place_kept project view layer true None is = absurd is
place_kept project view layer true (Some p) is = (ap (λ (parts : Parts). parts.own.id) is.0, is.1)

-- each place is a slot's painting
places_kept : (project : Project) (view : PixelGrid) (there : ℕ → Bool) (k : ℕ) (layers : List Layer)
    (paintings : List (Option Painting)) → ArePlacesOf project view there k layers paintings
    → AllZip (IsSlotPainting view) (map slot_frame layers) paintings
places_kept project view there k [] [] are = tt
places_kept project view there k [] (p ∷ paintings) are = absurd are
places_kept project view there k (layer ∷ layers) [] are = absurd are
places_kept project view there k (layer ∷ layers) (p ∷ paintings) are =
    (place_kept project view layer (there k) p are.0, places_kept project view there (k + 1) layers paintings are.1)

pub slots_are_composition : SlotsAreComposition
slots_are_composition project view there paintings are =
    record { view = view; width = refl; height = refl; slots = places_kept project view there 0 (slots project view) paintings are }
