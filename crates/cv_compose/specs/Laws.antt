-- What a project's composition shows.
use Rattle.std.specs.Prelude.{◌≡◌, ℕ, ◌+◌, Bool, true, false, nat_eq, List, [], ◌∷◌, Option, Some, None}
use Rattle.std.specs.List.{list_any}
use Rattle.cv_model.specs.Layers.{Layer, Project, parts_among, slots}
use Rattle.cv_model.specs.Paintings.{Painting, composed, frame_of}
use Rattle.cv_model.specs.Pictures.{picture, picture_with}
use Rattle.cv_model.specs.Views.{PixelGrid}
use Rattle.cv_compose.specs.Inputs.{IsComposition}

-- the place of a project's slot: the painting of its layer at the view, which is there or isn't
abbrev pub IsPlaceOf : Project → PixelGrid → Layer → Bool → Option Painting → Type 0
IsPlaceOf project view layer false None = Unit {0}
IsPlaceOf project view layer false (Some p) = ⊥
IsPlaceOf project view layer true None = ⊥
IsPlaceOf project view layer true (Some p) = (p.input.parts ≡ parts_among project.layers layer.core) × (p.view ≡ view)

-- the places of slots, numbered from k, of which those are there that the test names
abbrev pub ArePlacesOf : Project → PixelGrid → (ℕ → Bool) → ℕ → List Layer → List (Option Painting) → Type 0
ArePlacesOf project view there k [] [] = Unit {0}
ArePlacesOf project view there k [] (p ∷ paintings) = ⊥
ArePlacesOf project view there k (layer ∷ layers) [] = ⊥
ArePlacesOf project view there k (layer ∷ layers) (p ∷ paintings) =
    IsPlaceOf project view layer (there k) p × ArePlacesOf project view there (k + 1) layers paintings

-- the composition of a project's slots, of which the listed ones are there, is the picture of these
abbrev pub ComposesListedSlots : Type 0
ComposesListedSlots =
    (project : Project) (view : PixelGrid) (ready : List ℕ) (paintings : List (Option Painting))
    → ArePlacesOf project view (λ k. list_any (nat_eq k) ready) 0 (slots project view) paintings
    → composed (record { frame = frame_of project view; paintings = paintings }) ≡ picture_with project view ready

-- the composition of a project's slots, all of which are there, is the project's picture
abbrev pub ComposesAllSlots : Type 0
ComposesAllSlots =
    (project : Project) (view : PixelGrid) (paintings : List (Option Painting))
    → ArePlacesOf project view (λ k. true) 0 (slots project view) paintings
    → composed (record { frame = frame_of project view; paintings = paintings }) ≡ picture project view

-- a project's slots at a view, some of them there, are what a composition keeps
abbrev pub SlotsAreComposition : Type 0
SlotsAreComposition =
    (project : Project) (view : PixelGrid) (there : ℕ → Bool) (paintings : List (Option Painting))
    → ArePlacesOf project view there 0 (slots project view) paintings
    → IsComposition (record { frame = frame_of project view; paintings = paintings })
