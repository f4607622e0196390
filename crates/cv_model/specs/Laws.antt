-- What holds of edits, parts and pictures whatever the project: laws, each the clause of a function of its
-- name.
use Rattle.std.specs.Prelude.{◌≡◌, ℕ, ◌<◌, false, List, [], ◌∷◌, Some, None}
use Rattle.cv_model.specs.declared.blend.Blend.TheVariants.{Normal}
use Rattle.cv_model.specs.declared.colour.Rgb.{Rgb}
use Rattle.cv_model.specs.declared.colour.Rgba.{Rgba}
use Rattle.cv_model.specs.declared.edit.Edit.{Edit}
use Rattle.cv_model.specs.declared.layer.Join.{Join}
use Rattle.cv_model.specs.Views.{PixelGrid}
use Rattle.cv_model.specs.Colours.{over, opaque}
use Rattle.cv_model.specs.Blends.{merge}
use Rattle.cv_model.specs.Layers.{Core, Layer, Project, core_in, parts, parts_among, deps}
use Rattle.cv_model.specs.Pictures.{pixel, colour_of}
use Rattle.cv_model.specs.Edits.{touched, touches_any, step}

-- an edit that touches none of the layers on which a layer depends leaves its parts
abbrev pub UntouchedPartsStay : Type 0
UntouchedPartsStay =
    (project : Project) (edit : Edit) (id : ℕ)
    → touches_any edit (deps project id) ≡ false → parts (step project edit) id ≡ parts project id

-- an edit that touches no layer leaves the parts of all
abbrev pub FrameEditsLeaveParts : Type 0
FrameEditsLeaveParts =
    (project : Project) (edit : Edit) (id : ℕ) → touched edit ≡ None
    → parts (step project edit) id ≡ parts project id

-- an edit that doesn't touch a layer leaves the ids on which the layer depends
abbrev pub UntouchedDepsStay : Type 0
UntouchedDepsStay =
    (project : Project) (edit : Edit) (id : ℕ)
    → touches_any edit (id ∷ []) ≡ false → deps (step project edit) id ≡ deps project id

-- a mask layer that isn't there masks nothing
abbrev pub AbsentMasksShowAll : Type 0
AbsentMasksShowAll =
    (layers : List Layer) (own : Core) (mask : ℕ) (view : PixelGrid) (i j : ℕ) → core_in layers mask ≡ None
    → pixel (parts_among layers (record own { mask = Some mask })) view i j
    ≡ pixel (parts_among layers (record own { mask = None })) view i j

-- a join whose layer isn't there gives no text, as no join does
abbrev pub AbsentJoinsGiveNothing : Type 0
AbsentJoinsGiveNothing =
    (layers : List Layer) (own : Core) (join : Join) (view : PixelGrid) (i j : ℕ)
    → core_in layers join.layer ≡ None
    → pixel (parts_among layers (record own { join = Some join })) view i j
    ≡ pixel (parts_among layers (record own { join = None })) view i j

-- the picture of no layers is the background
abbrev pub EmptyPictureIsBackground : Type 0
EmptyPictureIsBackground = (project : Project) (view : PixelGrid) (i j : ℕ)
    → colour_of project [] view i j ≡ project.background

-- an opaque colour merged in normal mode at full opacity hides the backdrop
abbrev pub OpaqueHidesBackdrop : Type 0
OpaqueHidesBackdrop = (backdrop source : Rgb) → merge backdrop (opaque source) 255 Normal ≡ source

-- an opaque colour over another hides it
abbrev pub OpaqueHidesBelow : Type 0
OpaqueHidesBelow = (source : Rgb) (below : Rgba) → over (opaque source) below ≡ opaque source

-- a colour that isn't transparent stays as it is over nothing
abbrev pub OverNothingStays : Type 0
OverNothingStays = (source below : Rgba) → 0 < source.a → below.a ≡ 0 → over source below ≡ source
