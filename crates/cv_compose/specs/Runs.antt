-- Runs: pixels that follow each other in an image, rows from the top.
use Rattle.std.specs.Prelude.{ℕ, ◌*◌, ◌≤◌, List, [], ◌∷◌, fold, zip, Option, Some, None}
use Rattle.std.specs.List.{between}
use Rattle.cv_model.specs.declared.blend.Blend.{Blend}
use Rattle.cv_model.specs.declared.colour.Rgb.{Rgb}
use Rattle.cv_model.specs.declared.colour.Rgba.{Rgba}
use Rattle.cv_model.specs.Blends.{merge}
use Rattle.cv_model.specs.Paintings.{Painting, SlotFrame, image_of}

-- a layer's run of pixels, merged with its opacity and mode onto the colours below
abbrev pub merged_run : ℕ → Blend → List Rgb → List Rgba → List Rgb
merged_run opacity mode [] source = []
merged_run opacity mode (cb ∷ below) [] = []
merged_run opacity mode (cb ∷ below) (s ∷ source) = merge cb s opacity mode ∷ merged_run opacity mode below source

-- the pixels from start to end of a painting's image
abbrev pub run_of : ℕ → ℕ → Painting → List Rgba
run_of start end p = between start end (image_of p).pixels

-- those of a slot, merged onto the colours below, if its painting is there
abbrev pub merged_slot : ℕ → ℕ → List Rgb → SlotFrame × Option Painting → List Rgb
merged_slot start end below (slot, None) = below
merged_slot start end below (slot, Some p) = merged_run slot.opacity slot.blend below (run_of start end p)

-- those of all slots, in order
abbrev pub merged_slots : ℕ → ℕ → List Rgb → List SlotFrame → List (Option Painting) → List Rgb
merged_slots start end below slots paintings = fold (merged_slot start end) below (zip slots paintings)

-- a painting that is there has so many pixels
abbrev pub HasPixels : ℕ → Option Painting → Type 0
HasPixels end None = Unit {0}
HasPixels end (Some p) = end ≤ p.view.w * p.view.h
