-- What is seen of a canvas through a mask, and why a painting is given up.
--
-- Source: this project's own.
use Rattle.std.specs.Prelude.{ℕ, ◌≡◌, ◌≤◌, ◌+◌, Bool, true, if◌then◌else◌, List, [], ◌∷◌, Option, Some, None}
use Rattle.cv_outside.specs.Counts.{Rose}
use Rattle.cv_model.specs.declared.colour.Rgba.{Rgba}
use Rattle.cv_model.specs.Views.{PixelGrid}
use Rattle.cv_model.specs.Colours.{transparent}
use Rattle.cv_model.specs.Rasters.{Raster, row_of}
use Rattle.cv_canvas.specs.Cover.{is_covered_in}
use Rattle.cv_paint.specs.declared.error.PaintError.{PaintError}
use Rattle.cv_paint.specs.declared.error.PaintError.TheVariants.{Stopped, NoMemory}

-- a mask shows a pixel: it is covered there, or there is no mask
abbrev pub shows_at : Option (Raster Bool) → ℕ → ℕ → Bool
shows_at None i j = true
shows_at (Some cover) i j = is_covered_in cover i j

-- a colour where it is shown
abbrev pub shown : Bool → Rgba → Rgba
shown is_shown colour = if is_shown then colour else transparent

-- pixels as a mask shows them
abbrev pub masked : Option (Raster Bool) → (ℕ → ℕ → Rgba) → ℕ → ℕ → Rgba
masked mask at i j = shown (shows_at mask i j) (at i j)

-- the first pixels where they are shown, and those behind them as they are
abbrev pub kept : List Bool → List Rgba → List Rgba
kept [] pixels = pixels
kept (first ∷ rest) [] = []
kept (first ∷ rest) (pixel ∷ pixels) = shown first pixel ∷ kept rest pixels

-- the pixels of row j as a mask keeps them
abbrev pub kept_in : Option (Raster Bool) → ℕ → List Rgba → List Rgba
kept_in None j pixels = pixels
kept_in (Some cover) j pixels = kept (row_of cover.width (is_covered_in cover) j) pixels

-- a raster has the size of a view
pub record HasSize {A : Type 0} (view : PixelGrid) (raster : Raster A) : Type 0 where
  pub width : raster.width ≡ view.w
  pub height : raster.height ≡ view.h

-- a mask has the size of a view
abbrev pub IsMaskOf : PixelGrid → Option (Raster Bool) → Type 0
IsMaskOf view None = Unit {0}
IsMaskOf view (Some cover) = HasSize view cover

-- a painting was stopped only where the stop said yes meanwhile, and then by its one yes; where memory was
-- wanting, the stop had said no yes
abbrev pub StopCause : PaintError → ℕ → ℕ → Type 0
StopCause Stopped old new = Rose old new × (new ≤ old + 1)
StopCause NoMemory old new = new ≡ old
