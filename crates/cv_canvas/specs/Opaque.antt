-- The pixels of a canvas that takes one opaque colour.
--
-- Source: this project's own; an opaque colour hides what lies below it, as source-over of W3C Compositing
-- and Blending Level 1 has it.
use Rattle.std.specs.Prelude.{ℕ, Bool, if◌then◌else◌}
use Rattle.cv_model.specs.declared.colour.Rgba.{Rgba}
use Rattle.cv_model.specs.Colours.{transparent}
use Rattle.cv_model.specs.Rasters.{Raster}
use Rattle.cv_canvas.specs.Cover.{is_covered_in}

-- the colour of a canvas, and the pixels on which it lies
pub record Inked : Type 0 where
  pub colour : Rgba
  pub cover : Raster Bool

-- the colour where it lies, else a clear one
abbrev pub inked : Rgba → Bool → Rgba
inked colour is_covered = if is_covered then colour else transparent

-- the pixel in a column and a row; transparent beyond the raster
abbrev pub inked_in : Inked → ℕ → ℕ → Rgba
inked_in canvas i j = inked canvas.colour (is_covered_in canvas.cover i j)
