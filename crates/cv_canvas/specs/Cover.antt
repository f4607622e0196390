-- Which pixels of a raster are covered.
--
-- Source: this project's own.
use Rattle.std.specs.Prelude.{ℕ, Bool, false}
use Rattle.cv_model.specs.Rasters.{Raster}
use Rattle.cv_canvas.specs.Canvas.{item_in}

-- the pixel in a column and a row is covered; none is beyond the raster
abbrev pub is_covered_in : Raster Bool → ℕ → ℕ → Bool
is_covered_in cover = item_in false cover.width cover.pixels
