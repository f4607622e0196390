-- The pixels of a canvas that keeps each pixel.
--
-- Source: this project's own.
use Rattle.std.specs.Prelude.{ℕ}
use Rattle.cv_model.specs.declared.colour.Rgba.{Rgba}
use Rattle.cv_model.specs.Colours.{transparent}
use Rattle.cv_model.specs.Rasters.{Raster}
use Rattle.cv_canvas.specs.Canvas.{item_in}

-- the pixel in a column and a row; transparent beyond the raster
abbrev pub pixel_in : Raster Rgba → ℕ → ℕ → Rgba
pixel_in canvas = item_in transparent canvas.width canvas.pixels
