-- How often one colour lies on each pixel of a canvas.
--
-- Source: this project's own; the colour is laid by W3C Compositing and Blending Level 1, source-over.
use Rattle.std.specs.Prelude.{ℕ, zero, suc, ◌≡◌, ◌<◌, ◌+◌, ◌*◌, min, List, length, slice_index_or}
use Rattle.cv_model.specs.declared.colour.Rgba.{Rgba}
use Rattle.cv_model.specs.Colours.{over, transparent}
use Rattle.cv_canvas.specs.Canvas.{item_in}

-- a colour laid so many times over nothing
unfoldable pub laid_times : Rgba → ℕ → Rgba
laid_times colour zero = transparent
laid_times colour (suc n) = over colour (laid_times colour n)

-- one time more than so many, 255 at most
abbrev pub once_more : ℕ → ℕ
once_more n = min (n + 1) 255

-- the size of a canvas that takes one colour, the colour, and how often it lies on each pixel, row by row from the top
pub record Counted : Type 0 where
  pub width : ℕ
  pub height : ℕ
  pub colour : Rgba
  pub counts : List ℕ

-- the pixel in a column and a row; transparent beyond the raster
abbrev pub counted_in : Counted → ℕ → ℕ → Rgba
counted_in canvas i j = laid_times canvas.colour (item_in 0 canvas.width canvas.counts i j)

-- these are a colour laid never, once, twice and so on, up to 255 times at least
pub record IsTable (colour : Rgba) (colours : List Rgba) : Type 0 where
  pub enough : 255 < length colours
  pub each : (n : ℕ) → n < length colours → slice_index_or colours n transparent ≡ laid_times colour n

-- a canvas of this size and colour has its table, and as many counts as width times height
pub record IsCounted (width height : ℕ) (colour : Rgba) (colours : List Rgba) (counts : List ℕ) : Type 0 where
  pub whole : length counts ≡ width * height
  pub table : IsTable colour colours
