-- The colours of a grid at the centres of pixels.
--
-- Source: this project's own.
use Rattle.std.specs.Prelude.{ℕ, ◌≡◌, ◌*◌, ◌<◌, ◌≤◌, Option, option_and_then}
use Rattle.std.specs.Option.{option_map_or}
use Rattle.cv_model.specs.declared.colour.Rgba.{Rgba}
use Rattle.cv_model.specs.declared.grid.Cell.{Cell}
use Rattle.cv_model.specs.declared.style.Style.{Style}
use Rattle.cv_model.specs.declared.style.Style.TheVariants.{Single, Categorised, Graduated, Ramp}
use Rattle.cv_model.specs.Colours.{transparent}
use Rattle.cv_model.specs.Grids.{CellGrid, step_at, cell_in}
use Rattle.cv_model.specs.Pictures.{cell_colour}
use Rattle.cv_model.specs.Ramps.{ramp_of}
use Rattle.cv_model.specs.Views.{PixelGrid, centre_of}

-- the colour of the cell that holds the centre of a pixel
abbrev pub cell_pixel : Style → CellGrid → PixelGrid → ℕ → ℕ → Rgba
cell_pixel style grid view i j = cell_colour style grid (centre_of view i j)

-- the cell in a column and a row, of which either may be absent; rows count from the south
abbrev pub cell_between : CellGrid → Option ℕ → Option ℕ → Option Cell
cell_between g column row = option_and_then (λ k. option_and_then (cell_in g k) row) column

-- the colour of a cell by a style, which is a ramp
abbrev pub colour_by : Style → Option Cell → Rgba
colour_by (Ramp ramp) cell = option_map_or (ramp_of ramp) cell transparent
colour_by (Single symbol) cell = transparent
colour_by (Categorised field classes fallback) cell = transparent
colour_by (Graduated field classes) cell = transparent

-- the column of cells that holds the centres of a view's column
abbrev pub column_under : CellGrid → PixelGrid → ℕ → Option ℕ
column_under g view i = step_at g.left2 (2 * g.dx) g.cols (centre_of view i 0).x

-- the columns of a view from one on, up to and without another, have their centres in the same column of
-- cells, or all in none
pub record LieTogether (g : CellGrid) (view : PixelGrid) (from end : ℕ) : Type 0 where
  pub later : from < end
  pub within : end ≤ view.w
  pub same : (k : ℕ) → from ≤ k → k < end → column_under g view k ≡ column_under g view from
