-- Grids: a number for each cell of a rectangle, and the cell that holds a position.
--
-- Source: the ASCII grid after ESRI's, in outline; that a cell owns its left and bottom border is this
-- project's rule.
use Rattle.std.specs.Prelude.{◌≡◌, ℕ, ◌+◌, ◌-◌, ◌*◌, ◌/◌, ◌≤◌, nat_lt, if◌then◌else◌, ℤ, pos, negsuc, ◌+ℤ◌}
use Rattle.std.specs.Prelude.{◌≤ℤ◌, int_lt, List, length, slice_get, Option, Some, None, option_and_then}
use Rattle.cv_model.specs.declared.grid.Cell.{Cell}
use Rattle.cv_model.specs.Views.{rise}
use Rattle.cv_model.specs.Positions.{Position}

-- columns and rows, the left and bottom edge in doubled millionths, the sides of a cell in millionths, and
-- the cells, the northernmost row first and each row from the west
pub record CellGrid : Type 0 where
  pub cols : ℕ
  pub rows : ℕ
  pub left2 : ℤ
  pub bottom2 : ℤ
  pub dx : ℕ
  pub dy : ℕ
  pub cells : List Cell

-- an edge lies within 10^15 millionths either way, as a doubled number
abbrev pub IsEdge : ℤ → Type 0
IsEdge z = (negsuc 1999999999999999 ≤ℤ z) × (z ≤ℤ pos 2000000000000000)

-- what a grid keeps: it has cells with sides, as many as columns times rows, and its edges are in range
pub record IsGrid (g : CellGrid) : Type 0 where
  pub wide : 1 ≤ g.cols
  pub high : 1 ≤ g.rows
  pub step_east : 1 ≤ g.dx
  pub step_north : 1 ≤ g.dy
  pub whole : length g.cells ≡ g.cols * g.rows
  pub left : IsEdge g.left2
  pub right : IsEdge (g.left2 +ℤ pos (2 * (g.cols * g.dx)))
  pub bottom : IsEdge g.bottom2
  pub top : IsEdge (g.bottom2 +ℤ pos (2 * (g.rows * g.dy)))

-- which of n steps of this length from the start on holds z; each has its first border and not its last
abbrev pub step_at : ℤ → ℕ → ℕ → ℤ → Option ℕ
step_at start length n z =
    if int_lt z start then None
    else if nat_lt (rise start z / length) n then Some (rise start z / length)
    else None

-- the cell in a column and a row, where rows count from the south
abbrev pub cell_in : CellGrid → ℕ → ℕ → Option Cell
cell_in g column row = slice_get g.cells ((g.rows - (row + 1)) * g.cols + column)

-- the cell that holds a doubled position, if the grid reaches there
unfoldable pub cell_at : CellGrid → Position → Option Cell
cell_at g p =
    option_and_then
    (λ column. option_and_then (cell_in g column) (step_at g.bottom2 (2 * g.dy) g.rows p.y))
    (step_at g.left2 (2 * g.dx) g.cols p.x)
