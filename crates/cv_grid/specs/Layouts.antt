-- Where the cells of a header lie.
--
-- Source: this project's own.
use Rattle.std.specs.Prelude.{ℕ, ◌*◌, nat_lt, Bool, ◌||◌, ℤ, pos, negsuc, ◌+ℤ◌, ◌-ℤ◌, ◌*ℤ◌, int_lt, Option}
use Rattle.std.specs.Prelude.{Some, None, Result, Ok, Err}
use Rattle.cv_grid.specs.declared.error.GridWord.{GridWord}
use Rattle.cv_grid.specs.declared.error.GridWord.TheVariants.{Ncols, Nrows, Xll, Yll, Cellsize, Dx, Dy}
use Rattle.cv_grid.specs.declared.settings.Anchor.{Anchor}
use Rattle.cv_grid.specs.declared.settings.Anchor.TheVariants.{Corner, Centre}
use Rattle.cv_grid.specs.declared.settings.Settings.{Settings}
use Rattle.cv_grid.specs.declared.layout.Layout.{Layout}

-- the doubled edge of the first cell, given by its corner, or by its centre half a cell further
abbrev pub edge_of : Anchor → ℕ → ℤ
edge_of (Corner z) side = pos 2 *ℤ z
edge_of (Centre z) side = pos 2 *ℤ z -ℤ pos side

-- the doubled edge behind so many cells
abbrev pub far_edge : ℤ → ℕ → ℕ → ℤ
far_edge edge cells side = edge +ℤ pos (2 * (cells * side))

-- where the cells lie, or the first word that is missing; where one side alone is said, the other is missing
abbrev pub laid : Option ℕ → Option ℕ → Option Anchor → Option Anchor → Option ℕ → Option ℕ
    → Result Layout GridWord
laid None rows left bottom dx dy = Err Ncols
laid (Some cols) None left bottom dx dy = Err Nrows
laid (Some cols) (Some rows) None bottom dx dy = Err Xll
laid (Some cols) (Some rows) (Some left) None dx dy = Err Yll
laid (Some cols) (Some rows) (Some left) (Some bottom) None None = Err Cellsize
laid (Some cols) (Some rows) (Some left) (Some bottom) None (Some dy) = Err Dx
laid (Some cols) (Some rows) (Some left) (Some bottom) (Some dx) None = Err Dy
laid (Some cols) (Some rows) (Some left) (Some bottom) (Some dx) (Some dy) = Ok (record {
  cols = cols;
  rows = rows;
  left2 = edge_of left dx;
  bottom2 = edge_of bottom dy;
  dx = dx;
  dy = dy;
})

abbrev pub layout_of : Settings → Result Layout GridWord
layout_of s = laid s.cols s.rows s.left s.bottom s.dx s.dy

-- an edge lies beyond 10^15 millionths either way
abbrev pub is_beyond : ℤ → Bool
is_beyond edge = int_lt edge (negsuc 1999999999999999) || int_lt (pos 2000000000000000) edge

-- of so many cells the first edge or the last lies beyond
abbrev pub is_far : ℤ → ℕ → ℕ → Bool
is_far edge cells side = is_beyond edge || is_beyond (far_edge edge cells side)

-- there are more cells than there is room for, or an edge lies beyond the range
abbrev pub is_large : ℕ → Layout → Bool
is_large room l = nat_lt room (l.cols * l.rows) || is_far l.left2 l.cols l.dx || is_far l.bottom2 l.rows l.dy
