-- The cells that decimals give.
--
-- Source: this project's own.
use Rattle.std.specs.Prelude.{if◌then◌else◌, ℤ, pos, negsuc, Option, Some, None}
use Rattle.std.specs.Ordering.{int_eq}
use Rattle.cv_model.specs.declared.grid.Cell.{Cell}
use Rattle.cv_model.specs.declared.grid.Cell.TheVariants.{Value as Full, Void}
use Rattle.cv_number.specs.declared.fixed.Fixed.{Fixed}
use Rattle.cv_number.specs.declared.fixed.Fixed.TheVariants.{Value, High, Low, NotNumber}

-- the number of a decimal; one beyond the range counts as the limit, and `nan` is none
abbrev pub limited : Fixed → Option ℤ
limited (Value z) = Some z
limited High = Some (pos 1000000000000000)
limited Low = Some (negsuc 999999999999999)
limited NotNumber = None

-- the number that stands for no data: -9999 where the header doesn't say; none where it says `nan`
abbrev pub void_number : Option Fixed → Option ℤ
void_number None = Some (negsuc 9998999999)
void_number (Some v) = limited v

-- the cell of a number
abbrev pub cell_with : Option ℤ → Option ℤ → Cell
cell_with void None = Void
cell_with None (Some z) = Full z
cell_with (Some n) (Some z) = if int_eq z n then Void else Full z

-- the cell of a decimal: nothing where it is `nan`, or equals the number that stands for no data
abbrev pub cell_of : Option ℤ → Fixed → Cell
cell_of void v = cell_with void (limited v)
