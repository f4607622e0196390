-- What a pen hits in a row: the columns between those that lie before a segment and those that lie behind it.
--
-- Source: this project's own.
use Rattle.std.specs.Prelude.{ℕ, ◌≤◌, Bool, not, ◌&&◌, ◌||◌, ℤ, pos, neg_ℤ, ◌+ℤ◌, ◌-ℤ◌, ◌*ℤ◌, int_lt, int_le, unsigned_abs}
use Rattle.std.specs.Int.{int_max, int_min}
use Rattle.cv_model.specs.Positions.{Position}
use Rattle.cv_model.specs.Pens.{side_of}

-- a pen's width, in pixels
abbrev pub IsPenWidth : ℕ → Type 0
IsPenWidth n = (1 ≤ n) × (n ≤ 64)

-- how much the corners of a square of half-side r differ from its middle in their side of the line up from
-- a to b
abbrev pub corner_way : ℤ → Position → Position → ℤ
corner_way r a b = r *ℤ (pos (unsigned_abs (b.x -ℤ a.x)) +ℤ (b.y -ℤ a.y))

-- the square round p lies wholly left of the box of the segment up from a to b, or left of its line
abbrev pub is_before : ℤ → Position → Position → Position → Bool
is_before r p a b = not (int_le (int_min a.x b.x) (p.x +ℤ r)) || int_lt (corner_way r a b) (side_of a b p)

-- it lies wholly right neither of the box nor of the line
abbrev pub is_reached : ℤ → Position → Position → Position → Bool
is_reached r p a b = int_le (p.x -ℤ r) (int_max a.x b.x) && int_le (neg_ℤ (corner_way r a b)) (side_of a b p)
