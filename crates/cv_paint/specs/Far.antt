-- What lies far from a box.
--
-- Source: this project's own.
use Rattle.std.specs.Prelude.{Bool, ◌||◌, ℤ, pos, ◌+ℤ◌, ◌-ℤ◌, ◌*ℤ◌, int_lt}
use Rattle.cv_model.specs.Positions.{Position, Rectangle}

-- a position in doubled millionths lies more than r west, east, south or north of a box in millionths
abbrev pub is_far : ℤ → Rectangle → Position → Bool
is_far r box p =
    int_lt (p.x +ℤ r) (pos 2 *ℤ box.xmin) || (int_lt (pos 2 *ℤ box.xmax) (p.x -ℤ r)
    || (int_lt (p.y +ℤ r) (pos 2 *ℤ box.ymin) || int_lt (pos 2 *ℤ box.ymax) (p.y -ℤ r)))
