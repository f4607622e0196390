-- What a marker covers in a row.
--
-- Source: this project's own.
use Rattle.std.specs.Prelude.{ℕ, ◌≤◌, Bool, not, ◌&&◌, ◌||◌, ℤ, pos, ◌-ℤ◌, int_lt, int_le}
use Rattle.cv_model.specs.declared.shape.Shape.{Shape}
use Rattle.cv_model.specs.Positions.{Position, doubled}
use Rattle.cv_model.specs.Markers.{is_marked}

-- a marker's size, in pixels
abbrev pub IsMarkerSize : ℕ → Type 0
IsMarkerSize n = (1 ≤ n) × (n ≤ 256)

-- p lies left of the middle of a marker, or below or above it, and isn't covered
abbrev pub is_before : Shape → ℤ → Position → Position → Bool
is_before shape r p at = int_le (p.x -ℤ (doubled at).x) (pos 0) && not (is_marked shape r p at)

-- p is covered, or lies left of the middle
abbrev pub is_reached : Shape → ℤ → Position → Position → Bool
is_reached shape r p at = int_lt (p.x -ℤ (doubled at).x) (pos 0) || is_marked shape r p at
