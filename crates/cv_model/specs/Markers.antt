-- What a marker covers: the positions round a point, by its shape.
--
-- Source: this project's own shapes, each with its border.
use Rattle.std.specs.Prelude.{ℕ, ◌≤◌, ◌+◌, max, Bool, ℤ, pos, ◌+ℤ◌, ◌-ℤ◌, ◌*ℤ◌, int_le, unsigned_abs}
use Rattle.cv_model.specs.declared.colour.Rgba.{Rgba}
use Rattle.cv_model.specs.declared.shape.Shape.{Shape}
use Rattle.cv_model.specs.declared.shape.Shape.TheVariants.{Square, Diamond, Circle}
use Rattle.cv_model.specs.Positions.{Position, doubled}

-- a marker: its shape, the colour that it lays, and its side, diagonal or diameter in pixels
pub record MarkerParts : Type 0 where
  pub shape : Shape
  pub colour : Rgba
  pub size : ℕ

-- a marker has 1 to 256 pixels
pub record IsMarker (m : MarkerParts) : Type 0 where
  pub least : 1 ≤ m.size
  pub most : m.size ≤ 256

-- dx and dy away from its middle lies within a shape of radius r
abbrev pub covers : Shape → ℤ → ℤ → ℤ → Bool
covers Square r dx dy = int_le (pos (max (unsigned_abs dx) (unsigned_abs dy))) r
covers Diamond r dx dy = int_le (pos (unsigned_abs dx + unsigned_abs dy)) r
covers Circle r dx dy = int_le (dx *ℤ dx +ℤ dy *ℤ dy) (r *ℤ r)

-- the marker of radius r on a point of a geometry covers the doubled position p
abbrev pub is_marked : Shape → ℤ → Position → Position → Bool
is_marked shape r p at = covers shape r (p.x -ℤ (doubled at).x) (p.y -ℤ (doubled at).y)
