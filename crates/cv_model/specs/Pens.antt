-- What a pen hits: a segment that meets the square round a position.
--
-- Source: this project's own pen, an upright square whose middle follows the line.
use Rattle.std.specs.Prelude.{ℕ, ◌^◌, ◌≤◌, Bool, not, ◌&&◌, ℤ, pos, ◌+ℤ◌, ◌-ℤ◌, ◌*ℤ◌, ◌≤ℤ◌, int_lt, int_le}
use Rattle.std.specs.Prelude.{List, [], ◌∷◌}
use Rattle.std.specs.Int.{int_max, int_min}
use Rattle.std.specs.List.{list_all}
use Rattle.cv_model.specs.declared.colour.Rgba.{Rgba}
use Rattle.cv_model.specs.Positions.{Position, doubled}
use Rattle.cv_model.specs.Polygons.{edges_from}

-- a pen: the colour that it lays and its side in pixels
pub record PenParts : Type 0 where
  pub colour : Rgba
  pub width : ℕ

-- a pen is 1 to 64 pixels wide
pub record IsPen (p : PenParts) : Type 0 where
  pub least : 1 ≤ p.width
  pub most : p.width ≤ 64

-- half the width of a pen or of a marker is from 0 to 2^60 doubled millionths
abbrev pub IsRadius : ℤ → Type 0
IsRadius r = (pos 0 ≤ℤ r) × (r ≤ℤ pos (2 ^ 60))

-- the closed interval of half-length r round p and the one between a and b overlap
abbrev pub overlaps : ℤ → ℤ → ℤ → ℤ → Bool
overlaps r p a b = int_le (int_min a b) (p +ℤ r) && int_le (p -ℤ r) (int_max a b)

-- where a position lies: a cross product, above 0 left of the line from a to b, below 0 right of it, else 0
abbrev pub side_of : Position → Position → Position → ℤ
side_of a b q = (b.x -ℤ a.x) *ℤ (q.y -ℤ a.y) -ℤ (b.y -ℤ a.y) *ℤ (q.x -ℤ a.x)

-- the corners of the square of half-side r round p
abbrev pub corners : ℤ → Position → List Position
corners r p =
    (record { x = p.x -ℤ r; y = p.y -ℤ r }) ∷ (record { x = p.x +ℤ r; y = p.y -ℤ r })
    ∷ (record { x = p.x -ℤ r; y = p.y +ℤ r }) ∷ (record { x = p.x +ℤ r; y = p.y +ℤ r }) ∷ []

-- the positions don't all lie left of the line from a to b, nor all right of it
abbrev pub straddles : Position → Position → List Position → Bool
straddles a b ps =
    not (list_all (λ q. int_lt (pos 0) (side_of a b q)) ps) && not (list_all (λ q. int_lt (side_of a b q)
    (pos 0)) ps)

-- the segment from a to b meets the square of half-side r round p: their boxes overlap, and the square
-- straddles the line
unfoldable pub meets_square : ℤ → Position → Position → Position → Bool
meets_square r p a b = overlaps r p.x a.x b.x && overlaps r p.y a.y b.y && straddles a b (corners r p)

-- an edge of a geometry is hit by the pen of half-width r at the doubled position p
abbrev pub is_near : ℤ → Position → Position × Position → Bool
is_near r p edge = meets_square r p (doubled edge.0) (doubled edge.1)

-- the segments of a line: each point with the next, and of a single point the one from it to itself
abbrev pub segments : List Position → List (Position × Position)
segments [] = []
segments (a ∷ []) = (a, a) ∷ []
segments (a ∷ b ∷ rest) = edges_from a (b ∷ rest)
