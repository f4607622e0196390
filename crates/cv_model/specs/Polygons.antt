-- The inside of a polygon, by the parity rule of its edges.
--
-- Source: OGC 06-103r4 for polygons and rings; that left and bottom borders belong
-- to a polygon, and right and top ones don't, is this project's rule.
use Rattle.std.specs.Prelude.{ℕ, ◌%◌, Bool, false, if◌then◌else◌, ◌==◌, ◌-ℤ◌, ◌*ℤ◌, int_lt, int_le, List}
use Rattle.std.specs.Prelude.{[], ◌∷◌, count_by}
use Rattle.std.specs.List.{flat_map}
use Rattle.cv_model.specs.Positions.{Position, doubled}

-- the last of a point and the points behind it
abbrev pub last_of : Position → List Position → Position
last_of a [] = a
last_of a (b ∷ rest) = last_of b rest

-- each point with the next, from a on
abbrev pub edges_from : Position → List Position → List (Position × Position)
edges_from a [] = []
edges_from a (b ∷ rest) = (a, b) ∷ edges_from b rest

-- the edges of a ring: its cyclic neighbours, the edge that closes it first
abbrev pub edges : List Position → List (Position × Position)
edges [] = []
edges (a ∷ rest) = edges_from (last_of a rest) (a ∷ rest)

-- an end of an edge stands at a height of at most p's
abbrev pub is_low : Position → Position → Bool
is_low p a = int_le a.y p.y

-- the line from a up to b passes p's height strictly right of p
abbrev pub passes_right : Position → Position → Position → Bool
passes_right p a b = int_lt ((p.x -ℤ a.x) *ℤ (b.y -ℤ a.y)) ((b.x -ℤ a.x) *ℤ (p.y -ℤ a.y))

-- exactly one end is low, and the edge passes p's height strictly right of p
abbrev pub crosses : Position → Position → Position → Bool
crosses p a b =
    if is_low p a
    then (if is_low p b then false else passes_right p a b)
    else (if is_low p b then passes_right p b a else false)

-- an edge of a geometry crosses right of the doubled position p
abbrev pub is_crossed : Position → Position × Position → Bool
is_crossed p edge = crosses p (doubled edge.0) (doubled edge.1)

-- how many of the edges cross right of p
abbrev pub crossings : Position → List (Position × Position) → ℕ
crossings p es = count_by (is_crossed p) es

-- p is inside the polygon of these rings: the number of crossings over all rings is odd
abbrev pub is_inside : Position → List (List Position) → Bool
is_inside p rings = crossings p (flat_map edges rings) % 2 == 1
