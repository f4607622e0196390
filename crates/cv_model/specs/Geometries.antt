-- Geometries: points, lines and polygons.
--
-- Source: OGC 06-103r4, without curves and surfaces.
use Rattle.std.specs.Prelude.{ℕ, ◌+◌, min, List, length, sum_by}
use Rattle.cv_model.specs.Positions.{Position}

-- a geometry: its points, its lines and its polygons, each polygon a list of rings
pub record GeometryLists : Type 0 where
  pub points : List Position
  pub lines : List (List Position)
  pub polygons : List (List (List Position))

-- how many points a polygon has in its rings
abbrev pub points_of : List (List Position) → ℕ
points_of rings = sum_by length rings

-- how many points a geometry has in all its parts
abbrev pub vertices_of : GeometryLists → ℕ
vertices_of g = length g.points + sum_by length g.lines + sum_by points_of g.polygons

-- a count as it is kept in 64 bits: it stops at the greatest number
abbrev pub counted : ℕ → ℕ
counted n = min n 18446744073709551615
