-- What has been read of a geometry.
use Rattle.std.specs.Prelude.{List, [], ◌∷◌, ◌++◌}
use Rattle.cv_model.specs.Positions.{Position}
use Rattle.cv_model.specs.Geometries.{GeometryLists}
use Rattle.cv_wkt.specs.declared.place.Frame.{Frame}
use Rattle.cv_wkt.specs.declared.place.Frame.TheVariants.{LinePoints, RingPoints, Rings}

-- what has been read: the three lists, the rings of the polygon that is open, and the points of the path that
-- is
pub record PieceLists : Type 0 where
  pub points : List Position
  pub lines : List (List Position)
  pub polygons : List (List (List Position))
  pub rings : List (List Position)
  pub path : List Position

-- before the first token
abbrev pub nothing : PieceLists
nothing = record { points = []; lines = []; polygons = []; rings = []; path = [] }

-- with a point in a list
abbrev pub added : Frame → Position → PieceLists → PieceLists
added LinePoints p a = record a { path = a.path ++ p ∷ [] }
added RingPoints p a = record a { path = a.path ++ p ∷ [] }
added _ p a = record a { points = a.points ++ p ∷ [] }

-- with the end of a list: of a line, a ring, a polygon
abbrev pub closed : Frame → PieceLists → PieceLists
closed LinePoints a = record a { lines = a.lines ++ a.path ∷ []; path = [] }
closed RingPoints a = record a { rings = a.rings ++ a.path ∷ []; path = [] }
closed Rings a = record a { polygons = a.polygons ++ a.rings ∷ []; rings = [] }
closed _ a = a

-- with an EMPTY: a ring of no points; else nothing
abbrev pub emptied : Frame → PieceLists → PieceLists
emptied RingPoints a = record a { rings = a.rings ++ [] ∷ [] }
emptied _ a = a

-- the three lists
abbrev pub lists : PieceLists → GeometryLists
lists a = record { points = a.points; lines = a.lines; polygons = a.polygons }
