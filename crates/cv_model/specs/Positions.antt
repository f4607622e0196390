-- Positions and rectangles on the map, in whole millionths of a map unit.
use Rattle.std.specs.Prelude.{ℤ, pos, negsuc, ◌≤ℤ◌, ◌*ℤ◌}

-- a pair of coordinates, eastwards and northwards
pub record Position : Type 0 where
  pub x : ℤ
  pub y : ℤ

-- a rectangle of the map, by its western, southern, eastern and northern edge
pub record Rectangle : Type 0 where
  pub xmin : ℤ
  pub ymin : ℤ
  pub xmax : ℤ
  pub ymax : ℤ

-- a coordinate is from -10^15 to 10^15 millionths
abbrev pub IsCoordinate : ℤ → Type 0
IsCoordinate z = (negsuc 999999999999999 ≤ℤ z) × (z ≤ℤ pos 1000000000000000)

-- a coordinate of a view is from -4·10^15 to 4·10^15 doubled millionths
abbrev pub IsDoubled : ℤ → Type 0
IsDoubled z = (negsuc 3999999999999999 ≤ℤ z) × (z ≤ℤ pos 4000000000000000)

-- what a point keeps
pub record IsPoint (p : Position) : Type 0 where
  pub x_in : IsCoordinate p.x
  pub y_in : IsCoordinate p.y

-- what a position in doubled millionths keeps
pub record IsPoint2 (p : Position) : Type 0 where
  pub x_in : IsDoubled p.x
  pub y_in : IsDoubled p.y

-- what an extent keeps: its numbers are coordinates, in any order
pub record IsExtent (e : Rectangle) : Type 0 where
  pub west_in : IsCoordinate e.xmin
  pub south_in : IsCoordinate e.ymin
  pub east_in : IsCoordinate e.xmax
  pub north_in : IsCoordinate e.ymax

-- a point in doubled millionths, the unit of all tests
abbrev pub doubled : Position → Position
doubled p = record { x = pos 2 *ℤ p.x; y = pos 2 *ℤ p.y }
