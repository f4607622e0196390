-- The grammar of well-known text over the kinds of its tokens, and the geometry that each text spells.
--
--     text     = [ SRID "=" digits ";" ] geometry
--     geometry = word tag group, where the word says what the group is a list of
--     tag      = nothing | Z | M | ZM, joined to the word or apart
--     group    = EMPTY | "(" item { "," item } ")"
--     point    = number number [ number [ number ] ]
--     member   = EMPTY | point | "(" point ")"
--
-- The groups are: of POINT one point, of LINESTRING points (a path), of POLYGON rings, of MULTIPOINT members,
-- of MULTILINESTRING paths, of MULTIPOLYGON groups of rings, of GEOMETRYCOLLECTION geometries; a ring is a
-- path.
-- Source: the tagged text of OGC 06-103r4 without curves and surfaces, in this project's own profile.
use Rattle.std.specs.Prelude.{◌≡◌, ℕ, ℤ, Bool, true, false, List, [], ◌∷◌, ◌++◌, map}
use Rattle.cv_model.specs.Positions.{Position}
use Rattle.cv_model.specs.Geometries.{GeometryLists}
use Rattle.cv_number.specs.declared.fixed.Fixed.{Fixed}
use Rattle.cv_number.specs.declared.fixed.Fixed.TheVariants.{Value}
use Rattle.cv_wkt.specs.declared.kind.Word.{Word}
use Rattle.cv_wkt.specs.declared.kind.Word.TheVariants.{Point, LineString, Polygon, MultiPoint}
use Rattle.cv_wkt.specs.declared.kind.Word.TheVariants.{MultiLineString, MultiPolygon, Collection}
use Rattle.cv_wkt.specs.declared.kind.Kind.{Kind}
use Rattle.cv_wkt.specs.declared.kind.Kind.TheVariants.{Open, Close, Comma, Semicolon, Equals, Srid, Empty}
use Rattle.cv_wkt.specs.declared.kind.Kind.TheVariants.{Tag, Name, Number}
use Rattle.cv_wkt.specs.declared.place.Frame.{Frame}
use Rattle.cv_wkt.specs.declared.place.Frame.TheVariants.{OnePoint, OneMember, LinePoints, RingPoints}
use Rattle.cv_wkt.specs.declared.place.Frame.TheVariants.{Members, Lines, Rings, Polygons, Geometries}
use Rattle.cv_wkt.specs.declared.place.Sort.{Sort}
use Rattle.cv_wkt.specs.declared.place.Sort.TheVariants.{Ordinates, Member, Group, Geometry}
use Rattle.cv_wkt.specs.Kind.{kind_of}

-- ---- the lists

-- what list follows a geometry's word
abbrev pub group_of : Word → Frame
group_of Point = OnePoint
group_of LineString = LinePoints
group_of Polygon = Rings
group_of MultiPoint = Members
group_of MultiLineString = Lines
group_of MultiPolygon = Polygons
group_of Collection = Geometries

-- what a list consists of
abbrev pub item : Frame → Sort
item OnePoint = Ordinates
item OneMember = Ordinates
item LinePoints = Ordinates
item RingPoints = Ordinates
item Members = Member
item Lines = Group LinePoints
item Rings = Group RingPoints
item Polygons = Group Rings
item Geometries = Geometry

-- one part, or one or more with commas between them
pub data Many : Type 0 where
  One : Many
  Several : Many

-- how many items a list has
abbrev pub many : Frame → Many
many OnePoint = One
many OneMember = One
many _ = Several

-- ---- the trees

-- x or y: a value, and whether it is written in digits alone
pub record Coordinate : Type 0 where
  pub value : ℤ
  pub digits : Bool

-- a further ordinate: any decimal
pub record Ordinate : Type 0 where
  pub value : Fixed
  pub digits : Bool

-- what stands behind x and y: nothing, one ordinate, or two
pub data Further : Type 0 where
  NoneFurther : Further
  OneFurther : (z : Ordinate) → Further
  TwoFurther : (z m : Ordinate) → Further

-- the tag of a word
pub data TagForm : Type 0 where
  NoTag : TagForm
  Joined : TagForm
  Apart : TagForm

-- the parts of a text, one for each way in which a part is written
pub data Tree : Sort → Many → Type 0 where
  PointOf : (x y : Coordinate) (further : Further) → Tree Ordinates One
  EmptyOf : (f : Frame) → Tree (Group f) One
  ListOf : (f : Frame) (items : Tree (item f) (many f)) → Tree (Group f) One
  NoMember : Tree Member One
  BareMember : (point : Tree Ordinates One) → Tree Member One
  MemberOf : (point : Tree Ordinates One) → Tree Member One
  Tagged : (word : Word) (tag : TagForm) (group : Tree (Group (group_of word)) One) → Tree Geometry One
  Last : (s : Sort) (part : Tree s One) → Tree s Several
  More : (s : Sort) (part : Tree s One) (parts : Tree s Several) → Tree s Several

-- ---- their spelling

-- an x or y
abbrev pub coordinate : Coordinate → Kind
coordinate c = Number (Value c.value) c.digits

-- a further ordinate
abbrev pub ordinate : Ordinate → Kind
ordinate o = Number o.value o.digits

-- those behind x and y
abbrev pub further : Further → List Kind
further NoneFurther = []
further (OneFurther z) = ordinate z ∷ []
further (TwoFurther z m) = ordinate z ∷ ordinate m ∷ []

-- a word and its tag
abbrev pub tagged : Word → TagForm → List Kind
tagged word NoTag = Name word false ∷ []
tagged word Joined = Name word true ∷ []
tagged word Apart = Name word false ∷ Tag ∷ []

-- a part
abbrev pub spelled : {s : Sort} {m : Many} → Tree s m → List Kind
spelled (PointOf x y more) = coordinate x ∷ coordinate y ∷ further more
spelled (EmptyOf f) = Empty ∷ []
spelled (ListOf f items) = Open ∷ (spelled items ++ Close ∷ [])
spelled NoMember = Empty ∷ []
spelled (BareMember point) = spelled point
spelled (MemberOf point) = Open ∷ (spelled point ++ Close ∷ [])
spelled (Tagged word tag group) = tagged word tag ++ spelled group
spelled (Last s part) = spelled part
spelled (More s part parts) = spelled part ++ Comma ∷ spelled parts

-- what may stand before the geometry
pub data Prefix : Type 0 where
  NoPrefix : Prefix
  SridOf : (digits : Fixed) → Prefix

-- and how it is spelled
abbrev pub prefix : Prefix → List Kind
prefix NoPrefix = []
prefix (SridOf n) = Srid ∷ Equals ∷ Number n true ∷ Semicolon ∷ []

-- ---- their geometry

-- no point, no line and no polygon
abbrev pub none : GeometryLists
none = record { points = []; lines = []; polygons = [] }

-- what one has and then what the other has
abbrev pub joined : GeometryLists → GeometryLists → GeometryLists
joined g h = record {
  points = g.points ++ h.points;
  lines = g.lines ++ h.lines;
  polygons = g.polygons ++ h.polygons;
}

-- the points of a path
abbrev pub positions : {m : Many} → Tree Ordinates m → List Position
positions (PointOf x y more) = (record { x = x.value; y = y.value }) ∷ []
positions (Last _ point) = positions point
positions (More _ point points) = positions point ++ positions points

-- the rings of a polygon; an EMPTY one has no points
abbrev pub rings_of : {m : Many} → Tree (Group RingPoints) m → List (List Position)
rings_of (EmptyOf _) = [] ∷ []
rings_of (ListOf _ points) = positions points ∷ []
rings_of (Last _ ring) = rings_of ring
rings_of (More _ ring rings) = rings_of ring ++ rings_of rings

-- the geometry of a tree: a path is a line, rings are a polygon, and any other list is what its items are, in
-- reading order
abbrev pub value : {s : Sort} {m : Many} → Tree s m → GeometryLists
value (PointOf x y more) = record none { points = (record { x = x.value; y = y.value }) ∷ [] }
value (EmptyOf f) = none
value (ListOf LinePoints points) = record none { lines = positions points ∷ [] }
value (ListOf Rings rings) = record none { polygons = rings_of rings ∷ [] }
value (ListOf f items) = value items
value NoMember = none
value (BareMember point) = value point
value (MemberOf point) = value point
value (Tagged word tag group) = value group
value (Last s part) = value part
value (More s part parts) = joined (value part) (value parts)

-- the tokens, given by their bytes, spell the geometry
abbrev pub Spells : List (List ℕ) → GeometryLists → Type 0
Spells tokens g =
    (p : Prefix) × (t : Tree Geometry One) × (map kind_of tokens ≡ prefix p ++ spelled t) × (g ≡ value t)
