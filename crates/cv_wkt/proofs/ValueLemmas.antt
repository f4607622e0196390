-- What a tree adds to what has been read is its geometry.
use Rattle.std.proofs.Common.{◌≡◌, List, [], ◌∷◌, ◌++◌, refl, sym, ap, ◌∙◌, append_assoc, append-nil}
use Rattle.cv_model.specs.Positions.{Position}
use Rattle.cv_model.specs.Geometries.{GeometryLists}
use Rattle.cv_wkt.specs.declared.kind.Word.{Word}
use Rattle.cv_wkt.specs.declared.kind.Word.TheVariants.{Point, LineString, Polygon, MultiPoint}
use Rattle.cv_wkt.specs.declared.kind.Word.TheVariants.{MultiLineString, MultiPolygon, Collection}
use Rattle.cv_wkt.specs.declared.place.Frame.{Frame}
use Rattle.cv_wkt.specs.declared.place.Frame.TheVariants.{OnePoint, OneMember, LinePoints, RingPoints}
use Rattle.cv_wkt.specs.declared.place.Frame.TheVariants.{Members, Lines, Rings, Polygons, Geometries}
use Rattle.cv_wkt.specs.declared.place.Sort.{Sort}
use Rattle.cv_wkt.specs.declared.place.Sort.TheVariants.{Ordinates, Group, Geometry}
use Rattle.cv_wkt.specs.Grammar.{group_of, Many, One, Tree, PointOf, EmptyOf, ListOf, NoMember, BareMember}
use Rattle.cv_wkt.specs.Grammar.{MemberOf, Tagged, Last, More, none, joined, positions, rings_of, value}
use Rattle.cv_wkt.specs.Pieces.{PieceLists, nothing, added, closed, emptied, lists}
use Rattle.cv_wkt.proofs.ComingLemmas.{after}

-- ---- three lists

-- three equations are one
alike : (p q : List Position) (l m : List (List Position)) (g h : List (List (List Position))) → p ≡ q → l ≡ m
    → g ≡ h → (let x : GeometryLists = record { points = p; lines = l; polygons = g } in x)
    ≡ record { points = q; lines = m; polygons = h }
alike p q l m g h a b c =
    ap (λ z. record { points = z; lines = l; polygons = g }) a
    ∙ ap (λ z. record { points = q; lines = z; polygons = g }) b
    ∙ ap (λ z. record { points = q; lines = m; polygons = z }) c

joined_none : (g : GeometryLists) → joined g none ≡ g
joined_none g = alike (g.points ++ []) g.points (g.lines ++ []) g.lines (g.polygons ++ []) g.polygons
    (append-nil g.points) (append-nil g.lines) (append-nil g.polygons)

joined_joined : (g h k : GeometryLists) → joined (joined g h) k ≡ joined g (joined h k)
joined_joined g h k =
    alike ((g.points ++ h.points) ++ k.points) (g.points ++ (h.points ++ k.points))
    ((g.lines ++ h.lines) ++ k.lines) (g.lines ++ (h.lines ++ k.lines))
    ((g.polygons ++ h.polygons) ++ k.polygons) (g.polygons ++ (h.polygons ++ k.polygons))
    (append_assoc g.points h.points k.points) (append_assoc g.lines h.lines k.lines)
    (append_assoc g.polygons h.polygons k.polygons)

-- ---- within a polygon and a path

-- with the rings of an open polygon, and no open path
abbrev with_rings : GeometryLists → List (List Position) → PieceLists
with_rings g rings = record
    { points = g.points; lines = g.lines; polygons = g.polygons; rings = rings; path = [] }

abbrev Grows : Frame → Type 0
Grows f = (p : Position) (a : PieceLists) → added f p a ≡ record a { path = a.path ++ p ∷ [] }

path_law : (f : Frame) → Grows f → {m : Many} (t : Tree Ordinates m) (a : PieceLists)
    → after f t a ≡ record a { path = a.path ++ positions t }
path_law f grows (PointOf x y k) a = grows (record { x = x.value; y = y.value }) a
path_law f grows (Last _ t) a = path_law f grows t a
path_law f grows (More _ t ts) a =
    ap (after f ts) (path_law f grows t a)
    ∙ path_law f grows ts (record a { path = a.path ++ positions t })
    ∙ ap (λ z. record a { path = z }) (append_assoc a.path (positions t) (positions ts))

ring_law : (f : Frame) {m : Many} (t : Tree (Group RingPoints) m) (g : GeometryLists)
    (rings : List (List Position)) → after f t (with_rings g rings) ≡ with_rings g (rings ++ rings_of t)
ring_law f (EmptyOf _) g rings = refl
ring_law f (ListOf _ points) g rings =
    ap (closed RingPoints) (path_law RingPoints (λ p a. refl) points (with_rings g rings))
ring_law f (Last _ t) g rings = ring_law f t g rings
ring_law f (More _ t ts) g rings =
    ap (after f ts) (ring_law f t g rings)
    ∙ ring_law f ts g (rings ++ rings_of t)
    ∙ ap (with_rings g) (append_assoc rings (rings_of t) (rings_of ts))

-- ---- whole parts

abbrev idle : GeometryLists → PieceLists
idle g = with_rings g []

-- a list whose points are points of the geometry
abbrev Collects : Frame → Type 0
Collects f = (p : Position) (a : PieceLists) → added f p a ≡ record a { points = a.points ++ p ∷ [] }

-- every sort but a ring
abbrev IsWhole : Sort → Type 0
IsWhole (Group RingPoints) = ⊥
IsWhole _ = Unit {0}

whole_group : (w : Word) → IsWhole (Group (group_of w))
whole_group Point = tt
whole_group LineString = tt
whole_group Polygon = tt
whole_group MultiPoint = tt
whole_group MultiLineString = tt
whole_group MultiPolygon = tt
whole_group Collection = tt

empty_law : (f : Frame) (g : GeometryLists) → IsWhole (Group f) → emptied f (idle g) ≡ idle (joined g none)
empty_law RingPoints g h = absurd h
empty_law OnePoint g h = ap idle (sym (joined_none g))
empty_law OneMember g h = ap idle (sym (joined_none g))
empty_law LinePoints g h = ap idle (sym (joined_none g))
empty_law Members g h = ap idle (sym (joined_none g))
empty_law Lines g h = ap idle (sym (joined_none g))
empty_law Rings g h = ap idle (sym (joined_none g))
empty_law Polygons g h = ap idle (sym (joined_none g))
empty_law Geometries g h = ap idle (sym (joined_none g))

point_law : (f : Frame) (p : Position) (g : GeometryLists) → Collects f
    → added f p (idle g) ≡ idle (joined g (record none { points = p ∷ [] }))
point_law f p g collects =
    collects p (idle g)
    ∙ ap idle (alike (g.points ++ p ∷ []) (g.points ++ p ∷ []) g.lines (g.lines ++ []) g.polygons
    (g.polygons ++ []) refl (sym (append-nil g.lines)) (sym (append-nil g.polygons)))

line_law : {m : Many} (t : Tree Ordinates m) (g : GeometryLists)
    → closed LinePoints (after LinePoints t (idle g))
    ≡ idle (joined g (record none { lines = positions t ∷ [] }))
line_law t g =
    ap (closed LinePoints) (path_law LinePoints (λ p a. refl) t (idle g))
    ∙ ap idle (alike g.points (g.points ++ []) (g.lines ++ positions t ∷ [])
    (g.lines ++ positions t ∷ []) g.polygons (g.polygons ++ []) (sym (append-nil g.points)) refl
    (sym (append-nil g.polygons)))

polygon_law : {m : Many} (t : Tree (Group RingPoints) m) (g : GeometryLists)
    → closed Rings (after Rings t (idle g)) ≡ idle (joined g (record none { polygons = rings_of t ∷ [] }))
polygon_law t g =
    ap (closed Rings) (ring_law Rings t g [])
    ∙ ap idle (alike g.points (g.points ++ []) g.lines (g.lines ++ []) (g.polygons ++ rings_of t ∷ [])
    (g.polygons ++ rings_of t ∷ []) (sym (append-nil g.points)) (sym (append-nil g.lines)) refl)

law : (f : Frame) → Collects f → {s : Sort} {m : Many} (t : Tree s m) (g : GeometryLists) → IsWhole s
    → after f t (idle g) ≡ idle (joined g (value t))
law f c (PointOf x y k) g h = point_law f (record { x = x.value; y = y.value }) g c
law f c (EmptyOf e) g h = empty_law e g h
law f c (ListOf LinePoints ts) g h = line_law ts g
law f c (ListOf Rings ts) g h = polygon_law ts g
law f c (ListOf RingPoints ts) g h = absurd h
law f c (ListOf OnePoint ts) g h = law OnePoint (λ p a. refl) ts g tt
law f c (ListOf OneMember ts) g h = law OneMember (λ p a. refl) ts g tt
law f c (ListOf Members ts) g h = law Members (λ p a. refl) ts g tt
law f c (ListOf Lines ts) g h = law Lines (λ p a. refl) ts g tt
law f c (ListOf Polygons ts) g h = law Polygons (λ p a. refl) ts g tt
law f c (ListOf Geometries ts) g h = law Geometries (λ p a. refl) ts g tt
law f c NoMember g h = ap idle (sym (joined_none g))
law f c (BareMember t) g h = law f c t g tt
law f c (MemberOf t) g h = law OneMember (λ p a. refl) t g tt
law f c (Tagged w tag t) g h = law f c t g (whole_group w)
law f c (Last s t) g h = law f c t g h
law f c (More s t ts) g h =
    ap (after f ts) (law f c t g h) ∙ law f c ts (joined g (value t)) h
    ∙ ap idle (joined_joined g (value t) (value ts))

-- what the whole tree adds to nothing is its geometry
pub meaning : (t : Tree Geometry One) → lists (after Geometries t nothing) ≡ value t
meaning t = ap lists (law Geometries (λ p a. refl) t none tt)
