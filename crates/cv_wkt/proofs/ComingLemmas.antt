-- What may still come behind each state of the machine; and that it reads just that.
use Rattle.std.proofs.Common.{◌≡◌, ℕ, zero, suc, ℤ, Bool, true, false, List, [], ◌∷◌, ◌++◌, Option, Some}
use Rattle.std.proofs.Common.{None, IsSomeAnd, ◌⊎◌, inl, inr, refl, sym, ap, ◌∙◌, append-nil}
use Rattle.cv_model.specs.Geometries.{GeometryLists}
use Rattle.cv_number.specs.declared.fixed.Fixed.{Fixed}
use Rattle.cv_wkt.specs.declared.kind.Kind.{Kind}
use Rattle.cv_wkt.specs.declared.kind.Kind.TheVariants.{Close, Comma, Semicolon, Equals, Tag, Number}
use Rattle.cv_wkt.specs.declared.place.Frame.{Frame}
use Rattle.cv_wkt.specs.declared.place.Frame.TheVariants.{OneMember}
use Rattle.cv_wkt.specs.declared.place.Sort.{Sort}
use Rattle.cv_wkt.specs.declared.place.Sort.TheVariants.{Group, Geometry}
use Rattle.cv_wkt.specs.declared.place.Now.{Now}
use Rattle.cv_wkt.specs.declared.place.Now.TheVariants.{Start, BehindSrid, BehindEquals, BehindDigits, Begin}
use Rattle.cv_wkt.specs.declared.place.Now.TheVariants.{BehindWord, BehindX, Behind}
use Rattle.cv_wkt.specs.Grammar.{item, Many, One, Several, many, Coordinate, Ordinate, Further, NoneFurther}
use Rattle.cv_wkt.specs.Grammar.{OneFurther, TwoFurther, Tree, PointOf, EmptyOf, ListOf, NoMember, BareMember}
use Rattle.cv_wkt.specs.Grammar.{MemberOf, Tagged, Last, More, coordinate, ordinate, further, spelled, Prefix}
use Rattle.cv_wkt.specs.Grammar.{prefix}
use Rattle.cv_wkt.specs.Pieces.{PieceLists, added, closed, emptied, lists}
use Rattle.cv_wkt.specs.Reader.{State, innermost, stepped}

-- ---- what a tree adds to what has been read

-- with all that a tree has, which stands in a list
abbrev pub after : Frame → {s : Sort} {m : Many} → Tree s m → PieceLists → PieceLists
after f (PointOf x y more) a = added f (record { x = x.value; y = y.value }) a
after f (EmptyOf g) a = emptied g a
after f (ListOf g items) a = closed g (after g items a)
after f NoMember a = a
after f (BareMember point) a = after f point a
after f (MemberOf point) a = after OneMember point a
after f (Tagged word tag group) a = after f group a
after f (Last s part) a = after f part a
after f (More s part parts) a = after f parts (after f part a)

-- ---- the further items of a list, behind its first

-- the further items of a list, if there are any
abbrev pub MoreOf : Sort → Many → Type 0
MoreOf s One = Unit {0}
MoreOf s Several = Option (Tree s Several)

-- their tokens
abbrev pub more : (s : Sort) (m : Many) → MoreOf s m → List Kind
more s One r = []
more s Several None = []
more s Several (Some ts) = Comma ∷ spelled ts

-- what has been read with them
abbrev pub after_more : Frame → (s : Sort) (m : Many) → MoreOf s m → PieceLists → PieceLists
after_more f s One r a = a
after_more f s Several None a = a
after_more f s Several (Some ts) a = after f ts a

-- the first item of a list and the further ones
pub record Split (f : Frame) (s : Sort) (m : Many) (ts : Tree s m) : Type 0 where
  pub first : Tree s One
  pub rest : MoreOf s m
  pub spelt : spelled ts ≡ spelled first ++ more s m rest
  pub means : (a : PieceLists) → after f ts a ≡ after_more f s m rest (after f first a)

-- each list is of that form
pub split : (f : Frame) (s : Sort) (m : Many) (ts : Tree s m) → Split f s m ts
split f s One t = record { first = t; rest = tt; spelt = sym (append-nil (spelled t)); means = λ a. refl }
split f s Several (Last q t) =
    record { first = t; rest = None; spelt = sym (append-nil (spelled t)); means = λ a. refl }
split f s Several (More q t ts) = record { first = t; rest = Some ts; spelt = refl; means = λ a. refl }

-- an item and further ones are a list
pub join : (s : Sort) (m : Many) → Tree s One → MoreOf s m → Tree s m
join s One t r = t
join s Several t None = Last s t
join s Several t (Some ts) = More s t ts

-- it is spelled so
pub join_spelt : (s : Sort) (m : Many) (t : Tree s One) (r : MoreOf s m)
    → spelled (join s m t r) ≡ spelled t ++ more s m r
unfolding join
join_spelt s One t r = sym (append-nil (spelled t))
join_spelt s Several t None = sym (append-nil (spelled t))
join_spelt s Several t (Some ts) = refl

-- and it adds that
pub join_means : (f : Frame) (s : Sort) (m : Many) (t : Tree s One) (r : MoreOf s m) (a : PieceLists)
    → after f (join s m t r) a ≡ after_more f s m r (after f t a)
unfolding join
join_means f s One t r a = refl
join_means f s Several t None a = refl
join_means f s Several t (Some ts) a = refl

-- ---- what may still come

-- the rest of a list, and then what C says of what it gives
abbrev pub Finishes : Frame → Sort → Many → (PieceLists → List Kind → GeometryLists → Type 0) → PieceLists
    → List Kind → GeometryLists → Type 0
Finishes f s m C a w v =
    (rest : MoreOf s m) × (u : List Kind) × (w ≡ more s m rest ++ Close ∷ u)
    × C (closed f (after_more f s m rest a)) u v

-- behind a finished item: the rest of each open list
abbrev pub Closes : List Frame → PieceLists → List Kind → GeometryLists → Type 0
Closes [] a w v = (w ≡ []) × (v ≡ lists a)
Closes (f ∷ fs) a w v = Finishes f (item f) (many f) (Closes fs) a w v

-- behind an item with which n further ordinates may stand
abbrev pub Trails : ℕ → List Frame → PieceLists → List Kind → GeometryLists → Type 0
Trails zero fs a w v = Closes fs a w v
Trails (suc n) fs a w v =
    Closes fs a w v ⊎ ((o : Ordinate) × (u : List Kind) × (w ≡ ordinate o ∷ u) × Trails n fs a u v)

-- a tree, and then the rest
abbrev pub Part : Sort → List Frame → PieceLists → List Kind → GeometryLists → Type 0
Part s fs a w v = (t : Tree s One) × (u : List Kind) × (w ≡ spelled t ++ u)
    × Closes fs (after (innermost fs) t a) u v

-- a tag that may still come
abbrev pub maybe_tag : Bool → List Kind
maybe_tag false = []
maybe_tag true = Tag ∷ []

-- what may still come behind a state: tokens that complete a text of the geometry
abbrev pub Comes : Now → List Frame → ℤ → PieceLists → List Kind → GeometryLists → Type 0
Comes Start fs x a w v = (p : Prefix) × (u : List Kind) × (w ≡ prefix p ++ u) × Part Geometry fs a u v
Comes BehindSrid fs x a w v =
    (n : Fixed) × (u : List Kind) × (w ≡ Equals ∷ Number n true ∷ Semicolon ∷ u) × Part Geometry fs a u v
Comes BehindEquals fs x a w v =
    (n : Fixed) × (u : List Kind) × (w ≡ Number n true ∷ Semicolon ∷ u) × Part Geometry fs a u v
Comes BehindDigits fs x a w v = (u : List Kind) × (w ≡ Semicolon ∷ u) × Part Geometry fs a u v
Comes (Begin s) fs x a w v = Part s fs a w v
Comes (BehindWord f) fs x a w v =
    (b : Bool) × (u : List Kind) × (w ≡ maybe_tag b ++ u) × Part (Group f) fs a u v
Comes BehindX fs x a w v =
    (y : Coordinate) × (u : List Kind) × (w ≡ coordinate y ∷ u)
    × Trails 2 fs (added (innermost fs) (record { x = x; y = y.value }) a) u v
Comes (Behind n) fs x a w v = Trails n fs a w v

-- a state, given by its parts
abbrev pub place : Now → List Frame → ℤ → ℕ → PieceLists → State
place p fs x n a = record { now = p; frames = fs; x = x; vertices = n; parts = a }

-- the same of a state
abbrev pub Goes : List Kind → GeometryLists → State → Type 0
Goes w v t = Comes t.now t.frames t.x t.parts w v

-- the same behind one token more
abbrev pub ComesBehind : Now → List Frame → ℤ → ℕ → PieceLists → Kind → List Kind → GeometryLists → Type 0
ComesBehind p fs x n a k w v = IsSomeAnd (stepped p k (place p fs x n a)) (Goes w v)

-- ---- further ordinates

-- further ordinates, and then what closes the list
pub trails : (fs : List Frame) (a : PieceLists) (m : Further) (u : List Kind) (v : GeometryLists)
    → Closes fs a u v → Trails 2 fs a (further m ++ u) v
trails fs a NoneFurther u v h = inl h
trails fs a (OneFurther z) u v h = inr (z, u, refl, inl h)
trails fs a (TwoFurther z m) u v h = inr (z, ordinate m ∷ u, refl, inr (m, u, refl, h))

-- further ordinates that were written, and the tokens behind them
pub record Trail (fs : List Frame) (a : PieceLists) (w : List Kind) (v : GeometryLists) : Type 0 where
  pub all : Further
  pub rest : List Kind
  pub spelt : w ≡ further all ++ rest
  pub closes : Closes fs a rest v

-- what may stand behind x and y is of that form
pub trail : (fs : List Frame) (a : PieceLists) (w : List Kind) (v : GeometryLists) → Trails 2 fs a w v
    → Trail fs a w v
trail fs a w v (inl h) = record { all = NoneFurther; rest = w; spelt = refl; closes = h }
trail fs a w v (inr (z, u, e, inl h)) = record { all = OneFurther z; rest = u; spelt = e; closes = h }
trail fs a w v (inr (z, u, e, inr (m, t, d, h))) =
    record { all = TwoFurther z m; rest = t; spelt = e ∙ ap (λ q. ordinate z ∷ q) d; closes = h }
