-- One token: what comes with it comes behind it, and the other way round.
use Rattle.std.proofs.Common.{◌≡◌, ℕ, ℤ, Bool, true, false, List, [], ◌∷◌, ◌++◌, Some, None, IsSomeAnd, ◌⊎◌}
use Rattle.std.proofs.Common.{inl, inr, refl, sym, ap, subst, ◌∙◌, append_assoc}
use Rattle.cv_model.specs.Geometries.{GeometryLists}
use Rattle.cv_number.specs.declared.fixed.Fixed.TheVariants.{Value}
use Rattle.cv_wkt.specs.declared.kind.Word.{Word}
use Rattle.cv_wkt.specs.declared.kind.Kind.{Kind}
use Rattle.cv_wkt.specs.declared.kind.Kind.TheVariants.{Open, Close, Comma, Empty, Tag, Name, Number}
use Rattle.cv_wkt.specs.declared.place.Frame.{Frame}
use Rattle.cv_wkt.specs.declared.place.Frame.TheVariants.{OneMember}
use Rattle.cv_wkt.specs.declared.place.Sort.TheVariants.{Ordinates, Member, Group, Geometry}
use Rattle.cv_wkt.specs.declared.place.Now.{Now}
use Rattle.cv_wkt.specs.declared.place.Now.TheVariants.{BehindX}
use Rattle.cv_wkt.specs.Grammar.{item, Many, One, Several, many, Coordinate, NoTag, Joined, Apart, Tree}
use Rattle.cv_wkt.specs.Grammar.{PointOf, EmptyOf, ListOf, NoMember, BareMember, MemberOf, Tagged, coordinate}
use Rattle.cv_wkt.specs.Grammar.{further, spelled}
use Rattle.cv_wkt.specs.Pieces.{PieceLists, added, closed, emptied}
use Rattle.cv_wkt.proofs.ComingLemmas.{after}
use Rattle.cv_wkt.specs.Reader.{innermost, behind_word, separated, behind_item}
use Rattle.cv_wkt.proofs.ComingLemmas.{more, split, join, join_spelt, join_means, Finishes, Closes, Part}
use Rattle.cv_wkt.proofs.ComingLemmas.{Comes, place, Goes, trails, trail}

-- ---- the first token of a part

-- a group begins with EMPTY or `(`
abbrev pub GroupFirst : Frame → List Frame → PieceLists → Kind → List Kind → GeometryLists → Type 0
GroupFirst f fs a m w v =
    ((m ≡ Empty) × Closes fs (emptied f a) w v) ⊎ ((m ≡ Open) × Part (item f) (f ∷ fs) a w v)

opened_list : (f : Frame) (fs : List Frame) (a : PieceLists) (ts : Tree (item f) (many f)) (u : List Kind)
    (v : GeometryLists)
    → Closes fs (closed f (after f ts a)) u v → Part (item f) (f ∷ fs) a ((spelled ts ++ Close ∷ []) ++ u) v
opened_list f fs a ts u v h =
    let q = split f (item f) (many f) ts in
    let e =
    append_assoc (spelled ts) (Close ∷ []) u
    ∙ ap (λ z. z ++ Close ∷ u) q.spelt
    ∙ append_assoc (spelled q.first) (more (item f) (many f) q.rest) (Close ∷ u) in (
      q.first,
      more (item f) (many f) q.rest ++ Close ∷ u,
      e,
      (q.rest, u, refl, subst (λ b. Closes fs (closed f b) u v) (q.means a) h),
    )

-- what comes first of a group is one of these
pub group_first : (f : Frame) (fs : List Frame) (a : PieceLists) (m : Kind) (w : List Kind)
    (v : GeometryLists) → Part (Group f) fs a (m ∷ w) v → GroupFirst f fs a m w v
group_first f fs a m w v (EmptyOf g, u, e, h) =
    let head : m ≡ Empty = cc in
    let tail : u ≡ w = cc in
    inl (head, subst (λ z. Closes fs (emptied f a) z v) tail h)
group_first f fs a m w v (ListOf g ts, u, e, h) =
    let head : m ≡ Open = cc in
    let tail : (spelled ts ++ Close ∷ []) ++ u ≡ w = cc in
    inr (head, subst (λ z. Part (item f) (f ∷ fs) a z v) tail (opened_list f fs a ts u v h))

-- EMPTY is a group
pub group_empty : (f : Frame) (fs : List Frame) (a : PieceLists) (w : List Kind) (v : GeometryLists)
    → Closes fs (emptied f a) w v → Part (Group f) fs a (Empty ∷ w) v
group_empty f fs a w v h = (EmptyOf f, w, refl, h)

-- and so is a list behind `(`
pub group_open : (f : Frame) (fs : List Frame) (a : PieceLists) (w : List Kind) (v : GeometryLists)
    → Part (item f) (f ∷ fs) a w v → Part (Group f) fs a (Open ∷ w) v
group_open f fs a w v (t, u, e, (r, y, d, h)) =
    let ts = join (item f) (many f) t r in
    let spelt =
    e
    ∙ ap (λ z. spelled t ++ z) d
    ∙ sym (append_assoc (spelled t) (more (item f) (many f) r) (Close ∷ y))
    ∙ ap (λ z. z ++ Close ∷ y) (sym (join_spelt (item f) (many f) t r))
    ∙ sym (append_assoc (spelled ts) (Close ∷ []) y) in (
      ListOf f ts,
      y,
      ap (λ z. Open ∷ z) spelt,
      subst (λ b. Closes fs (closed f b) y v) (sym (join_means f (item f) (many f) t r a)) h,
    )

-- a geometry begins with a word
abbrev pub NameFirst : List Frame → ℤ → PieceLists → Kind → List Kind → GeometryLists → Type 0
NameFirst fs x a m w v =
    (q : Word) × (joined : Bool) × (m ≡ Name q joined) × Comes (behind_word q joined) fs x a w v

-- what comes first of a geometry is a word
pub name_first : (fs : List Frame) (x : ℤ) (a : PieceLists) (m : Kind) (w : List Kind) (v : GeometryLists)
    → Part Geometry fs a (m ∷ w) v → NameFirst fs x a m w v
name_first fs x a m w v (Tagged q NoTag g, u, e, h) =
    let head : m ≡ Name q false = cc in
    let tail : spelled g ++ u ≡ w = cc in
    (q, false, head, (false, w, refl, (g, u, sym tail, h)))
name_first fs x a m w v (Tagged q Joined g, u, e, h) =
    let head : m ≡ Name q true = cc in
    let tail : spelled g ++ u ≡ w = cc in
    (q, true, head, (g, u, sym tail, h))
name_first fs x a m w v (Tagged q Apart g, u, e, h) =
    let head : m ≡ Name q false = cc in
    let tail : Tag ∷ (spelled g ++ u) ≡ w = cc in
    (q, false, head, (true, spelled g ++ u, sym tail, (g, u, refl, h)))

-- a word and what follows it are a geometry
pub name_back : (fs : List Frame) (x : ℤ) (a : PieceLists) (q : Word) (joined : Bool) (w : List Kind)
    (v : GeometryLists) → Comes (behind_word q joined) fs x a w v → Part Geometry fs a (Name q joined ∷ w) v
name_back fs x a q true w v (g, u, e, h) = (Tagged q Joined g, u, ap (λ z. Name q true ∷ z) e, h)
name_back fs x a q false w v (false, y, d, (g, u, e, h)) =
    (Tagged q NoTag g, u, ap (λ z. Name q false ∷ z) (d ∙ e), h)
name_back fs x a q false w v (true, y, d, (g, u, e, h)) =
    (Tagged q Apart g, u, ap (λ z. Name q false ∷ z) (d ∙ ap (λ z. Tag ∷ z) e), h)

-- a point begins with an x
abbrev pub PointFirst : List Frame → PieceLists → Kind → List Kind → GeometryLists → Type 0
PointFirst fs a m w v = (x : Coordinate) × (m ≡ coordinate x) × Comes BehindX fs x.value a w v

-- what comes first of a point is an x
pub point_first : (fs : List Frame) (a : PieceLists) (m : Kind) (w : List Kind) (v : GeometryLists)
    → Part Ordinates fs a (m ∷ w) v → PointFirst fs a m w v
point_first fs a m w v (PointOf x y k, u, e, h) =
    let head : m ≡ coordinate x = cc in
    let tail : coordinate y ∷ (further k ++ u) ≡ w = cc in (
      x,
      head,
      (
        y,
        further k ++ u,
        sym tail,
        trails fs (added (innermost fs) (record { x = x.value; y = y.value }) a) k u v h,
      ),
    )

-- an x and what follows it are a point
pub point_back : (fs : List Frame) (x : ℤ) (d : Bool) (a : PieceLists) (w : List Kind) (v : GeometryLists)
    → Comes BehindX fs x a w v → Part Ordinates fs a (Number (Value x) d ∷ w) v
point_back fs x d a w v (y, u, e, h) =
    let q = trail fs (added (innermost fs) (record { x = x; y = y.value }) a) u v h in (
      PointOf (record { value = x; digits = d }) y q.all,
      q.rest,
      ap (λ z. Number (Value x) d ∷ z) (e ∙ ap (λ z. coordinate y ∷ z) q.spelt),
      q.closes,
    )

-- a member begins with EMPTY, `(` or an x
abbrev pub MemberFirst : List Frame → PieceLists → Kind → List Kind → GeometryLists → Type 0
MemberFirst fs a m w v =
    ((m ≡ Empty) × Closes fs a w v) ⊎
    (((m ≡ Open) × Part Ordinates (OneMember ∷ fs) a w v) ⊎ PointFirst fs a m w v)

-- what comes first of a member is one of these
pub member_first : (fs : List Frame) (a : PieceLists) (m : Kind) (w : List Kind) (v : GeometryLists)
    → Part Member fs a (m ∷ w) v → MemberFirst fs a m w v
member_first fs a m w v (NoMember, u, e, h) =
    let head : m ≡ Empty = cc in
    let tail : u ≡ w = cc in
    inl (head, subst (λ z. Closes fs a z v) tail h)
member_first fs a m w v (BareMember t, u, e, h) = inr (inr (point_first fs a m w v (t, u, e, h)))
member_first fs a m w v (MemberOf t, u, e, h) =
    let head : m ≡ Open = cc in
    let tail : (spelled t ++ Close ∷ []) ++ u ≡ w = cc in
    inr (inl (head, (t, Close ∷ u, sym tail ∙ append_assoc (spelled t) (Close ∷ []) u, (tt, u, refl, h))))

-- a point in parentheses is a member
pub member_open : (fs : List Frame) (a : PieceLists) (w : List Kind) (v : GeometryLists)
    → Part Ordinates (OneMember ∷ fs) a w v → Part Member fs a (Open ∷ w) v
member_open fs a w v (t, u, e, (r, y, d, h)) = (
  MemberOf t,
  y,
  ap (λ z. Open ∷ z)
      (e ∙ ap (λ z. spelled t ++ z) d ∙ sym (append_assoc (spelled t) (Close ∷ []) y)),
  h,
)

-- and so is a bare point
pub member_bare : (fs : List Frame) (a : PieceLists) (w : List Kind) (v : GeometryLists)
    → Part Ordinates fs a w v → Part Member fs a w v
member_bare fs a w v (t, u, e, h) = (BareMember t, u, e, h)

-- ---- behind an item

item_first : (f : Frame) (m : Many) (fs : List Frame) (x : ℤ) (n : ℕ) (p : Now) (a : PieceLists) (k : Kind)
    (w : List Kind) (v : GeometryLists)
    → many f ≡ m → Finishes f (item f) m (Closes fs) a (k ∷ w) v
    → IsSomeAnd (behind_item (f ∷ fs) k (place p (f ∷ fs) x n a)) (Goes w v)
item_first f One fs x n p a k w v q (r, u, e, h) = close_first f fs x n p a k w u v e h
  where
    close_first : (f : Frame) (fs : List Frame) (x : ℤ) (n : ℕ) (p : Now) (a : PieceLists) (k : Kind)
        (w u : List Kind) (v : GeometryLists) → k ∷ w ≡ Close ∷ u → Closes fs (closed f a) u v
        → IsSomeAnd (behind_item (f ∷ fs) k (place p (f ∷ fs) x n a)) (Goes w v)
    close_first f fs x n p a k w u v e h =
        let head : Close ≡ k = cc in
        let tail : u ≡ w = cc in
        subst (λ z. IsSomeAnd (behind_item (f ∷ fs) z (place p (f ∷ fs) x n a)) (Goes w v)) head
        (subst (λ z. Closes fs (closed f a) z v) tail h)
item_first f Several fs x n p a k w v q (None, u, e, h) =
    let head : Close ≡ k = cc in
    let tail : u ≡ w = cc in
    subst (λ z. IsSomeAnd (behind_item (f ∷ fs) z (place p (f ∷ fs) x n a)) (Goes w v)) head
    (subst (λ z. Closes fs (closed f a) z v) tail h)
item_first f Several fs x n p a k w v q (Some ts, u, e, h) =
    let head : Comma ≡ k = cc in
    let tail : spelled ts ++ Close ∷ u ≡ w = cc in
    let c = split f (item f) Several ts in
    let spelt = sym tail ∙ ap (λ z. z ++ Close ∷ u) c.spelt
    ∙ append_assoc (spelled c.first) (more (item f) Several c.rest) (Close ∷ u) in
    let rest : Finishes f (item f) Several (Closes fs) (after f c.first a)
    (more (item f) Several c.rest ++ Close ∷ u) v =
    (c.rest, u, refl, subst (λ b. Closes fs (closed f b) u v) (c.means a) h) in
    let closes : Closes (f ∷ fs) (after f c.first a) (more (item f) Several c.rest ++ Close ∷ u) v =
    subst (λ z. Finishes f (item f) z (Closes fs) (after f c.first a)
    (more (item f) Several c.rest ++ Close ∷ u) v) (sym q) rest in
    subst (λ z. IsSomeAnd (behind_item (f ∷ fs) z (place p (f ∷ fs) x n a)) (Goes w v)) head
    (subst (λ z. IsSomeAnd (separated z f (place p (f ∷ fs) x n a)) (Goes w v)) (sym q)
    (c.first, more (item f) Several c.rest ++ Close ∷ u, spelt, closes))

-- what comes behind an item comes behind its comma or `)`
pub item_behind : (fs : List Frame) (x : ℤ) (n : ℕ) (p : Now) (a : PieceLists) (k : Kind) (w : List Kind)
    (v : GeometryLists)
    → Closes fs a (k ∷ w) v → IsSomeAnd (behind_item fs k (place p fs x n a)) (Goes w v)
item_behind [] x n p a k w v (e, h) = absurd (cc)
item_behind (f ∷ fs) x n p a k w v h = item_first f (many f) fs x n p a k w v refl h

comma_back : (f : Frame) (m : Many) (fs : List Frame) (x : ℤ) (n : ℕ) (p : Now) (a : PieceLists)
    (w : List Kind) (v : GeometryLists)
    → many f ≡ m → IsSomeAnd (separated m f (place p (f ∷ fs) x n a)) (Goes w v)
    → Finishes f (item f) m (Closes fs) a (Comma ∷ w) v
comma_back f One fs x n p a w v q h = absurd h
comma_back f Several fs x n p a w v q (t, u, e, c) =
    let (r, y, d, h) = subst (λ z. Finishes f (item f) z (Closes fs) (after f t a) u v) q c in
    let ts = join (item f) Several t r in
    let spelt =
    e
    ∙ ap (λ z. spelled t ++ z) d
    ∙ sym (append_assoc (spelled t) (more (item f) Several r) (Close ∷ y))
    ∙ ap (λ z. z ++ Close ∷ y) (sym (join_spelt (item f) Several t r)) in (
      Some ts,
      y,
      ap (λ z. Comma ∷ z) spelt,
      subst (λ b. Closes fs (closed f b) y v) (sym (join_means f (item f) Several t r a)) h,
    )

close_back : (f : Frame) (m : Many) (fs : List Frame) (a : PieceLists) (w : List Kind) (v : GeometryLists)
    → Closes fs (closed f a) w v → Finishes f (item f) m (Closes fs) a (Close ∷ w) v
close_back f One fs a w v h = (tt, w, refl, h)
close_back f Several fs a w v h = (None, w, refl, h)

-- and the other way round
pub item_before : (fs : List Frame) (x : ℤ) (n : ℕ) (p : Now) (a : PieceLists) (k : Kind) (w : List Kind)
    (v : GeometryLists)
    → IsSomeAnd (behind_item fs k (place p fs x n a)) (Goes w v) → Closes fs a (k ∷ w) v
item_before [] x n p a k w v h = absurd h
item_before (f ∷ fs) x n p a Comma w v h = comma_back f (many f) fs x n p a w v refl h
item_before (f ∷ fs) x n p a Close w v h = close_back f (many f) fs a w v h
item_before (f ∷ fs) x n p a k w v h = absurd h
