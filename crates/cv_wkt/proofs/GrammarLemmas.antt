-- The machine reads what may come behind each of its states, and from the start the grammar.
use Rattle.std.proofs.Common.{◌≡◌, ◌↔◌, ℕ, zero, suc, ℤ, Bool, true, false, List, [], ◌∷◌, ◌++◌, map, Some}
use Rattle.std.proofs.Common.{None, IsSomeAnd, inl, inr, refl, sym, ap, subst, ◌∙◌, append_assoc, append-nil}
use Rattle.cv_number.specs.Reader.{decimal_of}
use Rattle.cv_model.specs.Geometries.{GeometryLists}
use Rattle.cv_reading.specs.Machines.{run}
use Rattle.cv_reading.specs.Readings.{Reads, IsReading}
use Rattle.cv_reading.proofs.ReadingLemmas.{is_reading, same_reading}
use Rattle.cv_number.specs.declared.fixed.Fixed.{Fixed}
use Rattle.cv_number.specs.declared.fixed.Fixed.TheVariants.{Value}
use Rattle.cv_wkt.specs.declared.kind.Word.TheVariants.{Point}
use Rattle.cv_wkt.specs.declared.kind.Kind.{Kind}
use Rattle.cv_wkt.specs.declared.kind.Kind.TheVariants.{Open, Comma, Semicolon, Equals, Srid, Empty, Tag}
use Rattle.cv_wkt.specs.declared.kind.Kind.TheVariants.{Name, Number}
use Rattle.cv_wkt.specs.declared.place.Frame.{Frame}
use Rattle.cv_wkt.specs.declared.place.Frame.TheVariants.{OnePoint}
use Rattle.cv_wkt.specs.declared.place.Sort.{Sort}
use Rattle.cv_wkt.specs.declared.place.Sort.TheVariants.{Ordinates, Member, Group, Geometry}
use Rattle.cv_wkt.specs.declared.place.Now.{Now}
use Rattle.cv_wkt.specs.declared.place.Now.TheVariants.{Start, BehindSrid, BehindEquals, BehindDigits, Begin}
use Rattle.cv_wkt.specs.declared.place.Now.TheVariants.{BehindWord, BehindX, Behind}
use Rattle.cv_wkt.specs.Kind.{kind_of, word_kind, keyword_kind, geometry_kind}
use Rattle.cv_wkt.specs.Grammar.{item, Many, One, Several, many, Coordinate, NoneFurther, NoTag, Joined}
use Rattle.cv_wkt.specs.Grammar.{Apart, Tree, PointOf, EmptyOf, ListOf, NoMember, BareMember, MemberOf}
use Rattle.cv_wkt.specs.Grammar.{Tagged, Last, More, coordinate, ordinate, spelled, NoPrefix, SridOf, prefix}
use Rattle.cv_wkt.specs.Grammar.{Spells}
use Rattle.cv_wkt.specs.Pieces.{PieceLists, added, closed, emptied, lists}
use Rattle.cv_wkt.specs.Reader.{State, start, innermost, behind_item, ended_at, wkt_reader}
use Rattle.cv_wkt.proofs.ComingLemmas.{Finishes, Closes, Trails, Part, Comes, place, Goes, ComesBehind}
use Rattle.cv_wkt.proofs.ValueLemmas.{meaning}
use Rattle.cv_wkt.proofs.TokenLemmas.{GroupFirst, NameFirst, PointFirst, MemberFirst, group_first}
use Rattle.cv_wkt.proofs.TokenLemmas.{group_empty, group_open, name_first, name_back, point_first, point_back}
use Rattle.cv_wkt.proofs.TokenLemmas.{member_first, member_open, member_bare, item_behind, item_before}

-- ---- one token

-- the tokens begin with k
at_kind : (p : Now) (fs : List Frame) (x : ℤ) (n : ℕ) (a : PieceLists) (m k : Kind) (w u : List Kind)
    (v : GeometryLists) → m ∷ w ≡ k ∷ u → ComesBehind p fs x n a k u v → ComesBehind p fs x n a m w v
at_kind p fs x n a m k w u v e h =
    let head : k ≡ m = cc in
    let tail : u ≡ w = cc in
    subst (λ b. ComesBehind p fs x n a b w v) head (subst (λ b. ComesBehind p fs x n a k b v) tail h)

-- the token is k
as_kind : (p : Now) (fs : List Frame) (x : ℤ) (n : ℕ) (a : PieceLists) (m k : Kind) (w : List Kind)
    (v : GeometryLists) → m ≡ k → ComesBehind p fs x n a k w v → ComesBehind p fs x n a m w v
as_kind p fs x n a m k w v e h = subst (λ b. ComesBehind p fs x n a b w v) (sym e) h

-- the two places at which a group begins
group_behind : (f : Frame) (fs : List Frame) (x : ℤ) (n : ℕ) (a : PieceLists) (m : Kind) (w : List Kind)
    (v : GeometryLists) → GroupFirst f fs a m w v
    → ComesBehind (Begin (Group f)) fs x n a m w v × ComesBehind (BehindWord f) fs x n a m w v
group_behind f fs x n a m w v (inl (e, h)) =
    (as_kind (Begin (Group f)) fs x n a m Empty w v e h, as_kind (BehindWord f) fs x n a m Empty w v e h)
group_behind f fs x n a m w v (inr (e, h)) =
    (as_kind (Begin (Group f)) fs x n a m Open w v e h, as_kind (BehindWord f) fs x n a m Open w v e h)

point_behind : (fs : List Frame) (x : ℤ) (n : ℕ) (a : PieceLists) (m : Kind) (w : List Kind)
    (v : GeometryLists) → PointFirst fs a m w v
    → ComesBehind (Begin Ordinates) fs x n a m w v × ComesBehind (Begin Member) fs x n a m w v
point_behind fs x n a m w v (c, e, h) = (
  as_kind (Begin Ordinates) fs x n a m (coordinate c) w v e h,
  as_kind (Begin Member) fs x n a m (coordinate c) w v e h,
)

member_behind : (fs : List Frame) (x : ℤ) (n : ℕ) (a : PieceLists) (m : Kind) (w : List Kind)
    (v : GeometryLists) → MemberFirst fs a m w v → ComesBehind (Begin Member) fs x n a m w v
member_behind fs x n a m w v (inl (e, h)) = as_kind (Begin Member) fs x n a m Empty w v e h
member_behind fs x n a m w v (inr (inl (e, h))) = as_kind (Begin Member) fs x n a m Open w v e h
member_behind fs x n a m w v (inr (inr h)) = (point_behind fs x n a m w v h).1

-- the two places at which a geometry begins
name_behind : (fs : List Frame) (x : ℤ) (n : ℕ) (a : PieceLists) (m : Kind) (w : List Kind)
    (v : GeometryLists) → NameFirst fs x a m w v
    → ComesBehind (Begin Geometry) fs x n a m w v × ComesBehind Start fs x n a m w v
name_behind fs x n a m w v (q, joined, e, h) = (
  as_kind (Begin Geometry) fs x n a m (Name q joined) w v e h,
  as_kind Start fs x n a m (Name q joined) w v e h,
)

-- no number is behind an item, but a further ordinate
no_number : (fs : List Frame) (x : ℤ) (n : ℕ) (p : Now) (a : PieceLists) (f : Fixed) (d : Bool)
    (w : List Kind) (v : GeometryLists)
    → IsSomeAnd (behind_item fs (Number f d) (place p fs x n a)) (Goes w v) → ⊥
no_number [] x n p a f d w v h = h
no_number (g ∷ fs) x n p a f d w v h = h

pair_behind : (r : ℕ) (fs : List Frame) (x : ℤ) (n : ℕ) (a : PieceLists) (m : Kind) (w : List Kind)
    (v : GeometryLists)
    → IsSomeAnd (behind_item fs m (place (Behind (suc r)) fs x n a)) (Goes w v)
    → ComesBehind (Behind (suc r)) fs x n a m w v
pair_behind r fs x n a (Number f d) w v h = absurd (no_number fs x n (Behind (suc r)) a f d w v h)
pair_behind r fs x n a m w v h = h

-- what comes with a token comes behind it, so that it can stand
behind : (p : Now) (fs : List Frame) (x : ℤ) (n : ℕ) (a : PieceLists) (m : Kind) (w : List Kind)
    (v : GeometryLists) → Comes p fs x a (m ∷ w) v → ComesBehind p fs x n a m w v
behind Start fs x n a m w v (NoPrefix, u, e, h) =
    (name_behind fs x n a m w v (name_first fs x a m w v (subst (λ z. Part Geometry fs a z v) (sym e) h))).1
behind Start fs x n a m w v (SridOf d, u, e, h) = at_kind Start fs x n a m Srid w _ v e (d, u, refl, h)
behind BehindSrid fs x n a m w v (d, u, e, h) = at_kind BehindSrid fs x n a m Equals w _ v e (d, u, refl, h)
behind BehindEquals fs x n a m w v (d, u, e, h) =
    at_kind BehindEquals fs x n a m (Number d true) w _ v e (u, refl, h)
behind BehindDigits fs x n a m w v (u, e, h) = at_kind BehindDigits fs x n a m Semicolon w u v e h
behind (Begin Geometry) fs x n a m w v h = (name_behind fs x n a m w v (name_first fs x a m w v h)).0
behind (Begin (Group f)) fs x n a m w v h = (group_behind f fs x n a m w v (group_first f fs a m w v h)).0
behind (Begin Ordinates) fs x n a m w v h = (point_behind fs x n a m w v (point_first fs a m w v h)).0
behind (Begin Member) fs x n a m w v h = member_behind fs x n a m w v (member_first fs a m w v h)
behind (BehindWord f) fs x n a m w v (false, u, e, h) =
    (group_behind f fs x n a m w v
    (group_first f fs a m w v (subst (λ z. Part (Group f) fs a z v) (sym e) h))).1
behind (BehindWord f) fs x n a m w v (true, u, e, h) = at_kind (BehindWord f) fs x n a m Tag w u v e h
behind BehindX fs x n a m w v (y, u, e, h) = at_kind BehindX fs x n a m (coordinate y) w u v e h
behind (Behind zero) fs x n a m w v h = item_behind fs x n (Behind zero) a m w v h
behind (Behind (suc r)) fs x n a m w v (inl h) =
    pair_behind r fs x n a m w v (item_behind fs x n (Behind (suc r)) a m w v h)
behind (Behind (suc r)) fs x n a m w v (inr (o, u, e, h)) =
    at_kind (Behind (suc r)) fs x n a m (ordinate o) w u v e h

-- and what comes behind a token that can stand, comes with it: a line for each row of the table
before : (p : Now) (fs : List Frame) (x : ℤ) (n : ℕ) (a : PieceLists) (m : Kind) (w : List Kind)
    (v : GeometryLists) → ComesBehind p fs x n a m w v → Comes p fs x a (m ∷ w) v
before Start fs x n a Srid w v (d, u, e, h) = (SridOf d, u, ap (λ z. Srid ∷ z) e, h)
before Start fs x n a (Name q joined) w v h =
    (NoPrefix, Name q joined ∷ w, refl, name_back fs x a q joined w v h)
before BehindSrid fs x n a Equals w v (d, u, e, h) = (d, u, ap (λ z. Equals ∷ z) e, h)
before BehindEquals fs x n a (Number d true) w v (u, e, h) = (d, u, ap (λ z. Number d true ∷ z) e, h)
before BehindDigits fs x n a Semicolon w v h = (w, refl, h)
before (Begin Geometry) fs x n a (Name q joined) w v h = name_back fs x a q joined w v h
before (Begin (Group f)) fs x n a Empty w v h = group_empty f fs a w v h
before (Begin (Group f)) fs x n a Open w v h = group_open f fs a w v h
before (Begin Ordinates) fs x n a (Number (Value z) d) w v h = point_back fs z d a w v h
before (Begin Member) fs x n a Empty w v h = (NoMember, w, refl, h)
before (Begin Member) fs x n a Open w v h = member_open fs a w v h
before (Begin Member) fs x n a (Number (Value z) d) w v h =
    member_bare fs a (Number (Value z) d ∷ w) v (point_back fs z d a w v h)
before (BehindWord f) fs x n a Tag w v h = (true, w, refl, h)
before (BehindWord f) fs x n a Empty w v h = (false, Empty ∷ w, refl, group_empty f fs a w v h)
before (BehindWord f) fs x n a Open w v h = (false, Open ∷ w, refl, group_open f fs a w v h)
before BehindX fs x n a (Number (Value y) d) w v h = (record { value = y; digits = d }, w, refl, h)
before (Behind zero) fs x n a m w v h = item_before fs x n (Behind zero) a m w v h
before (Behind (suc r)) fs x n a (Number f d) w v h = inr (record { value = f; digits = d }, w, refl, h)
before (Behind (suc r)) fs x n a m w v h = inl (item_before fs x n (Behind (suc r)) a m w v h)
before p fs x n a m w v h = absurd h

-- ---- the end

-- every part has a token
some : {s : Sort} {m : Many} (t : Tree s m) (u : List Kind) → [] ≡ spelled t ++ u → ⊥
some (PointOf x y k) u e = absurd (cc)
some (EmptyOf f) u e = absurd (cc)
some (ListOf f ts) u e = absurd (cc)
some NoMember u e = absurd (cc)
some (BareMember t) u e = some t u e
some (MemberOf t) u e = absurd (cc)
some (Tagged q NoTag g) u e = absurd (cc)
some (Tagged q Joined g) u e = absurd (cc)
some (Tagged q Apart g) u e = absurd (cc)
some (Last s t) u e = some t u e
some (More s t ts) u e =
    some t (Comma ∷ spelled ts ++ u) (e ∙ append_assoc (spelled t) (Comma ∷ spelled ts) u)

no_part : (s : Sort) (fs : List Frame) (a : PieceLists) (v : GeometryLists) → Part s fs a [] v → ⊥
no_part s fs a v (t, u, e, h) = some t u e

not_finished : (f : Frame) (s : Sort) (m : Many) (C : PieceLists → List Kind → GeometryLists → Type 0)
    (a : PieceLists) (v : GeometryLists) → Finishes f s m C a [] v → ⊥
not_finished f s One C a v (r, u, e, h) = absurd (cc)
not_finished f s Several C a v (None, u, e, h) = absurd (cc)
not_finished f s Several C a v (Some ts, u, e, h) = absurd (cc)

closed_end : (r : ℕ) (fs : List Frame) (a : PieceLists) (v : GeometryLists) → Closes fs a [] v
    → ended_at (Behind r) fs a ≡ Some v
closed_end r [] a v (e, h) = ap Some (sym h)
closed_end r (f ∷ fs) a v h = absurd (not_finished f (item f) (many f) (Closes fs) a v h)

-- where nothing more comes, the text may end here, with that geometry
at_end : (p : Now) (fs : List Frame) (x : ℤ) (a : PieceLists) (v : GeometryLists) → Comes p fs x a [] v
    → ended_at p fs a ≡ Some v
at_end Start fs x a v (NoPrefix, u, e, h) =
    absurd (no_part Geometry fs a v (subst (λ z. Part Geometry fs a z v) (sym e) h))
at_end Start fs x a v (SridOf d, u, e, h) = absurd (cc)
at_end BehindSrid fs x a v (d, u, e, h) = absurd (cc)
at_end BehindEquals fs x a v (d, u, e, h) = absurd (cc)
at_end BehindDigits fs x a v (u, e, h) = absurd (cc)
at_end (Begin s) fs x a v h = absurd (no_part s fs a v h)
at_end (BehindWord f) fs x a v (false, u, e, h) =
    absurd (no_part (Group f) fs a v (subst (λ z. Part (Group f) fs a z v) (sym e) h))
at_end (BehindWord f) fs x a v (true, u, e, h) = absurd (cc)
at_end BehindX fs x a v (y, u, e, h) = absurd (cc)
at_end (Behind zero) fs x a v h = closed_end 0 fs a v h
at_end (Behind (suc r)) fs x a v (inl h) = closed_end (suc r) fs a v h
at_end (Behind (suc r)) fs x a v (inr (o, u, e, h)) = absurd (cc)

trails_end : (r : ℕ) (a : PieceLists) (v : GeometryLists) → v ≡ lists a → Trails r [] a [] v
trails_end zero a v e = (refl, e)
trails_end (suc r) a v e = inl (refl, e)

-- and where it may end, nothing need come
from_end : (p : Now) (fs : List Frame) (x : ℤ) (a : PieceLists) (v : GeometryLists) → ended_at p fs a ≡ Some v
    → Comes p fs x a [] v
from_end (Behind r) [] x a v e = let same : v ≡ lists a = cc in trails_end r a v same
from_end (Behind r) (f ∷ fs) x a v e = absurd (cc)
from_end p fs x a v e = absurd (cc)

-- ---- every state can be left

-- some tokens, of which C holds
abbrev Leaves : (List Kind → GeometryLists → Type 0) → Type 0
Leaves C = (w : List (List ℕ)) × (v : GeometryLists) × C (map kind_of w) v

-- each open list can be closed
closes_live : (fs : List Frame) (a : PieceLists) → Leaves (Closes fs a)
unfolding kind_of word_kind keyword_kind decimal_of
closes_live [] a = ([], lists a, (refl, refl))
closes_live (f ∷ fs) a = by_many (item f) (many f) (closes_live fs (closed f a))
  where
    by_many : (s : Sort) (m : Many) → Leaves (Closes fs (closed f a)) → Leaves (Finishes f s m (Closes fs) a)
    by_many s One (w, v, h) = ((41 ∷ []) ∷ w, v, (tt, map kind_of w, refl, h))
    by_many s Several (w, v, h) = ((41 ∷ []) ∷ w, v, (None, map kind_of w, refl, h))

trails_live : (r : ℕ) (fs : List Frame) (a : PieceLists) → Leaves (Trails r fs a)
trails_live zero fs a = closes_live fs a
trails_live (suc r) fs a = let (w, v, h) = closes_live fs a in (w, v, inl h)

-- a part of each sort: `0 0`, EMPTY, `POINT EMPTY`
part_live : (s : Sort) (fs : List Frame) (a : PieceLists) → Leaves (Part s fs a)
unfolding kind_of word_kind keyword_kind geometry_kind decimal_of
part_live Ordinates fs a =
    let zero_of : Coordinate = record { value = ℤ.pos 0; digits = true } in
    let (w, v, h) = closes_live fs (added (innermost fs) (record { x = ℤ.pos 0; y = ℤ.pos 0 }) a) in
    ((48 ∷ []) ∷ (48 ∷ []) ∷ w, v, (PointOf zero_of zero_of NoneFurther, map kind_of w, refl, h))
part_live Member fs a = let (w, v, h) =
    closes_live fs a in ((69 ∷ 77 ∷ 80 ∷ 84 ∷ 89 ∷ []) ∷ w, v, (NoMember, map kind_of w, refl, h))
part_live (Group f) fs a =
    let (w, v, h) = closes_live fs (emptied f a) in
    ((69 ∷ 77 ∷ 80 ∷ 84 ∷ 89 ∷ []) ∷ w, v, (EmptyOf f, map kind_of w, refl, h))
part_live Geometry fs a =
    let (w, v, h) = closes_live fs a in (
      (80 ∷ 79 ∷ 73 ∷ 78 ∷ 84 ∷ []) ∷ (69 ∷ 77 ∷ 80 ∷ 84 ∷ 89 ∷ []) ∷ w,
      v,
      (Tagged Point NoTag (EmptyOf OnePoint), map kind_of w, refl, h),
    )

live : (p : Now) (fs : List Frame) (x : ℤ) (a : PieceLists) → Leaves (Comes p fs x a)
unfolding kind_of word_kind keyword_kind decimal_of
live Start fs x a = let (w, v, h) = part_live Geometry fs a in (w, v, (NoPrefix, map kind_of w, refl, h))
live BehindSrid fs x a =
    let (w, v, h) = part_live Geometry fs a in
    ((61 ∷ []) ∷ (48 ∷ []) ∷ (59 ∷ []) ∷ w, v, (Value (ℤ.pos 0), map kind_of w, refl, h))
live BehindEquals fs x a =
    let (w, v, h) = part_live Geometry fs a in
    ((48 ∷ []) ∷ (59 ∷ []) ∷ w, v, (Value (ℤ.pos 0), map kind_of w, refl, h))
live BehindDigits fs x a =
    let (w, v, h) = part_live Geometry fs a in ((59 ∷ []) ∷ w, v, (map kind_of w, refl, h))
live (Begin s) fs x a = part_live s fs a
live (BehindWord f) fs x a =
    let (w, v, h) = part_live (Group f) fs a in (w, v, (false, map kind_of w, refl, h))
live BehindX fs x a =
    let (w, v, h) = trails_live 2 fs (added (innermost fs) (record { x = x; y = ℤ.pos 0 }) a) in
    ((48 ∷ []) ∷ w, v, (record { value = ℤ.pos 0; digits = true }, map kind_of w, refl, h))
live (Behind r) fs x a = trails_live r fs a

-- ---- the machine reads the grammar

-- tokens, given by their bytes, that complete a text of the geometry behind a state
abbrev pub Rest : State → List (List ℕ) → GeometryLists → Type 0
Rest s w v = Comes s.now s.frames s.x s.parts (map kind_of w) v

-- the machine reads just that
pub reads : Reads wkt_reader Rest
reads = record {
  step = λ s b w v. (
    behind s.now s.frames s.x s.vertices s.parts (kind_of b) (map kind_of w) v,
    before s.now s.frames s.x s.vertices s.parts (kind_of b) (map kind_of w) v,
  );
  ends = λ s v. (at_end s.now s.frames s.x s.parts v, from_end s.now s.frames s.x s.parts v);
  live = λ s. live s.now s.frames s.x s.parts;
}

-- what may come at the start is a spelling
pub spelt : (tokens : List (List ℕ)) (v : GeometryLists) → Rest start tokens v ↔ Spells tokens v
spelt tokens v = (
  λ (p, u, e, (t, w, d, c)). (
    p,
    t,
    e ∙ ap (λ z. prefix p ++ z) (d ∙ ap (λ z. spelled t ++ z) c.0 ∙ append-nil (spelled t)),
    c.1
        ∙ meaning t,
  ),
  λ (p, t, e, h).
      (p, spelled t, e, (t, [], sym (append-nil (spelled t)), (refl, h ∙ sym (meaning t)))),
)

-- the machine's answer is the geometry of the tokens, or their first wrong place
pub wkt_reads : (tokens : List (List ℕ)) → IsReading Spells tokens (run wkt_reader tokens start)
wkt_reads tokens = same_reading (Rest start) Spells tokens _ spelt
    (is_reading wkt_reader Rest reads tokens start)
