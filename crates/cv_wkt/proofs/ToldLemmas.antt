-- What the tokens tell is what the machine's state is.
use Rattle.std.proofs.Common.{◌≡◌, ℕ, zero, suc, ◌+◌, ◌≤◌, ℤ, Bool, true, false, ◌==◌, if◌then◌else◌, List}
use Rattle.std.proofs.Common.{[], ◌∷◌, map, drop, Option, Some, IfSome, refl, sym, ap, ap₂, ◌∙◌, arith}
use Rattle.std.proofs.lemmas.Bool.Decides.{nat_tests}
use Rattle.cv_number.specs.declared.fixed.Fixed.TheVariants.{Value}
use Rattle.cv_wkt.specs.declared.kind.Word.{Word}
use Rattle.cv_wkt.specs.declared.kind.Kind.{Kind}
use Rattle.cv_wkt.specs.declared.kind.Kind.TheVariants.{Open, Close, Comma, Semicolon, Equals, Srid, Empty}
use Rattle.cv_wkt.specs.declared.kind.Kind.TheVariants.{Tag, Name, Number}
use Rattle.cv_wkt.specs.declared.place.Frame.{Frame}
use Rattle.cv_wkt.specs.declared.place.Frame.TheVariants.{OnePoint, OneMember, LinePoints, RingPoints}
use Rattle.cv_wkt.specs.declared.place.Frame.TheVariants.{Members, Lines, Rings, Polygons, Geometries}
use Rattle.cv_wkt.specs.declared.place.Sort.TheVariants.{Ordinates, Member, Group, Geometry}
use Rattle.cv_wkt.specs.declared.place.Now.{Now}
use Rattle.cv_wkt.specs.declared.place.Now.TheVariants.{Start, BehindSrid, BehindEquals, BehindDigits, Begin}
use Rattle.cv_wkt.specs.declared.place.Now.TheVariants.{BehindWord, BehindX, Behind}
use Rattle.cv_wkt.specs.Grammar.{item, Many, One, Several, many}
use Rattle.cv_wkt.specs.Pieces.{PieceLists}
use Rattle.cv_wkt.specs.Reader.{State, separated, behind_item, stepped}
use Rattle.cv_wkt.specs.Refusals.{is_collection}
use Rattle.cv_wkt.specs.Leftmost.{Told, tell}
use Rattle.cv_wkt.proofs.ComingLemmas.{place}

-- how many numbers stand directly before
abbrev pub NumbersAt : Now → ℕ → Type 0
NumbersAt BehindX m = m ≡ 1
NumbersAt (Begin s) m = m ≡ 0
NumbersAt BehindEquals m = m ≡ 0
NumbersAt (Behind (suc r)) m = 2 ≤ m
NumbersAt _ m = Unit {0}

-- whether a collection's list comes next
abbrev pub NamedAt : Now → Bool → Type 0
NamedAt (Begin (Group f)) b = b ≡ is_collection f
NamedAt (BehindWord f) b = b ≡ is_collection f
NamedAt (Begin Member) b = b ≡ false
NamedAt _ b = Unit {0}

-- what the tokens tell, beside what the state has
pub record Tells (p : Now) (fs : List Frame) (n : ℕ) (t : Told) : Type 0 where
  pub nested : map is_collection fs ≡ t.nested
  pub vertices : n ≡ t.vertices
  pub numbers : NumbersAt p t.numbers
  pub named : NamedAt p t.named

plain_item : (f : Frame) → NamedAt (Begin (item f)) false
plain_item OnePoint = tt
plain_item OneMember = tt
plain_item LinePoints = tt
plain_item RingPoints = tt
plain_item Members = refl
plain_item Lines = refl
plain_item Rings = refl
plain_item Polygons = refl
plain_item Geometries = tt

no_y : (m v : ℕ) → (m ≡ 1 → ⊥) → v + (if m == 1 then 1 else 0) ≡ v
no_y m v h = grind (arith, nat_tests)

one_y : (m n v : ℕ) → m ≡ 1 → n ≡ v → n + 1 ≡ v + (if m == 1 then 1 else 0)
one_y m n v h e = grind (arith, nat_tests)

more_numbers : (r m : ℕ) → 2 ≤ m → NumbersAt (Behind r) (m + 1)
more_numbers zero m h = tt
more_numbers (suc r) m h = omega (arith, h)

abbrev Keeps : Told → Kind → Option State → Type 0
Keeps t k o = IfSome o (λ (u : State). Tells u.now u.frames u.vertices (tell t k))

-- a token which says nothing of this, to a place which asks nothing
comma_tells : (m : Many) (f : Frame) (fs : List Frame) (x : ℤ) (n r : ℕ) (a : PieceLists) (t : Told)
    → Tells (Behind r) (f ∷ fs) n t → Keeps t Comma (separated m f (place (Behind r) (f ∷ fs) x n a))
comma_tells One f fs x n r a t h = tt
comma_tells Several f fs x n r a t h =
    record { nested = h.nested; vertices = h.vertices; numbers = refl; named = plain_item f }

item_tells : (fs : List Frame) (k : Kind) (x : ℤ) (n r : ℕ) (a : PieceLists) (t : Told)
    → Tells (Behind r) fs n t → Keeps t k (behind_item fs k (place (Behind r) fs x n a))
item_tells [] k x n r a t h = tt
item_tells (f ∷ fs) Comma x n r a t h = comma_tells (many f) f fs x n r a t h
item_tells (f ∷ fs) Close x n r a t h =
    record { nested = ap (drop 1) h.nested; vertices = h.vertices; numbers = tt; named = tt }
item_tells (f ∷ fs) k x n r a t h = tt

word_tells : (w : Word) (joined : Bool) (p : Now) (fs : List Frame) (x : ℤ) (n : ℕ) (a : PieceLists)
    (t : Told) → Tells p fs n t
    → Keeps t (Name w joined)
    (Some (record (place p fs x n a) { now = Rattle.cv_wkt.specs.Reader.behind_word w joined }))
word_tells w true p fs x n a t h =
    record { nested = h.nested; vertices = h.vertices; numbers = refl; named = refl }
word_tells w false p fs x n a t h =
    record { nested = h.nested; vertices = h.vertices; numbers = tt; named = refl }

-- each row of the table keeps what is told
pub tells_step : (p : Now) (fs : List Frame) (x : ℤ) (n : ℕ) (a : PieceLists) (k : Kind) (t : Told)
    → Tells p fs n t → Keeps t k (stepped p k (place p fs x n a))
tells_step Start fs x n a Srid t h =
    record { nested = h.nested; vertices = h.vertices; numbers = tt; named = tt }
tells_step Start fs x n a (Name w j) t h = word_tells w j Start fs x n a t h
tells_step BehindSrid fs x n a Equals t h =
    record { nested = h.nested; vertices = h.vertices; numbers = refl; named = tt }
tells_step BehindEquals fs x n a (Number f true) t h = record {
  nested = h.nested;
  vertices = h.vertices ∙ sym (no_y t.numbers t.vertices (λ e. let z = h.numbers in omega arith));
  numbers = tt;
  named = tt;
}
tells_step BehindDigits fs x n a Semicolon t h =
    record { nested = h.nested; vertices = h.vertices; numbers = refl; named = tt }
tells_step (Begin Geometry) fs x n a (Name w j) t h = word_tells w j (Begin Geometry) fs x n a t h
tells_step (Begin (Group f)) fs x n a Empty t h =
    record { nested = h.nested; vertices = h.vertices; numbers = tt; named = tt }
tells_step (Begin (Group f)) fs x n a Open t h =
    record {
      nested = ap₂ (λ b bs. b ∷ bs) (sym h.named) h.nested;
      vertices = h.vertices;
      numbers = refl;
      named = plain_item f;
    }
tells_step (Begin Ordinates) fs x n a (Number (Value z) d) t h = record {
  nested = h.nested;
  vertices = h.vertices ∙ sym (no_y t.numbers t.vertices (λ e. let q = h.numbers in omega arith));
  numbers = let q = h.numbers in omega arith;
  named = tt;
}
tells_step (Begin Member) fs x n a Empty t h =
    record { nested = h.nested; vertices = h.vertices; numbers = tt; named = tt }
tells_step (Begin Member) fs x n a Open t h =
    record {
      nested = ap₂ (λ b bs. b ∷ bs) (sym h.named) h.nested;
      vertices = h.vertices;
      numbers = refl;
      named = tt;
    }
tells_step (Begin Member) fs x n a (Number (Value z) d) t h = record {
  nested = h.nested;
  vertices = h.vertices ∙ sym (no_y t.numbers t.vertices (λ e. let q = h.numbers in omega arith));
  numbers = let q = h.numbers in omega arith;
  named = tt;
}
tells_step (BehindWord f) fs x n a Tag t h =
    record { nested = h.nested; vertices = h.vertices; numbers = refl; named = h.named }
tells_step (BehindWord f) fs x n a Empty t h =
    record { nested = h.nested; vertices = h.vertices; numbers = tt; named = tt }
tells_step (BehindWord f) fs x n a Open t h =
    record {
      nested = ap₂ (λ b bs. b ∷ bs) (sym h.named) h.nested;
      vertices = h.vertices;
      numbers = refl;
      named = plain_item f;
    }
tells_step BehindX fs x n a (Number (Value y) d) t h = record {
  nested = h.nested;
  vertices = one_y t.numbers n t.vertices h.numbers h.vertices;
  numbers = let q = h.numbers in omega arith;
  named = tt;
}
tells_step (Behind zero) fs x n a k t h = item_tells fs k x n 0 a t h
tells_step (Behind (suc r)) fs x n a (Number f d) t h = record {
  nested = h.nested;
  vertices = h.vertices ∙ sym (no_y t.numbers t.vertices (λ e. let q = h.numbers in omega arith));
  numbers = more_numbers r t.numbers h.numbers;
  named = tt;
}
tells_step (Behind (suc r)) fs x n a k t h = item_tells fs k x n (suc r) a t h
tells_step p fs x n a k t h = tt
