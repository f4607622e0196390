-- The limits that the tokens tell of are those that the machine meets.
use Rattle.std.proofs.Common.{◌≡◌, ℕ, zero, suc, ◌+◌, ◌<◌, ℤ, nat_le, Bool, true, ◌&&◌, ◌==◌, if◌then◌else◌}
use Rattle.std.proofs.Common.{List, [], ◌∷◌, ◌++◌, map, take, slice_get, count_by, sum_by, Option, Some, None}
use Rattle.std.proofs.Common.{IfSome, option_and_then, refl, sym, ap, subst, ◌∙◌, arith, append_assoc}
use Rattle.std.proofs.Common.{append-nil}
use Rattle.std.proofs.lemmas.Bool.Decides.{nat_tests}
use Rattle.std.proofs.lemmas.List.Sums.{sum_by-append, fold-append}
use Rattle.std.proofs.Common.{cond}
use Rattle.cv_reading.specs.Machines.{after}
use Rattle.cv_reading.specs.Watches.{IsUnlimited}
use Rattle.cv_reading.proofs.MachineLemmas.{after_push, kept_along}
use Rattle.cv_number.specs.declared.fixed.Fixed.TheVariants.{Value}
use Rattle.cv_wkt.specs.declared.kind.Word.{Word}
use Rattle.cv_wkt.specs.declared.kind.Word.TheVariants.{Point, LineString, Polygon, MultiPoint}
use Rattle.cv_wkt.specs.declared.kind.Word.TheVariants.{MultiLineString, MultiPolygon, Collection}
use Rattle.cv_wkt.specs.declared.kind.Kind.{Kind}
use Rattle.cv_wkt.specs.declared.kind.Kind.TheVariants.{Open, Close, Comma, Semicolon, Equals, Srid, Empty}
use Rattle.cv_wkt.specs.declared.kind.Kind.TheVariants.{Tag, Name, Number}
use Rattle.cv_wkt.specs.declared.place.Frame.{Frame}
use Rattle.cv_wkt.specs.declared.place.Sort.TheVariants.{Ordinates, Member, Group, Geometry}
use Rattle.cv_wkt.specs.declared.place.Now.{Now}
use Rattle.cv_wkt.specs.declared.place.Now.TheVariants.{Start, BehindSrid, BehindEquals, BehindDigits, Begin}
use Rattle.cv_wkt.specs.declared.place.Now.TheVariants.{BehindWord, BehindX, Behind}
use Rattle.cv_wkt.specs.declared.place.Cause.{Cause}
use Rattle.cv_wkt.specs.declared.place.Cause.TheVariants.{Deep, Full}
use Rattle.cv_wkt.specs.Kind.{kind_of}
use Rattle.cv_wkt.specs.Grammar.{Many, One, Several, many}
use Rattle.cv_wkt.specs.Pieces.{PieceLists}
use Rattle.cv_wkt.specs.Reader.{State, start, separated, behind_item, stepped, wkt_reader}
use Rattle.cv_wkt.specs.Refusals.{is_collection, collections, if_deep, limit_of, wkt_watch}
use Rattle.cv_wkt.specs.Leftmost.{Told, tell, told, nothing_told, limit_behind}
use Rattle.cv_wkt.proofs.ComingLemmas.{place}
use Rattle.cv_wkt.proofs.ToldLemmas.{Tells, tells_step}

-- ---- one token

sum_map : {A B : Type 0} (f : B → ℕ) (g : A → B) (xs : List A)
    → sum_by f (map g xs) ≡ sum_by (λ x. f (g x)) xs
sum_map f g [] = refl
sum_map f g (x ∷ xs) =
    sum_by-append f (g x ∷ []) (map g xs)
    ∙ ap (λ z. sum_by f (g x ∷ []) + z) (sum_map f g xs)
    ∙ sym (sum_by-append (λ x. f (g x)) (x ∷ []) xs)

nested_is : (fs : List Frame) → count_by (λ b. b) (map is_collection fs) ≡ collections fs
nested_is fs = sum_map (λ b. cond b 1 0) is_collection fs

no_full : (m v : ℕ) → (m ≡ 1 → ⊥) → (if m == 1 && nat_le 1000000 v then Some Full else None) ≡ None
no_full m v h = grind (arith, nat_tests)

full_at : (m n v : ℕ) → m ≡ 1 → n ≡ v
    → (if nat_le 1000000 n then Some Full else None)
    ≡ (if m == 1 && nat_le 1000000 v then Some Full else None)
full_at m n v h e = ap (λ z. if nat_le 1000000 z then Some Full else None) e
    ∙ ap (λ z. if z == 1 && nat_le 1000000 v then Some Full else None) (sym h)

word_limit : (w : Word) (j : Bool) (fs : List Frame) (t : Told) → map is_collection fs ≡ t.nested
    → if_deep fs (Name w j) ≡ limit_behind t (Name w j)
word_limit Collection j fs t e =
    ap (λ z. if nat_le 8 z then Some Deep else None) (sym (nested_is fs) ∙ ap (count_by (λ b. b)) e)
word_limit Point j fs t e = refl
word_limit LineString j fs t e = refl
word_limit Polygon j fs t e = refl
word_limit MultiPoint j fs t e = refl
word_limit MultiLineString j fs t e = refl
word_limit MultiPolygon j fs t e = refl

-- where a token can stand, what is told of its limit is its limit
abbrev Agrees : Option Cause → Told → Kind → Option State → Type 0
Agrees l t k o = IfSome o (λ (u : State). l ≡ limit_behind t k)

comma_limit : (m : Many) (f : Frame) (s : State) (t : Told) → Agrees None t Comma (separated m f s)
comma_limit One f s t = tt
comma_limit Several f s t = refl

item_limit : (fs : List Frame) (k : Kind) (s : State) (t : Told) → Agrees None t k (behind_item fs k s)
item_limit [] k s t = tt
item_limit (f ∷ fs) Comma s t = comma_limit (many f) f s t
item_limit (f ∷ fs) Close s t = refl
item_limit (f ∷ fs) k s t = tt

limit_same : (p : Now) (fs : List Frame) (x : ℤ) (n : ℕ) (a : PieceLists) (k : Kind) (t : Told)
    → Tells p fs n t → Agrees (limit_of p fs n k) t k (stepped p k (place p fs x n a))
limit_same Start fs x n a Srid t h = refl
limit_same Start fs x n a (Name w j) t h = word_limit w j fs t h.nested
limit_same BehindSrid fs x n a Equals t h = refl
limit_same BehindEquals fs x n a (Number f true) t h =
    sym (no_full t.numbers t.vertices (λ e. let z = h.numbers in omega arith))
limit_same BehindDigits fs x n a Semicolon t h = refl
limit_same (Begin Geometry) fs x n a (Name w j) t h = word_limit w j fs t h.nested
limit_same (Begin (Group f)) fs x n a Empty t h = refl
limit_same (Begin (Group f)) fs x n a Open t h = refl
limit_same (Begin Ordinates) fs x n a (Number (Value z) d) t h =
    sym (no_full t.numbers t.vertices (λ e. let q = h.numbers in omega arith))
limit_same (Begin Member) fs x n a Empty t h = refl
limit_same (Begin Member) fs x n a Open t h = refl
limit_same (Begin Member) fs x n a (Number (Value z) d) t h =
    sym (no_full t.numbers t.vertices (λ e. let q = h.numbers in omega arith))
limit_same (BehindWord f) fs x n a Tag t h = refl
limit_same (BehindWord f) fs x n a Empty t h = refl
limit_same (BehindWord f) fs x n a Open t h = refl
limit_same BehindX fs x n a (Number (Value y) d) t h = full_at t.numbers n t.vertices h.numbers h.vertices
limit_same (Behind zero) fs x n a k t h = item_limit fs k (place (Behind zero) fs x n a) t
limit_same (Behind (suc r)) fs x n a (Number f d) t h =
    sym (no_full t.numbers t.vertices (λ e. let q = h.numbers in omega arith))
limit_same (Behind (suc r)) fs x n a k t h = item_limit fs k (place (Behind (suc r)) fs x n a) t
limit_same p fs x n a k t h = tt

-- ---- the tokens so far

-- the tokens so far tell what the state is
abbrev pub TellsOf : List (List ℕ) → State → Type 0
TellsOf front s = Tells s.now s.frames s.vertices (told front)

told_more : (front : List (List ℕ)) (a : List ℕ) → told (front ++ a ∷ []) ≡ tell (told front) (kind_of a)
told_more front a = fold-append (λ t bytes. tell t (kind_of bytes)) nothing_told front (a ∷ [])

keeps : (front : List (List ℕ)) (s : State) (a : List ℕ) (t : State) → TellsOf front s
    → wkt_reader.step s a ≡ Some t → TellsOf (front ++ a ∷ []) t
keeps front s a t h e =
    let next = subst (λ o. IfSome o
    (λ (u : State). Tells u.now u.frames u.vertices (tell (told front) (kind_of a)))) e
    (tells_step s.now s.frames s.x s.vertices s.parts (kind_of a) (told front) h) in
    subst (Tells t.now t.frames t.vertices) (sym (told_more front a)) next

-- they do, where they lead to it
pub reached_tells : (front : List (List ℕ)) (s : State) → after wkt_reader front start ≡ Some s
    → TellsOf front s
reached_tells front s e =
    kept_along wkt_reader TellsOf keeps front [] start s
    (record { nested = refl; vertices = refl; numbers = tt; named = tt }) e

-- the limit of a token that can stand, as told
pub limit_there : (front : List (List ℕ)) (s t : State) (a : List ℕ) → after wkt_reader front start ≡ Some s
    → wkt_reader.step s a ≡ Some t → wkt_watch.limit s a ≡ limit_behind (told front) (kind_of a)
limit_there front s t a e q =
    subst (λ o. IfSome o (λ (u : State). limit_of s.now s.frames s.vertices (kind_of a)
    ≡ limit_behind (told front) (kind_of a))) q
    (limit_same s.now s.frames s.x s.vertices s.parts (kind_of a) (told front)
    (reached_tells front s e))

-- ---- no limit on the way

-- the limit of the token j behind a front
abbrev pub limit_from : List (List ℕ) → List (List ℕ) → ℕ → Option Cause
limit_from front tokens j =
    option_and_then (λ bytes. limit_behind (told (front ++ take j tokens)) (kind_of bytes))
    (slice_get tokens j)

record OnWay (s : State) (a : List ℕ) (w : List (List ℕ)) (z : State) : Type 0 where
  next : State
  step : wkt_reader.step s a ≡ Some next
  free : wkt_watch.limit s a ≡ None
  unlimited : IsUnlimited wkt_reader wkt_watch w next
  reached : after wkt_reader w next ≡ Some z

on_way : (s : State) (a : List ℕ) (w : List (List ℕ)) (z : State) (o : Option State) → wkt_reader.step s a ≡ o
    → option_and_then (after wkt_reader w) o ≡ Some z
    → IfSome o (λ (t : State). (wkt_watch.limit s a ≡ None) × IsUnlimited wkt_reader wkt_watch w t)
    → OnWay s a w z
on_way s a w z None e q h = absurd (cc)
on_way s a w z (Some t) e q h = record { next = t; step = e; free = h.0; unlimited = h.1; reached = q }

-- no limit is met before a token, where the way to it meets none
pub free_before : (tokens front : List (List ℕ)) (s z : State) (i j : ℕ)
    → after wkt_reader front start ≡ Some s → after wkt_reader (take i tokens) s ≡ Some z
    → IsUnlimited wkt_reader wkt_watch (take i tokens) s → j < i → limit_from front tokens j ≡ None
free_before [] front s z i j e q h l = refl
free_before (a ∷ w) front s z zero j e q h l = let no : ⊥ = omega (arith, l) in absurd no
free_before (a ∷ w) front s z (suc i) zero e q h l =
    let way = on_way s a (take i w) z (wkt_reader.step s a) refl q h in
    ap (λ f. limit_behind (told f) (kind_of a)) (append-nil front)
    ∙ sym (limit_there front s way.next a e way.step) ∙ way.free
free_before (a ∷ w) front s z (suc i) (suc j) e q h l =
    let way = on_way s a (take i w) z (wkt_reader.step s a) refl q h in
    let rest = free_before w (front ++ a ∷ []) way.next z i j
    (after_push wkt_reader front start a s e ∙ way.step) way.reached way.unlimited (omega (arith, l)) in
    ap (λ f. option_and_then (λ bytes. limit_behind (told f) (kind_of bytes)) (slice_get w j))
    (sym (append_assoc front (a ∷ []) (take j w))) ∙ rest
