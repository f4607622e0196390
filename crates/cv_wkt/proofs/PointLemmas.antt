-- The points of lines and rings: two coordinates, a space between them and a comma behind are four tokens.
use Rattle.std.proofs.Common.{◌≡◌, ℕ, ℤ, zero, suc, ◌+◌, ◌<◌, ◌≤◌, nat_le, Bool, true, false}
use Rattle.std.proofs.Common.{List, [], ◌∷◌, length, take, drop, get_or, Some, None, Ok, refl, sym, ap, subst}
use Rattle.std.proofs.Common.{◌∙◌, arith, unwrap_or, if◌then◌else◌, length-drop}
use Rattle.std.proofs.Math.Seq.{drop-cons}
use Rattle.std.proofs.lemmas.List.{drop-drop, get_or-drop}
use Rattle.std.proofs.lemmas.Bool.Decides.{nat_tests}
use Rattle.std.specs.Char.{is_ascii_digit}
use Rattle.std.specs.List.{prefix_len, list_all}
use Rattle.cv_reading.specs.Tokens.{ByteKind, White, Single, Word, is_word}
use Rattle.cv_number.specs.declared.fixed.Fixed.TheVariants.{Value}
use Rattle.cv_number.specs.Reader.{decimal_of}
use Rattle.cv_wkt.specs.declared.kind.Kind.TheVariants.{Comma, Number}
use Rattle.cv_wkt.specs.declared.place.Frame.{Frame}
use Rattle.cv_wkt.specs.declared.place.Frame.TheVariants.{LinePoints, RingPoints}
use Rattle.cv_wkt.specs.declared.place.Sort.TheVariants.{Ordinates}
use Rattle.cv_wkt.specs.declared.place.Now.TheVariants.{Begin, Behind}
use Rattle.cv_wkt.specs.declared.place.Cause.TheVariants.{Full}
use Rattle.cv_wkt.specs.Kind.{byte_kind, kind_of, number_kind, word_kind}
use Rattle.cv_wkt.specs.Text.{len_by, front_len}
use Rattle.cv_wkt.specs.Pieces.{PieceLists}
use Rattle.cv_wkt.specs.Reader.{State, Stepped, with_x, with_y, stepped}
use Rattle.cv_wkt.specs.Refusals.{limit_of, taken}
use Rattle.cv_wkt.specs.Short.{IsSpelt, StandsAt, IsPair, IsLast, IsPath, IsAtPoint, with_pair, answer_from}
use Rattle.cv_wkt.specs.Short.{PointsAlong}
use Rattle.cv_wkt.proofs.StepLemmas.{made}
use Rattle.cv_wkt.proofs.ShortLemmas.{both}
use Rattle.cv_wkt.proofs.ScanLemmas.{from_white, from_token, Along}

-- ---- tokens

-- is a byte one of a word
abbrev in_word : ℕ → Bool
in_word b = is_word (byte_kind b)

-- bytes of a word up to another byte
word_ends : (bytes : List ℕ) (n : ℕ) → n < length bytes → list_all in_word (take n bytes) ≡ true
    → in_word (get_or bytes n 0) ≡ false → prefix_len in_word bytes ≡ n
word_ends [] n h all other = absurd (omega arith)
word_ends (b ∷ bs) zero h all other = rw other refl
word_ends (b ∷ bs) (suc n) h all other =
    let parts = both (in_word b) (list_all in_word (take n bs)) all in
    let one : prefix_len in_word (b ∷ bs) ≡ suc (prefix_len in_word bs) = rw (parts.0) omega arith in
    one ∙ ap suc (word_ends bs n (omega arith) parts.1 other)

-- a token that begins with a byte of a word
len_of_word : (k : ByteKind) (bytes : List ℕ) → is_word k ≡ true → len_by k bytes ≡ prefix_len in_word bytes
len_of_word Word bytes e = refl
len_of_word White bytes e = absurd (cc)
len_of_word Single bytes e = absurd (cc)

-- they are the token at the front
front_word : (bytes : List ℕ) (n : ℕ) → 0 < n → n < length bytes → list_all in_word (take n bytes) ≡ true
    → in_word (get_or bytes n 0) ≡ false → front_len bytes ≡ n
front_word [] n some h all other = absurd (omega arith)
front_word (b ∷ bs) zero some h all other = absurd (omega arith)
front_word (b ∷ bs) (suc n) some h all other =
    let parts = both (in_word b) (list_all in_word (take n bs)) all in
    len_of_word (byte_kind b) (b ∷ bs) parts.0 ∙ word_ends (b ∷ bs) (suc n) h all other

-- the bytes from a byte on
from_byte : (bytes : List ℕ) (at byte : ℕ) → StandsAt bytes at byte
    → drop at bytes ≡ byte ∷ drop (suc at) bytes
from_byte bytes at byte stands =
    drop-cons bytes at 0 stands.within ∙ ap (λ b. b ∷ drop (suc at) bytes) stands.is

-- ---- kinds

-- the kind of a coordinate
kind_spelt : (bytes : List ℕ) (z : ℤ) → decimal_of bytes ≡ Some (Value z)
    → kind_of bytes ≡ Number (Value z) (list_all is_ascii_digit bytes)
unfolding kind_of
kind_spelt bytes z e = ap (λ o. unwrap_or (number_kind bytes o) (word_kind bytes)) e

-- the kind of a comma
kind_comma : kind_of (44 ∷ []) ≡ Comma
unfolding kind_of word_kind decimal_of
kind_comma = refl

-- ---- steps

-- a state before a point
abbrev before : List Frame → ℤ → ℕ → PieceLists → State
before fs x v a = record { now = Begin Ordinates; frames = fs; x = x; vertices = v; parts = a }

x_taken : (s : State) (x : ℤ) (d : Bool) (at : ℕ) → s.now ≡ Begin Ordinates
    → taken s (Number (Value x) d) at ≡ Ok (with_x x s)
x_taken s x d at e =
    made s (with_x x s) (Number (Value x) d) at
    (subst (λ p. limit_of p s.frames s.vertices (Number (Value x) d) ≡ None) (sym e) refl)
    (subst (λ p. Stepped true (stepped p (Number (Value x) d) s) (with_x x s)) (sym e) refl)

y_taken : (s : State) (x y : ℤ) (d : Bool) (at : ℕ) → s.vertices < 1000000
    → taken (with_x x s) (Number (Value y) d) at ≡ Ok (with_y y (with_x x s))
y_taken s x y d at few =
    let room : nat_le 1000000 s.vertices ≡ false = grind (arith, nat_tests) in
    made (with_x x s) (with_y y (with_x x s)) (Number (Value y) d) at
    (ap (λ (t : Bool). if t then Some Full else None) room) refl

comma_made : (fs : List Frame) (x0 x y : ℤ) (v : ℕ) (a : PieceLists) → IsPath fs
    → Stepped true (stepped (Behind 2) Comma (with_y y (with_x x (before fs x0 v a))))
    (with_pair x y (before fs x0 v a))
comma_made (LinePoints ∷ fs) x0 x y v a h = refl
comma_made (RingPoints ∷ fs) x0 x y v a h = refl
comma_made fs x0 x y v a h = absurd h

comma_taken : (fs : List Frame) (x0 x y : ℤ) (v : ℕ) (a : PieceLists) (at : ℕ) → IsPath fs
    → taken (with_y y (with_x x (before fs x0 v a))) Comma at ≡ Ok (with_pair x y (before fs x0 v a))
comma_taken fs x0 x y v a at h =
    made (with_y y (with_x x (before fs x0 v a))) (with_pair x y (before fs x0 v a)) Comma at refl
    (comma_made fs x0 x y v a h)

-- ---- the way through a text

-- a coordinate at an offset, before a byte that ends it, is a token
coordinate_passed : (text : List ℕ) (at n byte : ℕ) (z : ℤ) (s u : State) → IsSpelt (drop at text) z n
    → StandsAt (drop at text) n byte → in_word byte ≡ false
    → ((d : Bool) → taken s (Number (Value z) d) at ≡ Ok u)
    → answer_from text at s ≡ answer_from text (at + n) u
coordinate_passed text at n byte z s u spelt stands other step =
    let ends = ap in_word stands.is ∙ other in
    from_token text at n s u (front_word (drop at text) n spelt.some stands.within spelt.word ends) spelt.some
    (ap (λ k. taken s k at) (kind_spelt (take n (drop at text)) z spelt.value)
    ∙ step (list_all is_ascii_digit (take n (drop at text))))

-- a space is passed over
space_passed : (text : List ℕ) (at : ℕ) (s : State) → StandsAt (drop at text) 0 32
    → answer_from text at s ≡ answer_from text (at + 1) s
space_passed text at s stands =
    let inside = stands.within in
    from_white text at s (omega (arith, length-drop at text))
    (ap front_len (from_byte (drop at text) 0 32 stands))

-- a comma is a token
comma_passed : (text : List ℕ) (at : ℕ) (s u : State) → StandsAt (drop at text) 0 44
    → taken s Comma at ≡ Ok u → answer_from text at s ≡ answer_from text (at + 1) u
comma_passed text at s u stands step =
    let front = from_byte (drop at text) 0 44 stands in
    from_token text at 1 s u (ap front_len front) (omega arith)
    (ap (λ bs. taken s (kind_of (take 1 bs)) at) front ∙ ap (λ k. taken s k at) kind_comma ∙ step)

-- a byte behind some others
stands_behind : (text : List ℕ) (at n byte : ℕ) → StandsAt (drop at text) n byte
    → StandsAt (drop (at + n) text) 0 byte
stands_behind text at n byte stands =
    let inside = stands.within in
    record {
      within = omega (arith, length-drop at text, length-drop (at + n) text);
      is = get_or-drop (at + n) text 0 0 ∙ ap (λ k. get_or text k 0) (omega arith)
          ∙ sym (get_or-drop at text n 0) ∙ stands.is;
    }

-- a point and its comma lead to the state behind them
pair_passed : (text : List ℕ) (at len : ℕ) (fs : List Frame) (x0 x y : ℤ) (v : ℕ) (a : PieceLists)
    → IsPath fs → v < 1000000 → IsPair (drop at text) x y len
    → answer_from text at (before fs x0 v a) ≡ answer_from text (at + len) (with_pair x y (before fs x0 v a))
pair_passed text at len fs x0 x y v a path few pair =
    let n = pair.x_len in
    let m = pair.y_len in
    let s = before fs x0 v a in
    let moved : drop (n + 1) (drop at text) ≡ drop (at + n + 1) text =
    drop-drop (n + 1) at text ∙ ap (λ k. drop k text) (omega arith) in
    let comma = subst (λ bs. StandsAt bs m 44) moved pair.comma in
    let is = pair.len_is in
    coordinate_passed text at n 32 x s (with_x x s) pair.x_is pair.space refl (λ d. x_taken s x d at refl)
    ∙ space_passed text (at + n) (with_x x s) (stands_behind text at n 32 pair.space)
    ∙ coordinate_passed text (at + n + 1) m 44 y (with_x x s) (with_y y (with_x x s))
    (subst (λ bs. IsSpelt bs y m) moved pair.y_is) comma refl (λ d. y_taken s x y d (at + n + 1) few)
    ∙ comma_passed text (at + n + 1 + m) (with_y y (with_x x s)) (with_pair x y s)
    (stands_behind text (at + n + 1) m 44 comma) (comma_taken fs x0 x y v a (at + n + 1 + m) path)
    ∙ ap (λ k. answer_from text k (with_pair x y s)) (omega (arith, is))

-- the points so far, and one more
pub points_more : (text : List ℕ) (start at len : ℕ) (old s : State) (x y : ℤ) → IsAtPoint s
    → s.vertices < 1000000 → IsPair (drop at text) x y len → PointsAlong text start old at s
    → PointsAlong text start old (at + len) (with_pair x y s)
points_more text start at len old s x y stands few pair along =
    let n = pair.x_len in
    let is = pair.len_is in
    let inside = pair.comma.within in
    let further = along.further in
    record {
      further = omega arith;
      within = omega (arith, length-drop at text, length-drop (n + 1) (drop at text));
      same = along.same
          ∙ subst (λ p. answer_from text at (record s { now = p })
          ≡ answer_from text (at + len) (with_pair x y (record s { now = p }))) (sym stands.now)
          (pair_passed text at len s.frames s.x x y s.vertices s.parts stands.path few pair);
    }

-- the last point leads to the state before the `)` behind it
last_passed : (text : List ℕ) (at len : ℕ) (fs : List Frame) (x0 x y : ℤ) (v : ℕ) (a : PieceLists)
    → v < 1000000 → IsLast (drop at text) x y len
    → answer_from text at (before fs x0 v a)
    ≡ answer_from text (at + len) (with_y y (with_x x (before fs x0 v a)))
last_passed text at len fs x0 x y v a few last =
    let n = last.x_len in
    let m = last.y_len in
    let s = before fs x0 v a in
    let moved : drop (n + 1) (drop at text) ≡ drop (at + n + 1) text =
    drop-drop (n + 1) at text ∙ ap (λ k. drop k text) (omega arith) in
    let is = last.len_is in
    coordinate_passed text at n 32 x s (with_x x s) last.x_is last.space refl (λ d. x_taken s x d at refl)
    ∙ space_passed text (at + n) (with_x x s) (stands_behind text at n 32 last.space)
    ∙ coordinate_passed text (at + n + 1) m 41 y (with_x x s) (with_y y (with_x x s))
    (subst (λ bs. IsSpelt bs y m) moved last.y_is) (subst (λ bs. StandsAt bs m 41) moved last.close) refl
    (λ d. y_taken s x y d (at + n + 1) few)
    ∙ ap (λ k. answer_from text k (with_y y (with_x x s))) (omega (arith, is))

-- the points so far, and the last
pub points_last : (text : List ℕ) (start at len : ℕ) (old s : State) (x y : ℤ) → IsAtPoint s
    → s.vertices < 1000000 → IsLast (drop at text) x y len → PointsAlong text start old at s
    → PointsAlong text start old (at + len) (with_y y (with_x x s))
points_last text start at len old s x y stands few last along =
    let n = last.x_len in
    let is = last.len_is in
    let inside = last.close.within in
    let further = along.further in
    record {
      further = omega arith;
      within = omega (arith, length-drop at text, length-drop (n + 1) (drop at text));
      same = along.same
          ∙ subst (λ p. answer_from text at (record s { now = p })
          ≡ answer_from text (at + len) (with_y y (with_x x (record s { now = p })))) (sym stands.now)
          (last_passed text at len s.frames s.x x y s.vertices s.parts few last);
    }

-- where none was read, the way is as long as before
pub points_none : (text : List ℕ) (at next : ℕ) (s u : State) → Along text at s → PointsAlong text at s next u
    → next ≤ at → Along text at u
points_none text at next s u along points none =
    let further = points.further in
    let same : next ≡ at = omega arith in
    record {
      within = along.within;
      same = along.same ∙ points.same ∙ ap (λ k. answer_from text k u) same;
    }
