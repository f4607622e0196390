-- What may still come behind each place of a decimal; and that the machine reads just that.
use Rattle.std.proofs.Common.{◌≡◌, ◌↔◌, ℕ, List, [], ◌∷◌, ◌++◌, map, Option, Some, None, option_map}
use Rattle.std.proofs.Common.{IsSomeAnd, refl, sym, ap, subst}
use Rattle.cv_reading.specs.Readings.{Reads}
use Rattle.cv_number.specs.declared.mark.Mark.{Mark}
use Rattle.cv_number.specs.declared.mark.Mark.TheVariants.{Digit, Point, Plus, Minus, LetterE, LetterN}
use Rattle.cv_number.specs.declared.mark.Mark.TheVariants.{LetterA}
use Rattle.cv_number.specs.declared.place.Place.{Place}
use Rattle.cv_number.specs.declared.place.Place.TheVariants.{Start, Signed, OneLetter, TwoLetters, Nan}
use Rattle.cv_number.specs.declared.place.Place.TheVariants.{Whole, Bare, Dotted, Marked, MarkedSigned}
use Rattle.cv_number.specs.declared.place.Place.TheVariants.{Powered}
use Rattle.cv_number.specs.declared.place.Role.{Role}
use Rattle.cv_number.specs.declared.place.Role.TheVariants.{Negative, WholeDigit, RestDigit, Lowering}
use Rattle.cv_number.specs.declared.place.Role.TheVariants.{PowerDigit}
use Rattle.cv_number.specs.declared.fixed.Fixed.{Fixed}
use Rattle.cv_number.specs.declared.fixed.Fixed.TheVariants.{NotNumber}
use Rattle.cv_number.specs.Mark.{mark_of}
use Rattle.cv_number.specs.Spellings.{Sign, NoSign, PlusSign, MinusSign, Mantissa, Digits, PointFirst}
use Rattle.cv_number.specs.Spellings.{Exponent, NoExponent, TenTo, Body, NotANumber, Number, sign_marks}
use Rattle.cv_number.specs.Spellings.{digit_marks, fraction_marks, exponent_marks, body_marks}
use Rattle.cv_number.specs.Reader.{At, Parts, with_role, worth, decimal_reader}
use Rattle.cv_number.specs.Place.{next_of, worth_at}

-- ---- the numbers behind a piece of a spelling

-- with digits before the point
abbrev pub with_whole : List ℕ → Parts → Parts
with_whole [] x = x
with_whole (d ∷ ds) x = with_whole ds (with_role (WholeDigit d) x)

-- with digits behind the point
abbrev pub with_rest : List ℕ → Parts → Parts
with_rest [] x = x
with_rest (d ∷ ds) x = with_rest ds (with_role (RestDigit d) x)

-- with digits of the exponent
abbrev pub with_power : List ℕ → Parts → Parts
with_power [] x = x
with_power (d ∷ ds) x = with_power ds (with_role (PowerDigit d) x)

-- with a sign
abbrev pub with_sign : Sign → Parts → Parts
with_sign NoSign x = x
with_sign PlusSign x = x
with_sign MinusSign x = with_role Negative x

-- with a point and digits, where there is a point
abbrev pub with_fraction : Option (List ℕ) → Parts → Parts
with_fraction None x = x
with_fraction (Some ds) x = with_rest ds x

-- with a mantissa
abbrev pub with_mantissa : Mantissa → Parts → Parts
with_mantissa (Digits d ds rest) x = with_fraction rest (with_whole (d ∷ ds) x)
with_mantissa (PointFirst d ds) x = with_rest (d ∷ ds) x

-- with the sign of an exponent
abbrev pub with_power_sign : Sign → Parts → Parts
with_power_sign NoSign x = x
with_power_sign PlusSign x = x
with_power_sign MinusSign x = with_role Lowering x

-- with an exponent
abbrev pub with_exponent : Exponent → Parts → Parts
with_exponent NoExponent x = x
with_exponent (TenTo s d ds) x = with_power (d ∷ ds) (with_power_sign s x)

-- what a text is worth that ends with this
abbrev pub body_worth : Body → Parts → Fixed
body_worth NotANumber x = NotNumber
body_worth (Number m e) x = worth (with_exponent e (with_mantissa m x))

-- ---- what may still come

-- marks that complete a spelling of the value behind the place, where the numbers so far are x
abbrev pub Comes : Place → Parts → List Mark → Fixed → Type 0
Comes Start x w v = (s : Sign) × (b : Body) × (w ≡ sign_marks s ++ body_marks b)
    × (v ≡ body_worth b (with_sign s x))
Comes Signed x w v = (b : Body) × (w ≡ body_marks b) × (v ≡ body_worth b x)
Comes OneLetter x w v = (w ≡ LetterA ∷ LetterN ∷ []) × (v ≡ NotNumber)
Comes TwoLetters x w v = (w ≡ LetterN ∷ []) × (v ≡ NotNumber)
Comes Nan x w v = (w ≡ []) × (v ≡ NotNumber)
Comes Whole x w v = (ds : List ℕ) × (rest : Option (List ℕ)) × (e : Exponent)
    × (w ≡ (digit_marks ds ++ fraction_marks rest) ++ exponent_marks e)
    × (v ≡ worth (with_exponent e (with_fraction rest (with_whole ds x))))
Comes Bare x w v = (d : ℕ) × (ds : List ℕ) × (e : Exponent)
    × (w ≡ Digit d ∷ digit_marks ds ++ exponent_marks e)
    × (v ≡ worth (with_exponent e (with_rest (d ∷ ds) x)))
Comes Dotted x w v = (ds : List ℕ) × (e : Exponent) × (w ≡ digit_marks ds ++ exponent_marks e)
    × (v ≡ worth (with_exponent e (with_rest ds x)))
Comes Marked x w v = (s : Sign) × (d : ℕ) × (ds : List ℕ) × (w ≡ sign_marks s ++ Digit d ∷ digit_marks ds)
    × (v ≡ worth (with_power (d ∷ ds) (with_power_sign s x)))
Comes MarkedSigned x w v =
    (d : ℕ) × (ds : List ℕ) × (w ≡ Digit d ∷ digit_marks ds) × (v ≡ worth (with_power (d ∷ ds) x))
Comes Powered x w v = (ds : List ℕ) × (w ≡ digit_marks ds) × (v ≡ worth (with_power ds x))

-- the same behind one mark more
abbrev pub ComesBehind : Place → Parts → Mark → List Mark → Fixed → Type 0
ComesBehind p x m w v = IsSomeAnd (next_of p m) (λ (r : Place × Role). Comes r.0 (with_role r.1 x) w v)

-- ---- one mark

-- what comes behind a mark that can stand, comes with it: a line for each row of the table
before : (p : Place) (x : Parts) (m : Mark) (w : List Mark) (v : Fixed) → ComesBehind p x m w v
    → Comes p x (m ∷ w) v
before Start x Plus w v (b, e, h) = (PlusSign, b, ap (λ u. Plus ∷ u) e, h)
before Start x Minus w v (b, e, h) = (MinusSign, b, ap (λ u. Minus ∷ u) e, h)
before Start x (Digit d) w v (ds, rest, k, e, h) =
    (NoSign, Number (Digits d ds rest) k, ap (λ u. Digit d ∷ u) e, h)
before Start x Point w v (d, ds, k, e, h) = (NoSign, Number (PointFirst d ds) k, ap (λ u. Point ∷ u) e, h)
before Start x LetterN w v (e, h) = (NoSign, NotANumber, ap (λ u. LetterN ∷ u) e, h)
before Signed x (Digit d) w v (ds, rest, k, e, h) = (Number (Digits d ds rest) k, ap (λ u. Digit d ∷ u) e, h)
before Signed x Point w v (d, ds, k, e, h) = (Number (PointFirst d ds) k, ap (λ u. Point ∷ u) e, h)
before Signed x LetterN w v (e, h) = (NotANumber, ap (λ u. LetterN ∷ u) e, h)
before OneLetter x LetterA w v (e, h) = (ap (λ u. LetterA ∷ u) e, h)
before TwoLetters x LetterN w v (e, h) = (ap (λ u. LetterN ∷ u) e, h)
before Whole x (Digit d) w v (ds, rest, k, e, h) = (d ∷ ds, rest, k, ap (λ u. Digit d ∷ u) e, h)
before Whole x Point w v (ds, k, e, h) = ([], Some ds, k, ap (λ u. Point ∷ u) e, h)
before Whole x LetterE w v (s, d, ds, e, h) = ([], None, TenTo s d ds, ap (λ u. LetterE ∷ u) e, h)
before Bare x (Digit d) w v (ds, k, e, h) = (d, ds, k, ap (λ u. Digit d ∷ u) e, h)
before Dotted x (Digit d) w v (ds, k, e, h) = (d ∷ ds, k, ap (λ u. Digit d ∷ u) e, h)
before Dotted x LetterE w v (s, d, ds, e, h) = ([], TenTo s d ds, ap (λ u. LetterE ∷ u) e, h)
before Marked x Plus w v (d, ds, e, h) = (PlusSign, d, ds, ap (λ u. Plus ∷ u) e, h)
before Marked x Minus w v (d, ds, e, h) = (MinusSign, d, ds, ap (λ u. Minus ∷ u) e, h)
before Marked x (Digit d) w v (ds, e, h) = (NoSign, d, ds, ap (λ u. Digit d ∷ u) e, h)
before MarkedSigned x (Digit d) w v (ds, e, h) = (d, ds, ap (λ u. Digit d ∷ u) e, h)
before Powered x (Digit d) w v (ds, e, h) = (d ∷ ds, ap (λ u. Digit d ∷ u) e, h)
before p x m w v h = absurd h

-- the marks begin with n
at_mark : (p : Place) (x : Parts) (m n : Mark) (w u : List Mark) (v : Fixed) → m ∷ w ≡ n ∷ u
    → ComesBehind p x n u v → ComesBehind p x m w v
at_mark p x m n w u v e h =
    let head : n ≡ m = cc in
    let tail : u ≡ w = cc in
    subst (λ a. ComesBehind p x a w v) head (subst (λ b. ComesBehind p x n b v) tail h)

-- and what comes with a mark comes behind it, so that it can stand: a line for each shape of what comes
behind : (p : Place) (x : Parts) (m : Mark) (w : List Mark) (v : Fixed) → Comes p x (m ∷ w) v
    → ComesBehind p x m w v
behind Start x m w v (PlusSign, b, e, h) = at_mark Start x m Plus w _ v e (b, refl, h)
behind Start x m w v (MinusSign, b, e, h) = at_mark Start x m Minus w _ v e (b, refl, h)
behind Start x m w v (NoSign, Number (Digits d ds rest) k, e, h) =
    at_mark Start x m (Digit d) w _ v e (ds, rest, k, refl, h)
behind Start x m w v (NoSign, Number (PointFirst d ds) k, e, h) =
    at_mark Start x m Point w _ v e (d, ds, k, refl, h)
behind Start x m w v (NoSign, NotANumber, e, h) = at_mark Start x m LetterN w _ v e (refl, h)
behind Signed x m w v (Number (Digits d ds rest) k, e, h) =
    at_mark Signed x m (Digit d) w _ v e (ds, rest, k, refl, h)
behind Signed x m w v (Number (PointFirst d ds) k, e, h) =
    at_mark Signed x m Point w _ v e (d, ds, k, refl, h)
behind Signed x m w v (NotANumber, e, h) = at_mark Signed x m LetterN w _ v e (refl, h)
behind OneLetter x m w v (e, h) = at_mark OneLetter x m LetterA w _ v e (refl, h)
behind TwoLetters x m w v (e, h) = at_mark TwoLetters x m LetterN w _ v e (refl, h)
behind Nan x m w v (e, h) = absurd (cc)
behind Whole x m w v (d ∷ ds, rest, k, e, h) = at_mark Whole x m (Digit d) w _ v e (ds, rest, k, refl, h)
behind Whole x m w v ([], Some ds, k, e, h) = at_mark Whole x m Point w _ v e (ds, k, refl, h)
behind Whole x m w v ([], None, TenTo s d ds, e, h) = at_mark Whole x m LetterE w _ v e (s, d, ds, refl, h)
behind Whole x m w v ([], None, NoExponent, e, h) = absurd (cc)
behind Bare x m w v (d, ds, k, e, h) = at_mark Bare x m (Digit d) w _ v e (ds, k, refl, h)
behind Dotted x m w v (d ∷ ds, k, e, h) = at_mark Dotted x m (Digit d) w _ v e (ds, k, refl, h)
behind Dotted x m w v ([], TenTo s d ds, e, h) = at_mark Dotted x m LetterE w _ v e (s, d, ds, refl, h)
behind Dotted x m w v ([], NoExponent, e, h) = absurd (cc)
behind Marked x m w v (NoSign, d, ds, e, h) = at_mark Marked x m (Digit d) w _ v e (ds, refl, h)
behind Marked x m w v (PlusSign, d, ds, e, h) = at_mark Marked x m Plus w _ v e (d, ds, refl, h)
behind Marked x m w v (MinusSign, d, ds, e, h) = at_mark Marked x m Minus w _ v e (d, ds, refl, h)
behind MarkedSigned x m w v (d, ds, e, h) = at_mark MarkedSigned x m (Digit d) w _ v e (ds, refl, h)
behind Powered x m w v (d ∷ ds, e, h) = at_mark Powered x m (Digit d) w _ v e (ds, refl, h)
behind Powered x m w v ([], e, h) = absurd (cc)

-- ---- the end

-- where nothing more comes, the text may end here, with that value
at_end : (p : Place) (x : Parts) (v : Fixed) → Comes p x [] v → worth_at p (worth x) ≡ Some v
at_end Start x v (PlusSign, b, e, h) = absurd (cc)
at_end Start x v (MinusSign, b, e, h) = absurd (cc)
at_end Start x v (NoSign, Number (Digits d ds rest) k, e, h) = absurd (cc)
at_end Start x v (NoSign, Number (PointFirst d ds) k, e, h) = absurd (cc)
at_end Start x v (NoSign, NotANumber, e, h) = absurd (cc)
at_end Signed x v (Number (Digits d ds rest) k, e, h) = absurd (cc)
at_end Signed x v (Number (PointFirst d ds) k, e, h) = absurd (cc)
at_end Signed x v (NotANumber, e, h) = absurd (cc)
at_end OneLetter x v (e, h) = absurd (cc)
at_end TwoLetters x v (e, h) = absurd (cc)
at_end Nan x v (e, h) = ap Some (sym h)
at_end Whole x v ([], None, NoExponent, e, h) = ap Some (sym h)
at_end Whole x v ([], None, TenTo s d ds, e, h) = absurd (cc)
at_end Whole x v ([], Some ds, k, e, h) = absurd (cc)
at_end Whole x v (d ∷ ds, rest, k, e, h) = absurd (cc)
at_end Bare x v (d, ds, k, e, h) = absurd (cc)
at_end Dotted x v ([], NoExponent, e, h) = ap Some (sym h)
at_end Dotted x v ([], TenTo s d ds, e, h) = absurd (cc)
at_end Dotted x v (d ∷ ds, k, e, h) = absurd (cc)
at_end Marked x v (NoSign, d, ds, e, h) = absurd (cc)
at_end Marked x v (PlusSign, d, ds, e, h) = absurd (cc)
at_end Marked x v (MinusSign, d, ds, e, h) = absurd (cc)
at_end MarkedSigned x v (d, ds, e, h) = absurd (cc)
at_end Powered x v ([], e, h) = ap Some (sym h)
at_end Powered x v (d ∷ ds, e, h) = absurd (cc)

-- and where it may end, nothing need come
from_end : (p : Place) (x : Parts) (v : Fixed) → worth_at p (worth x) ≡ Some v → Comes p x [] v
from_end Nan x v e = (refl, cc)
from_end Whole x v e = ([], None, NoExponent, refl, cc)
from_end Dotted x v e = ([], NoExponent, refl, cc)
from_end Powered x v e = ([], refl, cc)
from_end p x v e = absurd (cc)

-- ---- every place can be left: by `0`, or by the rest of `nan`

live : (p : Place) (x : Parts) → (w : List ℕ) × (v : Fixed) × Comes p x (map mark_of w) v
live Start x = (48 ∷ [], _, (NoSign, Number (Digits 0 [] None) NoExponent, refl, refl))
live Signed x = (48 ∷ [], _, (Number (Digits 0 [] None) NoExponent, refl, refl))
live OneLetter x = (97 ∷ 110 ∷ [], NotNumber, (refl, refl))
live TwoLetters x = (110 ∷ [], NotNumber, (refl, refl))
live Nan x = ([], NotNumber, (refl, refl))
live Whole x = ([], _, ([], None, NoExponent, refl, refl))
live Bare x = (48 ∷ [], _, (0, [], NoExponent, refl, refl))
live Dotted x = ([], _, ([], NoExponent, refl, refl))
live Marked x = (48 ∷ [], _, (NoSign, 0, [], refl, refl))
live MarkedSigned x = (48 ∷ [], _, (0, [], refl, refl))
live Powered x = ([], _, ([], refl, refl))

-- ---- the machine reads what may come

-- bytes that complete a text of the value behind a state
abbrev pub Rest : At Parts → List ℕ → Fixed → Type 0
Rest s w v = Comes s.place s.parts (map mark_of w) v

-- a step as a row of the table; o is the row
through : (p : Place) (x : Parts) (o : Option (Place × Role)) (w : List Mark) (v : Fixed)
    → IsSomeAnd o (λ (r : Place × Role). Comes r.0 (with_role r.1 x) w v)
    ↔ IsSomeAnd (option_map (λ (r : Place × Role). (record { place = r.0; parts = with_role r.1 x })) o)
    (λ (t : At Parts). Comes t.place t.parts w v)
through p x None w v = (λ h. h, λ h. h)
through p x (Some r) w v = (λ h. h, λ h. h)

-- the machine reads just that
pub reads : Reads decimal_reader Rest
reads = record {
  step = λ s a w v.
      let row = through s.place s.parts (next_of s.place (mark_of a)) (map mark_of w) v in (
        λ h. row.0 (behind s.place s.parts (mark_of a) (map mark_of w) v h),
        λ h. before s.place s.parts (mark_of a) (map mark_of w) v (row.1 h),
      );
  ends = λ s v. (at_end s.place s.parts v, from_end s.place s.parts v);
  live = λ s. live s.place s.parts;
}
