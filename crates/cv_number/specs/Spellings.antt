-- The grammar of decimals, and the value of each. A decimal is an optional sign and then either `nan`
-- or a mantissa and an optional exponent. The mantissa is digits, or digits and a point, or digits, a
-- point and digits, or a point and digits; the exponent is `e`, an optional sign, and digits.
-- Source: the decimals of `strtod` in ISO C (C17, 7.22.1.3), without white space in front, hexadecimals and
-- infinities.
use Rattle.std.specs.Prelude.{◌≡◌, ◌≢◌, ℕ, ◌+◌, ◌*◌, ◌^◌, Bool, true, false, nat_lt, if◌then◌else◌, pos}
use Rattle.std.specs.Prelude.{neg_ℤ, List, [], ◌∷◌, ◌++◌, map, length, fold, Option, Some, None}
use Rattle.cv_number.specs.Rounding.{rnd}
use Rattle.cv_reading.specs.Readings.{IsFirstWrong}
use Rattle.cv_number.specs.declared.mark.Mark.{Mark}
use Rattle.cv_number.specs.declared.mark.Mark.TheVariants.{Digit, Point, Plus, Minus, LetterE, LetterN}
use Rattle.cv_number.specs.declared.mark.Mark.TheVariants.{LetterA}
use Rattle.cv_number.specs.declared.fixed.Fixed.{Fixed}
use Rattle.cv_number.specs.declared.fixed.Fixed.TheVariants.{Value, High, Low, NotNumber}
use Rattle.cv_number.specs.Mark.{mark_of}

-- ---- the grammar

-- no sign, `+` or `-`
pub data Sign : Type 0 where
  NoSign : Sign
  PlusSign : Sign
  MinusSign : Sign

-- digits, the first apart since there is one at least, and perhaps a point and digits or none; or a point and
-- digits
pub data Mantissa : Type 0 where
  Digits : (d : ℕ) (ds : List ℕ) (rest : Option (List ℕ)) → Mantissa
  PointFirst : (d : ℕ) (ds : List ℕ) → Mantissa

-- no exponent, or `e`, an optional sign and digits, the first apart since there is one at least
pub data Exponent : Type 0 where
  NoExponent : Exponent
  TenTo : (s : Sign) (d : ℕ) (ds : List ℕ) → Exponent

-- what stands behind the sign: `nan`, or a mantissa and its exponent
pub data Body : Type 0 where
  NotANumber : Body
  Number : (m : Mantissa) (e : Exponent) → Body

-- ---- its spelling

-- the marks of a sign
abbrev pub sign_marks : Sign → List Mark
sign_marks NoSign = []
sign_marks PlusSign = Plus ∷ []
sign_marks MinusSign = Minus ∷ []

-- the marks of digits
abbrev pub digit_marks : List ℕ → List Mark
digit_marks ds = map Digit ds

-- the marks of a point and the digits behind it, where there is a point
abbrev pub fraction_marks : Option (List ℕ) → List Mark
fraction_marks None = []
fraction_marks (Some ds) = Point ∷ digit_marks ds

-- the marks of a mantissa
abbrev pub mantissa_marks : Mantissa → List Mark
mantissa_marks (Digits d ds rest) = Digit d ∷ digit_marks ds ++ fraction_marks rest
mantissa_marks (PointFirst d ds) = Point ∷ Digit d ∷ digit_marks ds

-- the marks of an exponent
abbrev pub exponent_marks : Exponent → List Mark
exponent_marks NoExponent = []
exponent_marks (TenTo s d ds) = LetterE ∷ (sign_marks s ++ Digit d ∷ digit_marks ds)

-- the marks of what stands behind the sign
abbrev pub body_marks : Body → List Mark
body_marks NotANumber = LetterN ∷ LetterA ∷ LetterN ∷ []
body_marks (Number m e) = mantissa_marks m ++ exponent_marks e

-- ---- its value

-- is a sign `-`
abbrev pub is_minus : Sign → Bool
is_minus NoSign = false
is_minus PlusSign = false
is_minus MinusSign = true

-- the number that n and then further digits spell
abbrev pub number_from : ℕ → List ℕ → ℕ
number_from n ds = fold (λ m d. 10 * m + d) n ds

-- all digits of a mantissa
abbrev pub all_digits : Mantissa → List ℕ
all_digits (Digits d ds None) = d ∷ ds
all_digits (Digits d ds (Some rest)) = (d ∷ ds) ++ rest
all_digits (PointFirst d ds) = d ∷ ds

-- and how many of them stand behind the point
abbrev pub places : Mantissa → ℕ
places (Digits d ds None) = 0
places (Digits d ds (Some rest)) = length rest
places (PointFirst d ds) = length (d ∷ ds)

-- the power of ten by which an exponent raises a number; 0 where it lowers it
abbrev pub raised : Exponent → ℕ
raised NoExponent = 0
raised (TenTo s d ds) = if is_minus s then 0 else number_from 0 (d ∷ ds)

-- and by which it lowers it
abbrev pub lowered : Exponent → ℕ
lowered NoExponent = 0
lowered (TenTo s d ds) = if is_minus s then number_from 0 (d ∷ ds) else 0

-- a number of millionths with a sign, up to 10^15; beyond them High or Low
abbrev pub fixed : Bool → ℕ → Fixed
fixed minus n =
    if nat_lt 1000000000000000 n then (if minus then Low else High)
    else Value (if minus then neg_ℤ (pos n) else pos n)

-- all digits as one number, times a power of ten, as millionths; a half is rounded away from zero
abbrev pub value : Sign → Body → Fixed
value s NotANumber = NotNumber
value s (Number m e) =
    fixed (is_minus s) (rnd (number_from 0 (all_digits m) * 10 ^ (6 + raised e))
    (10 ^ (places m + lowered e)))

-- a text is a spelling of the value
pub record Spells (text : List ℕ) (v : Fixed) : Type 0 where
  pub sign : Sign
  pub body : Body
  pub marks : map mark_of text ≡ sign_marks sign ++ body_marks body
  pub worth : v ≡ value sign body

-- there is a byte, the text is no spelling, and its longest front that begins one is `at` bytes long
abbrev pub IsBadByte : List ℕ → ℕ → Type 0
IsBadByte text at = (text ≢ []) × IsFirstWrong Spells text at
