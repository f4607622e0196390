-- The numbers that the machine reads are those of the grammar's value.
use Rattle.std.proofs.Common.{◌≡◌, ◌↔◌, ℕ, ◌+◌, ◌*◌, ◌^◌, Bool, false, List, [], ◌∷◌, length, map, Option}
use Rattle.std.proofs.Common.{Some, None, refl, sym, ap, subst, ◌∙◌, arith}
use Rattle.std.proofs.lemmas.List.Sums.{fold-append}
use Rattle.cv_number.specs.Rounding.{rnd}
use Rattle.cv_reading.specs.Machines.{run}
use Rattle.cv_reading.specs.Readings.{IsReading}
use Rattle.cv_reading.proofs.ReadingLemmas.{is_reading, same_reading, value_spelt}
use Rattle.cv_number.specs.declared.place.Place.TheVariants.{Start}
use Rattle.cv_number.specs.declared.place.Role.TheVariants.{WholeDigit, RestDigit, PowerDigit}
use Rattle.cv_number.specs.declared.fixed.Fixed.{Fixed}
use Rattle.cv_number.specs.Mark.{mark_of}
use Rattle.cv_number.specs.Spellings.{Sign, NoSign, PlusSign, MinusSign, Mantissa, Digits, PointFirst}
use Rattle.cv_number.specs.Spellings.{Exponent, NoExponent, TenTo, Body, NotANumber, Number, number_from}
use Rattle.cv_number.specs.Spellings.{all_digits, places, raised, lowered, is_minus, fixed, value, Spells}
use Rattle.cv_number.specs.Spellings.{}
use Rattle.cv_decimal.specs.Ranges.{IsInRange}
use Rattle.cv_number.specs.Reader.{Parts, with_role, worth, nothing_read, decimal_reader, decimal_of}
use Rattle.cv_decimal.proofs.ComingLemmas.{with_whole, with_rest, with_power, with_sign, with_mantissa}
use Rattle.cv_decimal.proofs.ComingLemmas.{with_power_sign, with_exponent, body_worth, Comes, Rest, reads}
use Rattle.cv_decimal.proofs.NumberLemmas.{fixed_in}

-- ---- digits

with_whole_is : (ds : List ℕ) (x : Parts) → with_whole ds x ≡ record x { number = number_from x.number ds }
with_whole_is [] x = refl
with_whole_is (d ∷ ds) x = with_whole_is ds (with_role (WholeDigit d) x)

with_rest_is : (ds : List ℕ) (x : Parts)
    → with_rest ds x ≡ record x { number = number_from x.number ds; places = x.places + length ds }
with_rest_is [] x = ap (λ p. record x { places = p }) (omega arith)
with_rest_is (d ∷ ds) x =
    with_rest_is ds (with_role (RestDigit d) x)
    ∙ ap (λ p. record x { number = number_from (10 * x.number + d) ds; places = p }) (omega arith)

with_power_is : (ds : List ℕ) (x : Parts) → with_power ds x ≡ record x { power = number_from x.power ds }
with_power_is [] x = refl
with_power_is (d ∷ ds) x = with_power_is ds (with_role (PowerDigit d) x)

-- ---- a mantissa, and an exponent behind it

with_mantissa_is : (m : Mantissa) (x : Parts)
    → with_mantissa m x ≡ record x
    { number = number_from x.number (all_digits m); places = x.places + places m }
with_mantissa_is (Digits d ds None) x =
    with_whole_is (d ∷ ds) x
    ∙ ap (λ p. record x { number = number_from x.number (d ∷ ds); places = p }) (omega arith)
with_mantissa_is (Digits d ds (Some rest)) x =
    with_rest_is rest (with_whole (d ∷ ds) x)
    ∙ ap (λ (y : Parts). record y { number = number_from y.number rest; places = y.places + length rest })
    (with_whole_is (d ∷ ds) x)
    ∙ ap (λ n. record x { number = n; places = x.places + length rest })
    (sym (fold-append (λ m k. 10 * m + k) x.number (d ∷ ds) rest))
with_mantissa_is (PointFirst d ds) x = with_rest_is (d ∷ ds) x

-- the numbers of a text before its exponent
abbrev before_exponent : Bool → ℕ → ℕ → Parts
before_exponent minus n p = record { negative = minus; number = n; places = p; lowers = false; power = 0 }

exponent_worth : (e : Exponent) (minus : Bool) (n p : ℕ)
    → worth (with_exponent e (before_exponent minus n p))
    ≡ fixed minus (rnd (n * 10 ^ (6 + raised e)) (10 ^ (p + lowered e)))
exponent_worth NoExponent minus n p = refl
exponent_worth (TenTo NoSign d ds) minus n p = ap worth (with_power_is (d ∷ ds) (before_exponent minus n p))
exponent_worth (TenTo PlusSign d ds) minus n p = ap worth (with_power_is (d ∷ ds) (before_exponent minus n p))
exponent_worth (TenTo MinusSign d ds) minus n p =
    ap worth (with_power_is (d ∷ ds) (with_power_sign MinusSign (before_exponent minus n p)))

sign_is : (s : Sign) → with_sign s nothing_read ≡ before_exponent (is_minus s) 0 0
sign_is NoSign = refl
sign_is PlusSign = refl
sign_is MinusSign = refl

value_is : (s : Sign) (b : Body) → body_worth b (with_sign s nothing_read) ≡ value s b
value_is s NotANumber = refl
value_is s (Number m e) =
    ap (λ x. worth (with_exponent e (with_mantissa m x))) (sign_is s)
    ∙ ap (λ x. worth (with_exponent e x)) (with_mantissa_is m (before_exponent (is_minus s) 0 0))
    ∙ exponent_worth e (is_minus s) (number_from 0 (all_digits m)) (0 + places m)
    ∙ ap (λ p. fixed (is_minus s)
    (rnd (number_from 0 (all_digits m) * 10 ^ (6 + raised e)) (10 ^ (p + lowered e)))) (omega arith)

-- ---- the machine reads the grammar

-- what may come at the start is a spelling
spelt : (text : List ℕ) (v : Fixed) → Comes Start nothing_read (map mark_of text) v ↔ Spells text v
spelt text v = (
  λ (s, b, e, h). record { sign = s; body = b; marks = e; worth = h ∙ value_is s b },
  λ t. (t.sign, t.body, t.marks, t.worth ∙ sym (value_is t.sign t.body)),
)

-- the machine's answer is the value of the text, or its first wrong place
pub decimal_reads : (text : List ℕ)
    → IsReading Spells text (run decimal_reader text (record { place = Start; parts = nothing_read }))
decimal_reads text =
    same_reading (Rest (record { place = Start; parts = nothing_read })) Spells text _ spelt
    (is_reading decimal_reader Rest reads text (record { place = Start; parts = nothing_read }))

-- the function and the relation say the same
pub decimal_of_spelt : (text : List ℕ) (v : Fixed) → (decimal_of text ≡ Some v) ↔ Spells text v
unfolding decimal_of
decimal_of_spelt text v = value_spelt Spells text _ (decimal_reads text) v

-- it has none just where the text spells none
pub decimal_of_none : (text : List ℕ) → (decimal_of text ≡ None) ↔ ((v : Fixed) → Spells text v → ⊥)
decimal_of_none text = (
  λ e v h. let clash : None ≡ Some v = sym e ∙ (decimal_of_spelt text v).1 h in cc,
  λ h. no_value (decimal_of text) (λ v e. h v ((decimal_of_spelt text v).0 e)),
)
  where
    no_value : (o : Option Fixed) → ((v : Fixed) → o ≡ Some v → ⊥) → o ≡ None
    no_value None h = refl
    no_value (Some v) h = absurd (h v refl)

-- a value is a coordinate
value_in : (s : Sign) (b : Body) → IsInRange (value s b)
value_in s NotANumber = tt
value_in s (Number m e) = fixed_in (is_minus s) _

-- and so is one that is spelt
pub spelt_in : (text : List ℕ) (v : Fixed) → Spells text v → IsInRange v
spelt_in text v t = subst IsInRange (sym t.worth) (value_in t.sign t.body)
