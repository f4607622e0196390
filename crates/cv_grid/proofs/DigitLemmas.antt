-- Short runs of digits: the number that they write is the decimal's value.
use Rattle.std.proofs.Common.{◌≡◌, ℕ, ℤ, zero, suc, length-take-le, ◌+◌, ◌-◌, ◌*◌, ◌<◌, ◌≤◌, Bool, true}
use Rattle.std.proofs.Common.{false, ◌&&◌, nat_lt, if◌then◌else◌, List, [], ◌∷◌, ◌++◌, map, length, take}
use Rattle.std.proofs.Common.{get_or, Some, None, pos, refl, sym, ap, ◌∙◌, arith, append-nil}
use Rattle.std.proofs.lemmas.Bool.{ne_eqb}
use Rattle.std.proofs.lemmas.Bool.Decides.{nat_tests}
use Rattle.std.specs.Char.{is_ascii_digit}
use Rattle.std.specs.List.{list_all, fold}
use Rattle.cv_number.specs.Rounding.{rnd}
use Rattle.cv_number.specs.declared.mark.Mark.TheVariants.{Digit}
use Rattle.cv_number.specs.declared.fixed.Fixed.TheVariants.{Value, High}
use Rattle.cv_number.specs.Mark.{mark_of, is_digit}
use Rattle.cv_number.specs.Spellings.{NoSign, Digits, NoExponent, Number, digit_marks, number_from, fixed}
use Rattle.cv_number.specs.Spellings.{Spells}
use Rattle.cv_number.specs.Reader.{decimal_of}
use Rattle.cv_decimal.proofs.ValueLemmas.{decimal_of_spelt}
use Rattle.cv_reading.specs.Space.{is_space}
use Rattle.cv_grid.specs.Scanning.{front_len, IsFront, AreDigits}
use Rattle.cv_grid.proofs.ScanLemmas.{len_by}
use Rattle.cv_grid.specs.Words.{number_of}

-- of two tests both hold
both : (a b : Bool) → (a && b) ≡ true → (a ≡ true) × (b ≡ true)
both true b e = (refl, e)
both false b e = absurd (cc)

-- the digits of some bytes
abbrev pub digits_of : List ℕ → List ℕ
digits_of bytes = map (λ b. b - 48) bytes

-- a digit's mark
digit_mark : (b : ℕ) → is_ascii_digit b ≡ true → mark_of b ≡ Digit (b - 48)
digit_mark b e = let digit : is_digit b ≡ true = e in rw digit refl

-- the marks of digits
marks_are : (bytes : List ℕ) → list_all is_ascii_digit bytes ≡ true
    → map mark_of bytes ≡ digit_marks (digits_of bytes)
marks_are [] e = refl
marks_are (b ∷ bs) e =
    let parts = both (is_ascii_digit b) (list_all is_ascii_digit bs) e in
    ap (λ m. m ∷ map mark_of bs) (digit_mark b parts.0)
    ∙ ap (λ ms. Digit (b - 48) ∷ ms) (marks_are bs parts.1)

-- the number of digits, as the grammar of decimals has it
number_is : (bytes : List ℕ) (n : ℕ)
    → fold (λ m b. 10 * m + (b - 48)) n bytes ≡ number_from n (digits_of bytes)
number_is [] n = refl
number_is (b ∷ bs) n = number_is bs (10 * n + (b - 48))

-- a whole number has this many millionths
whole_millionths : (n : ℕ) → n < 1000000000 → Value (pos (1000000 * n)) ≡ fixed false (rnd (n * 1000000) 1)
whole_millionths n small =
    let whole : rnd (n * 1000000) 1 ≡ 1000000 * n = omega arith in
    let fits : nat_lt 1000000000000000 (1000000 * n) ≡ false = grind (arith, nat_tests) in
    sym (ap (fixed false) whole ∙ ap (λ (t : Bool). if t then High else Value (pos (1000000 * n))) fits)

-- up to nine digits are a decimal, and a whole number
pub digits_spell : (bytes : List ℕ) (n : ℕ) → 0 < length bytes → list_all is_ascii_digit bytes ≡ true
    → n ≡ number_of bytes → n < 1000000000
    → decimal_of bytes ≡ Some (Value (pos (1000000 * n)))
digits_spell [] n some e is small = absurd (omega arith)
digits_spell (b ∷ bs) n some e is small =
    let spelling : Spells (b ∷ bs) (Value (pos (1000000 * n))) = record {
      sign = NoSign;
      body = Number (Digits (b - 48) (digits_of bs) None) NoExponent;
      marks = marks_are (b ∷ bs) e ∙ sym (append-nil (digit_marks (digits_of (b ∷ bs))))
          ∙ sym (append-nil (digit_marks (digits_of (b ∷ bs)) ++ []));
      worth = whole_millionths n small
          ∙ ap (λ m. fixed false (rnd (m * 1000000) 1)) (is ∙ number_is (b ∷ bs) 0);
    } in
    (decimal_of_spelt (b ∷ bs) (Value (pos (1000000 * n)))).1 spelling

-- ---- the token that they are

-- a digit is at least 0
at_least : (b : ℕ) → is_ascii_digit b ≡ true → 48 ≤ b
at_least b e = grind (arith, nat_tests)

-- a digit is no white space
not_space : (b : ℕ) → 48 ≤ b → is_space b ≡ false
not_space b h =
    let space = ne_eqb b 32 (λ e. omega arith) in
    let tab = ne_eqb b 9 (λ e. omega arith) in
    let back = ne_eqb b 13 (λ e. omega arith) in
    let feed = ne_eqb b 10 (λ e. omega arith) in
    rw (space, tab, back, feed) refl

-- digits up to white space or the end are the whole token
front_len_is : (bytes : List ℕ) (n : ℕ) → n ≤ length bytes → list_all is_ascii_digit (take n bytes) ≡ true
    → (n < length bytes → is_space (get_or bytes n 0) ≡ true) → front_len bytes ≡ n
front_len_is [] zero within e ends = refl
front_len_is [] (suc n) within e ends = absurd (omega arith)
front_len_is (b ∷ bs) zero within e ends = len_by b bs true (ends (omega arith))
front_len_is (b ∷ bs) (suc n) within e ends =
    let parts = both (is_ascii_digit b) (list_all is_ascii_digit (take n bs)) e in
    len_by b bs false (not_space b (at_least b parts.0))
    ∙ ap suc (front_len_is bs n (omega arith) parts.1 (λ h. ends (omega arith)))

-- so they are the decimal at the front
pub digits_front : (bytes : List ℕ) (number len : ℕ) (z : ℤ) → AreDigits bytes number len → (len ≡ 0 → ⊥)
    → (len < length bytes → is_space (get_or bytes len 0) ≡ true) → z ≡ pos (1000000 * number)
    → IsFront bytes (record { value = Value z; len = len })
digits_front bytes number len z digits some ends is = record {
  len = sym (front_len_is bytes len digits.within digits.digits ends);
  within = digits.within;
  value =
      let fits = digits.within in
      digits_spell (take len bytes) number (omega (arith, length-take-le len bytes digits.within))
      digits.digits digits.value digits.small
      ∙ ap (λ u. Some (Value u)) (sym is);
}
