-- Short decimals: the number that they write is the decimal's value.
use Rattle.std.proofs.Common.{◌≡◌, ℕ, suc, ◌+◌, ◌-◌, ◌*◌, ◌^◌, ◌<◌, ◌≤◌, Bool, true, false, ◌&&◌}
use Rattle.std.proofs.Common.{if◌then◌else◌, List, [], ◌∷◌, ◌++◌, map, length, take, drop, get_or, Some, None}
use Rattle.std.proofs.Common.{pos, neg_ℤ, refl, sym, ap, subst, ◌∙◌, arith, append-nil, length-take-le}
use Rattle.std.proofs.Common.{length-drop}
use Rattle.std.proofs.Math.Nat.{pow-le-pow_right, pow-succ', mul-le-mul_right}
use Rattle.std.proofs.Math.Seq.{take-add, drop-cons}
use Rattle.std.proofs.lemmas.Nat.{pow-add}
use Rattle.std.proofs.lemmas.List.{take_more, map-append, length-map}
use Rattle.std.proofs.lemmas.List.Folds.{list_all_more, list_all-append}
use Rattle.std.proofs.lemmas.List.Sums.{fold-append}
use Rattle.std.proofs.lemmas.Bool.{ne_eqb}
use Rattle.std.proofs.lemmas.Bool.Decides.{nat_tests}
use Rattle.std.specs.Char.{is_ascii_digit}
use Rattle.std.specs.List.{list_all, fold}
use Rattle.cv_reading.specs.Space.{is_space}
use Rattle.cv_reading.specs.Tokens.{is_word}
use Rattle.cv_number.specs.Rounding.{rnd}
use Rattle.cv_number.specs.declared.mark.Mark.TheVariants.{Digit, Point}
use Rattle.cv_number.specs.declared.fixed.Fixed.TheVariants.{Value}
use Rattle.cv_number.specs.Mark.{mark_of}
use Rattle.cv_number.specs.Spellings.{Sign, NoSign, MinusSign, Mantissa, Digits, NoExponent, Number}
use Rattle.cv_number.specs.Spellings.{sign_marks, digit_marks, mantissa_marks, is_minus, number_from, all_digits, places}
use Rattle.cv_number.specs.Spellings.{fixed, Spells}
use Rattle.cv_number.specs.Reader.{decimal_of}
use Rattle.cv_decimal.proofs.DigitLemmas.{mark_is}
use Rattle.cv_decimal.proofs.NumberLemmas.{rnd_whole, ten_pos, fixed_fits}
use Rattle.cv_decimal.proofs.ValueLemmas.{decimal_of_spelt}
use Rattle.cv_wkt.specs.Kind.{is_sign, byte_kind}
use Rattle.cv_wkt.specs.Short.{AreDigits, IsSize, StandsAt}

-- a digit is at most 9
at_most : (b : ℕ) → is_ascii_digit b ≡ true → b - 48 ≤ 9
at_most b e = grind (arith, nat_tests)

-- ---- digits at the front

-- the number of bytes behind another
abbrev number_behind : ℕ → List ℕ → ℕ
number_behind from bytes = fold (λ n b. 10 * n + (b - 48)) from bytes

-- one more digit
pub digits_more : (bytes : List ℕ) (from number at d : ℕ) → AreDigits bytes from number at
    → at < length bytes → is_ascii_digit (get_or bytes at 0) ≡ true → d ≡ get_or bytes at 0 - 48
    → AreDigits bytes from (10 * number + d) (at + 1)
digits_more bytes from number at d are h digit is = record {
  within = omega arith;
  digits = list_all_more is_ascii_digit bytes at 0 h ∙ rw (are.digits, digit) refl;
  value = ap (λ e. 10 * number + e) is
      ∙ ap (λ n. 10 * n + (get_or bytes at 0 - 48)) are.value
      ∙ sym (fold-append (λ n b. 10 * n + (b - 48)) from (take at bytes) (get_or bytes at 0 ∷ []))
      ∙ ap (number_behind from) (sym (take_more bytes at 0 h));
  small = λ k lower.
      let before = are.small k lower in
      let one : k + (at + 1) ≡ suc (k + at) = omega arith in
      let next = ap (λ n. 10 ^ n) one ∙ pow-succ' 10 (k + at) in
      let few = at_most (get_or bytes at 0) digit in
      omega (arith, next, few);
}

-- no digit
pub digits_none : (bytes : List ℕ) (from : ℕ) → AreDigits bytes from from 0
digits_none bytes from = record {
  within = omega arith;
  digits = refl;
  value = refl;
  small = λ k lower. let same : k + 0 ≡ k = omega arith in subst (λ n. from < 10 ^ n) (sym same) lower;
}

-- they fit
pub digits_fit : (bytes : List ℕ) (from number at : ℕ) → AreDigits bytes from number at → from < 1000000000
    → at < 9 → number < 100000000000000000
digits_fit bytes from number at are lower few =
    let most = pow-le-pow_right {n = 10} (omega arith) {i = 9 + at} {j = 17} (omega arith) in
    let fits = are.small 9 lower in
    omega (arith, most, fits)

-- ---- millionths

-- a number of so many places stays within the limit
pub raised_small : (number places u : ℕ) → places ≤ 6 → number < 10 ^ (9 + places) → u ≡ 10 ^ (6 - places)
    → number * u ≤ 1000000000000000
raised_small number places u few small is =
    let whole : (9 + places) + (6 - places) ≡ 15 = omega arith in
    let all = sym (pow-add 10 (9 + places) (6 - places)) ∙ ap (λ n. 10 ^ n) whole in
    let less = mul-le-mul_right {m = number} {n = 10 ^ (9 + places)} u (omega arith) in
    let product = ap (λ n. 10 ^ (9 + places) * n) is in
    omega (arith, all, less, product)

-- ---- what they spell

-- the digits of some bytes
abbrev pub digits_of : List ℕ → List ℕ
digits_of bytes = map (λ b. b - 48) bytes

-- of two tests both hold
pub both : (a b : Bool) → (a && b) ≡ true → (a ≡ true) × (b ≡ true)
both true b e = (refl, e)
both false b e = absurd (cc)

-- the marks of digits
marks_are : (bytes : List ℕ) → list_all is_ascii_digit bytes ≡ true
    → map mark_of bytes ≡ digit_marks (digits_of bytes)
marks_are [] e = refl
marks_are (b ∷ bs) e =
    let parts = both (is_ascii_digit b) (list_all is_ascii_digit bs) e in
    ap (λ m. m ∷ map mark_of bs) (mark_is b parts.0)
    ∙ ap (λ ms. Digit (b - 48) ∷ ms) (marks_are bs parts.1)

-- their number, as the grammar of decimals has it
number_is : (bytes : List ℕ) (n : ℕ) → number_behind n bytes ≡ number_from n (digits_of bytes)
number_is [] n = refl
number_is (b ∷ bs) n = number_is bs (10 * n + (b - 48))

-- bytes that write a mantissa of these digits, so many of them behind the point
pub record Writes (bytes digits : List ℕ) (after : ℕ) : Type 0 where
  pub mantissa : Mantissa
  pub marks : map mark_of bytes ≡ mantissa_marks mantissa
  pub all : all_digits mantissa ≡ digits
  pub places : places mantissa ≡ after

-- digits alone
whole_writes : (w : List ℕ) → 0 < length w → list_all is_ascii_digit w ≡ true → Writes w (digits_of w) 0
whole_writes [] some e = absurd (omega arith)
whole_writes (b ∷ bs) some e = record {
  mantissa = Digits (b - 48) (digits_of bs) None;
  marks = marks_are (b ∷ bs) e ∙ sym (append-nil (digit_marks (digits_of (b ∷ bs))));
  all = refl;
  places = refl;
}

-- digits, a point, and digits or none
pointed_writes : (w v : List ℕ) → 0 < length w → list_all is_ascii_digit w ≡ true
    → list_all is_ascii_digit v ≡ true → Writes (w ++ 46 ∷ v) (digits_of w ++ digits_of v) (length v)
pointed_writes [] v some e f = absurd (omega arith)
pointed_writes (b ∷ bs) v some e f = record {
  mantissa = Digits (b - 48) (digits_of bs) (Some (digits_of v));
  marks = map-append mark_of (b ∷ bs) (46 ∷ v)
      ∙ ap (λ ms. ms ++ Point ∷ map mark_of v) (marks_are (b ∷ bs) e)
      ∙ ap (λ ms. digit_marks (digits_of (b ∷ bs)) ++ Point ∷ ms) (marks_are v f);
  all = refl;
  places = length-map v (λ b. b - 48);
}

-- the decimal that a sign and a mantissa spell
spelt_as : (s : Sign) (lead w ds : List ℕ) (p m : ℕ) → map mark_of lead ≡ sign_marks s → Writes w ds p
    → rnd (number_from 0 ds * 1000000) (10 ^ p) ≡ m → m ≤ 1000000000000000
    → decimal_of (lead ++ w) ≡ Some (Value (if is_minus s then neg_ℤ (pos m) else pos m))
spelt_as s lead w ds p m front writes worth small =
    let z = if is_minus s then neg_ℤ (pos m) else pos m in
    let n = writes.mantissa in
    let none : places n ≡ places n + 0 = omega arith in
    let spelling : Spells (lead ++ w) (Value z) = record {
      sign = s;
      body = Number n NoExponent;
      marks = map-append mark_of lead w ∙ ap (λ ms. ms ++ map mark_of w) front
          ∙ ap (λ ms. sign_marks s ++ ms) (writes.marks ∙ sym (append-nil (mantissa_marks n)));
      worth = sym (fixed_fits (is_minus s) m small) ∙ ap (fixed (is_minus s)) (sym worth)
          ∙ ap (λ es. fixed (is_minus s) (rnd (number_from 0 es * 1000000) (10 ^ p))) (sym writes.all)
          ∙ ap (λ q. fixed (is_minus s) (rnd (number_from 0 (all_digits n) * 1000000) (10 ^ q)))
          (sym writes.places ∙ none);
    } in
    (decimal_of_spelt (lead ++ w) (Value z)).1 spelling

-- a number of so many places in millionths
worth_is : (n p m : ℕ) → p ≤ 6 → m ≡ n * 10 ^ (6 - p) → rnd (n * 1000000) (10 ^ p) ≡ m
worth_is n p m few is =
    let six : (6 - p) + p ≡ 6 = omega arith in
    let all = ap (λ z. n * z) (sym (pow-add 10 (6 - p) p) ∙ ap (λ k. 10 ^ k) six) in
    let times = ap (λ z. z * 10 ^ p) is in
    let whole : n * 1000000 ≡ m * 10 ^ p = omega (arith, all, times) in
    ap (λ z. rnd z (10 ^ p)) whole ∙ rnd_whole m (10 ^ p) (ten_pos p)

-- ---- the token that they are

-- a digit is a byte of a word
word_digit : (b : ℕ) → is_ascii_digit b ≡ true → is_word (byte_kind b) ≡ true
word_digit b e =
    let low : 48 ≤ b = grind (arith, nat_tests) in
    let high : b ≤ 57 = grind (arith, nat_tests) in
    let space : is_space b ≡ false = rw (
      ne_eqb b 32 (λ q. omega arith),
      ne_eqb b 9 (λ q. omega arith),
      ne_eqb b 13 (λ q. omega arith),
      ne_eqb b 10 (λ q. omega arith),
    ) refl in
    let sign : is_sign b ≡ false = rw (
      ne_eqb b 40 (λ q. omega arith),
      ne_eqb b 41 (λ q. omega arith),
      ne_eqb b 44 (λ q. omega arith),
      ne_eqb b 59 (λ q. omega arith),
      ne_eqb b 61 (λ q. omega arith),
    ) refl in
    rw (space, sign) refl

-- digits are bytes of a word
words_digits : (w : List ℕ) → list_all is_ascii_digit w ≡ true
    → list_all (λ b. is_word (byte_kind b)) w ≡ true
words_digits [] e = refl
words_digits (b ∷ bs) e =
    let parts = both (is_ascii_digit b) (list_all is_ascii_digit bs) e in
    rw (word_digit b parts.0, words_digits bs parts.1) refl

-- and so are digits on both sides of a point
words_pointed : (w v : List ℕ) → list_all is_ascii_digit w ≡ true → list_all is_ascii_digit v ≡ true
    → list_all (λ b. is_word (byte_kind b)) (w ++ 46 ∷ v) ≡ true
words_pointed w v e f =
    list_all-append (λ b. is_word (byte_kind b)) w (46 ∷ v)
    ∙ rw (words_digits w e, words_digits v f) refl

-- digits alone are a size
pub size_whole : (bytes : List ℕ) (n len m : ℕ) → AreDigits bytes 0 n len → (len ≡ 0 → ⊥)
    → m ≡ n * 10 ^ (6 - 0) → m ≤ 1000000000000000 → IsSize bytes m len
size_whole bytes n len m are some is small =
    let w = take len bytes in
    let has : 0 < length w = omega (arith, length-take-le len bytes are.within) in
    let writes = whole_writes w has are.digits in
    let worth = ap (λ z. rnd (z * 1000000) (10 ^ 0)) (sym (number_is w 0) ∙ sym are.value)
    ∙ worth_is n 0 m (omega arith) is in
    record {
      some = omega arith;
      within = are.within;
      word = words_digits w are.digits;
      unsigned = spelt_as NoSign [] w (digits_of w) 0 m refl writes worth small;
      signed = spelt_as MinusSign (45 ∷ []) w (digits_of w) 0 m refl writes worth small;
      small = small;
    }

-- and so are digits on both sides of a point
pub size_pointed : (bytes : List ℕ) (whole len n p m : ℕ) → AreDigits bytes 0 whole len → (len ≡ 0 → ⊥)
    → StandsAt bytes len 46 → AreDigits (drop (len + 1) bytes) whole n p → p ≤ 6
    → m ≡ n * 10 ^ (6 - p) → m ≤ 1000000000000000 → IsSize bytes m (len + 1 + p)
size_pointed bytes whole len n p m are some point behind few is small =
    let w = take len bytes in
    let v = take p (drop (len + 1) bytes) in
    let next : suc len ≡ len + 1 = omega arith in
    let from_point = drop-cons bytes len 0 point.within
    ∙ ap (λ b. b ∷ drop (suc len) bytes) point.is ∙ ap (λ k. 46 ∷ drop k bytes) next in
    let size : len + 1 + p ≡ len + suc p = omega arith in
    let front : take (len + 1 + p) bytes ≡ w ++ 46 ∷ v =
    ap (λ k. take k bytes) size ∙ take-add len (suc p) bytes
    ∙ ap (λ bs. w ++ take (suc p) bs) from_point in
    let has : 0 < length w = omega (arith, length-take-le len bytes are.within) in
    let many : length v ≡ p = length-take-le p (drop (len + 1) bytes) behind.within in
    let writes = subst (λ k. Writes (w ++ 46 ∷ v) (digits_of w ++ digits_of v) k) many
    (pointed_writes w v has are.digits behind.digits) in
    let number : number_from 0 (digits_of w ++ digits_of v) ≡ n =
    fold-append (λ n d. 10 * n + d) 0 (digits_of w) (digits_of v)
    ∙ ap (λ k. number_from k (digits_of v)) (sym (number_is w 0) ∙ sym are.value)
    ∙ sym (number_is v whole) ∙ sym behind.value in
    let worth = ap (λ z. rnd (z * 1000000) (10 ^ p)) number ∙ worth_is n p m few is in
    let inside = behind.within in
    let stands = point.within in
    record {
      some = omega arith;
      within = omega (arith, length-drop (len + 1) bytes);
      word = ap (list_all (λ b. is_word (byte_kind b))) front ∙ words_pointed w v are.digits behind.digits;
      unsigned = ap decimal_of front
          ∙ spelt_as NoSign [] (w ++ 46 ∷ v) (digits_of w ++ digits_of v) p m refl writes worth small;
      signed = ap (λ bs. decimal_of (45 ∷ bs)) front
          ∙ spelt_as MinusSign (45 ∷ []) (w ++ 46 ∷ v) (digits_of w ++ digits_of v) p m refl writes worth
          small;
      small = small;
    }

-- nine digits are below 10^9
pub whole_small : (bytes : List ℕ) (n len : ℕ) → AreDigits bytes 0 n len → len ≤ 9 → n < 1000000000
whole_small bytes n len are few =
    let most = pow-le-pow_right {n = 10} (omega arith) {i = 0 + len} {j = 9} (omega arith) in
    let fits = are.small 0 (omega arith) in
    omega (arith, most, fits)
