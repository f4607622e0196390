-- The written form of a decimal: how it is appended, and that it is read back.
use Rattle.std.proofs.Common.{◌≡◌, ℕ, zero, suc, ◌+◌, ◌-◌, ◌*◌, ◌/◌, ◌%◌, ◌^◌, ◌<◌, ◌≤◌, true, false, ◌==◌}
use Rattle.std.proofs.Common.{if◌then◌else◌, ℤ, pos, negsuc, int_lt, List, [], ◌∷◌, ◌++◌, map, length, Some}
use Rattle.std.proofs.Common.{None, decimal, refl, sym, ap, ap₂, subst, ◌∙◌, inl, inr, ◌⊎◌, arith}
use Rattle.std.proofs.Common.{append_assoc, append-nil, mul_assoc}
use Rattle.std.proofs.Math.Nat.{pow-succ'}
use Rattle.std.proofs.lemmas.Nat.{div_below, mod_below, div-add-mod', pow-add}
use Rattle.std.proofs.lemmas.List.{map-append}
use Rattle.std.proofs.lemmas.List.Sums.{fold-append}
use Rattle.std.proofs.lemmas.Bool.{cases_lt}
use Rattle.std.proofs.lemmas.Bool.Decides.{nat_tests}
use Rattle.std.proofs.lemmas.Int.{ints}
use Rattle.std.proofs.lemmas.Fmt.{decimal_by_steps}
use Rattle.cv_number.specs.Rounding.{rnd}
use Rattle.cv_model.specs.Positions.{IsCoordinate}
use Rattle.cv_number.specs.declared.mark.Mark.TheVariants.{Digit, Point, Minus}
use Rattle.cv_number.specs.declared.fixed.Fixed.TheVariants.{Value}
use Rattle.cv_number.specs.Mark.{is_digit, mark_of}
use Rattle.cv_number.specs.Spellings.{NoSign, MinusSign, Mantissa, Digits, NoExponent, Number, digit_marks}
use Rattle.cv_number.specs.Spellings.{mantissa_marks, number_from, all_digits, places, fixed, Spells}
use Rattle.cv_decimal.specs.Written.{places_of, written_size, written}
use Rattle.cv_decimal.proofs.DigitLemmas.{mark_is}
use Rattle.cv_decimal.proofs.NumberLemmas.{rnd_whole, ten_pos, fixed_fits}

-- ---- the digits behind the point, one at a time

places_none : (k : ℕ) → places_of k 0 ≡ []
places_none zero = refl
places_none (suc k) = refl

places_more : (k r : ℕ) → 0 < r → places_of (suc k) r ≡ (48 + r / 10 ^ k) ∷ places_of k (r % 10 ^ k)
places_more k r h =
    let some : (r == 0) ≡ false = grind (arith, nat_tests) in
    ap (λ t. if t then [] else (48 + r / 10 ^ k) ∷ places_of k (r % 10 ^ k)) some

-- the next digit of a rest is below ten
digit_below : (r k : ℕ) → r < 10 ^ suc k → r / 10 ^ k < 10
digit_below r k h = div_below r (10 ^ k) 10 (ten_pos k) (omega (arith, pow-succ' 10 k))

-- the text with the digits of the rest appended is as with all of them at first
pub record Placing (before : List ℕ) (all : ℕ) (text : List ℕ) (rest places : ℕ) : Type 0 where
  pub below : rest < 10 ^ places
  pub within : places ≤ 6
  pub same : text ++ places_of places rest ≡ before ++ places_of 6 all

placing_step : (before : List ℕ) (all : ℕ) (text new : List ℕ) (rest k : ℕ)
    → Placing before all text rest (suc k) → 0 < rest → new ≡ text ++ (48 + rest / 10 ^ k) ∷ []
    → Placing before all new (rest % 10 ^ k) k
placing_step before all text new rest k h some e = record {
  below = mod_below rest (10 ^ k) (ten_pos k);
  within = let w = h.within in omega arith;
  same =
      ap (λ x. x ++ places_of k (rest % 10 ^ k)) e
      ∙ append_assoc text ((48 + rest / 10 ^ k) ∷ []) (places_of k (rest % 10 ^ k))
      ∙ ap (λ x. text ++ x) (sym (places_more k rest some)) ∙ h.same;
}

-- a turn of the loop appends one digit
pub placing_more : (before : List ℕ) (all : ℕ) (text new : List ℕ) (rest places unit digit : ℕ)
    (bytes : List ℕ)
    → Placing before all text rest places → 0 < rest → unit ≡ 10 ^ (places - 1) → digit ≡ 48 + rest / unit
    → (digit < 128 → bytes ≡ digit ∷ []) → new ≡ text ++ bytes
    → Placing before all new (rest % unit) (places - 1)
placing_more before all text new rest zero unit digit bytes h some tens is ascii e =
    absurd (omega (arith, h.below))
placing_more before all text new rest (suc k) unit digit bytes h some tens is ascii e =
    subst (λ p. Placing before all new (rest % unit) p) down by_unit
  where
    down : k ≡ suc k - 1
    down = omega arith

    same : 10 ^ k ≡ unit
    same = ap (λ p. 10 ^ p) down ∙ sym tens

    next : digit ≡ 48 + rest / 10 ^ k
    next = is ∙ ap (λ u. 48 + rest / u) (sym same)

    pushed : new ≡ text ++ (48 + rest / 10 ^ k) ∷ []
    pushed = e ∙ ap (λ x. text ++ x)
        (ascii (omega (arith, next, digit_below rest k h.below)) ∙ ap (λ d. d ∷ []) next)

    by_unit : Placing before all new (rest % unit) k
    by_unit = subst (λ u. Placing before all new (rest % u) k) same
        (placing_step before all text new rest k h some pushed)

-- ---- what is written is a spelling

mark_digit : (d : ℕ) → d < 10 → mark_of (48 + d) ≡ Digit d
mark_digit d h =
    let digit : is_digit (48 + d) ≡ true = grind (arith, nat_tests) in
    mark_is (48 + d) digit ∙ ap Digit (omega arith)

-- bytes that spell n by digits
record SpellsNumber (n : ℕ) (bs : List ℕ) : Type 0 where
  first : ℕ
  others : List ℕ
  marks : map mark_of bs ≡ Digit first ∷ digit_marks others
  number : number_from 0 (first ∷ others) ≡ n

one_digit : (n : ℕ) → n < 10 → SpellsNumber n ((48 + n) ∷ [])
one_digit n h = record {
  first = n;
  others = [];
  marks = ap (λ m. m ∷ []) (mark_digit n h);
  number = omega arith;
}

digit_behind : (n : ℕ) (bs : List ℕ) → 10 ≤ n → SpellsNumber (n / 10) bs
    → SpellsNumber n (bs ++ (48 + n % 10) ∷ [])
digit_behind n bs h s = record {
  first = s.first;
  others = s.others ++ (n % 10) ∷ [];
  marks =
      map-append mark_of bs ((48 + n % 10) ∷ [])
      ∙ ap₂ (λ x y. x ++ y ∷ []) s.marks (mark_digit (n % 10) (omega arith))
      ∙ ap (λ x. Digit s.first ∷ x) (sym (map-append Digit s.others ((n % 10) ∷ [])));
  number =
      fold-append (λ m k. 10 * m + k) 0 (s.first ∷ s.others) ((n % 10) ∷ [])
      ∙ ap (λ m. 10 * m + n % 10) s.number ∙ omega arith;
}

decimal_spelt : (n : ℕ) → n < 18446744073709551616 → SpellsNumber n (decimal n)
decimal_spelt n h = decimal_by_steps SpellsNumber one_digit digit_behind n h

-- the written digits behind the point spell r / 10^k: with zeros up to k digits they are m * 10^k + r behind
-- any m
record SpellsPlaces (k r : ℕ) : Type 0 where
  all : List ℕ
  marks : map mark_of (places_of k r) ≡ digit_marks all
  few : length all ≤ k
  number : (m : ℕ) → number_from m all * 10 ^ (k - length all) ≡ m * 10 ^ k + r

no_places : (k r : ℕ) → r ≡ 0 → SpellsPlaces k r
no_places k r e = record {
  all = [];
  marks = ap (λ x. map mark_of (places_of k x)) e ∙ ap (map mark_of) (places_none k);
  few = omega arith;
  number = λ m. let whole : k - 0 ≡ k = omega arith in ap (λ p. m * 10 ^ p) whole ∙ omega (arith, e);
}

place_before : (k r : ℕ) → 0 < r → r < 10 ^ suc k → SpellsPlaces k (r % 10 ^ k) → SpellsPlaces (suc k) r
place_before k r some below s = record {
  all = (r / 10 ^ k) ∷ s.all;
  marks = ap (map mark_of) (places_more k r some)
      ∙ ap₂ (λ x y. x ∷ y) (mark_digit (r / 10 ^ k) (digit_below r k below)) s.marks;
  few = let f = s.few in omega arith;
  number = λ m.
      let d : ℕ = r / 10 ^ k in
      let shift : suc k - suc (length s.all) ≡ k - length s.all = omega arith in
      let tens = ap (λ z. m * z) (pow-succ' 10 k) in
      ap (λ p. number_from (10 * m + d) s.all * 10 ^ p) shift ∙ s.number (10 * m + d)
      ∙ omega (arith, tens, div-add-mod' r (10 ^ k));
}

places_spelt : (k r : ℕ) → r < 10 ^ k → SpellsPlaces k r
places_spelt zero r h = no_places zero r (omega arith)
places_spelt (suc k) r h =
    by_rest (cases_lt 0 r) (places_spelt k (r % 10 ^ k) (mod_below r (10 ^ k) (ten_pos k)))
  where
    by_rest : (0 < r) ⊎ (r ≤ 0) → SpellsPlaces k (r % 10 ^ k) → SpellsPlaces (suc k) r
    by_rest (inl some) s = place_before k r some h s
    by_rest (inr none) s = no_places (suc k) r (omega arith)

-- a written form without a sign, and the number that it has
record SpellsSize (n : ℕ) : Type 0 where
  number : Mantissa
  marks : map mark_of (written_size n) ≡ mantissa_marks number
  size : rnd (number_from 0 (all_digits number) * 10 ^ 6) (10 ^ (places number + 0)) ≡ n

whole_spelt : (n : ℕ) → n < 18446744073709551616 → n % 1000000 ≡ 0 → SpellsSize n
whole_spelt n fits none =
    let w = decimal_spelt (n / 1000000) (omega arith) in
    let rest : (n % 1000000 == 0) ≡ true = grind (arith, nat_tests) in
    let form = ap (λ t. decimal (n / 1000000) ++ (if t then [] else 46 ∷ places_of 6 (n % 1000000))) rest in
    record {
      number = Digits w.first w.others None;
      marks = ap (map mark_of) form ∙ map-append mark_of (decimal (n / 1000000)) []
          ∙ ap (λ x. x ++ []) w.marks;
      size = ap (λ q. rnd (q * 10 ^ 6) 1) w.number ∙ ap (λ q. rnd q 1) (omega arith)
          ∙ rnd_whole n 1 (omega arith);
    }

rest_spelt : (n : ℕ) → n < 18446744073709551616 → 0 < n % 1000000 → SpellsSize n
rest_spelt n fits some =
    let w = decimal_spelt (n / 1000000) (omega arith) in
    let r = places_spelt 6 (n % 1000000) (omega arith) in
    let rest : (n % 1000000 == 0) ≡ false = grind (arith, nat_tests) in
    let form = ap (λ t. decimal (n / 1000000) ++ (if t then [] else 46 ∷ places_of 6 (n % 1000000))) rest in
    let len : ℕ = length r.all in
    let few = r.few in
    let split : 6 ≡ (6 - len) + len = omega arith in
    let six : 10 ^ 6 ≡ 10 ^ (6 - len) * 10 ^ len = ap (λ p. 10 ^ p) split ∙ pow-add 10 (6 - len) len in
    let last : len + 0 ≡ len = omega arith in
    let q : ℕ = n / 1000000 in
    let parts : q * 1000000 + n % 1000000 ≡ n = omega arith in
    let digits_all = fold-append (λ m k. 10 * m + k) 0 (w.first ∷ w.others) r.all
    ∙ ap (λ m. number_from m r.all) w.number in
    let product =
    ap (λ m. m * 10 ^ 6) digits_all ∙ ap (λ z. number_from q r.all * z) six
    ∙ sym (mul_assoc (number_from q r.all) (10 ^ (6 - len)) (10 ^ len))
    ∙ ap (λ z. z * 10 ^ len) (r.number q ∙ parts) in
    record {
      number = Digits w.first w.others (Some r.all);
      marks =
          ap (map mark_of) form ∙ map-append mark_of (decimal q) (46 ∷ places_of 6 (n % 1000000))
          ∙ ap₂ (λ x y. x ++ Point ∷ y) w.marks r.marks;
      size = ap₂ (λ z p. rnd z (10 ^ p)) product last ∙ rnd_whole n (10 ^ len) (ten_pos len);
    }

size_spelt : (n : ℕ) → n < 18446744073709551616 → SpellsSize n
size_spelt n fits = by_rest (cases_lt 0 (n % 1000000))
  where
    by_rest : (0 < n % 1000000) ⊎ (n % 1000000 ≤ 0) → SpellsSize n
    by_rest (inl some) = rest_spelt n fits some
    by_rest (inr none) = whole_spelt n fits (omega arith)

not_negative : (n : ℕ) → int_lt (pos n) (pos 0) ≡ false
not_negative n = grind (arith, nat_tests)

-- a written form is a spelling of the number written, where that is a coordinate
pub written_spelt : (z : ℤ) → IsCoordinate z → Spells (written z) (Value z)
unfolding written
written_spelt (pos n) h = by_size (omega (arith, ints, h.1)) (size_spelt n (omega (arith, ints, h.1)))
  where
    by_size : n ≤ 1000000000000000 → SpellsSize n → Spells (written (pos n)) (Value (pos n))
    by_size few s =
        let form = ap (λ t. map mark_of (if t then 45 ∷ written_size n else written_size n))
        (not_negative n) in
        record {
          sign = NoSign;
          body = Number s.number NoExponent;
          marks = form ∙ s.marks ∙ sym (append-nil (mantissa_marks s.number));
          worth = sym (ap (fixed false) s.size ∙ fixed_fits false n few);
        }
written_spelt (negsuc n) h =
    by_size (omega (arith, ints, h.0)) (size_spelt (suc n) (omega (arith, ints, h.0)))
  where
    by_size : suc n ≤ 1000000000000000 → SpellsSize (suc n) → Spells (written (negsuc n)) (Value (negsuc n))
    by_size few s = record {
      sign = MinusSign;
      body = Number s.number NoExponent;
      marks = ap (λ x. Minus ∷ x) (s.marks ∙ sym (append-nil (mantissa_marks s.number)));
      worth = sym (ap (fixed true) s.size ∙ fixed_fits true (suc n) few);
    }
