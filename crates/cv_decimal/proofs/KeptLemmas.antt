-- What is kept tells what all the digits would: the two machines answer alike.
use Rattle.std.proofs.Common.{◌≡◌, ℕ, suc, ◌+◌, ◌-◌, ◌*◌, ◌^◌, ◌<◌, ◌≤◌, ◌⊎◌, min, Bool, true, false, ◌==◌}
use Rattle.std.proofs.Common.{nat_lt, if◌then◌else◌, List, length, Option, Some, None, option_map, IfSome}
use Rattle.std.proofs.Common.{refl, sym, ap, ap₂, subst, ◌∙◌, inl, inr, arith, ltb-true, ltb-false}
use Rattle.std.proofs.lemmas.Bool.{cases_lt}
use Rattle.std.proofs.lemmas.Bool.Decides.{nat_tests}
use Rattle.cv_number.specs.Rounding.{rnd}
use Rattle.cv_reading.specs.Machines.{run, StepsAlike, GoAlike}
use Rattle.cv_reading.proofs.MachineLemmas.{same_run}
use Rattle.cv_decimal.specs.declared.kept.Kept.{Kept}
use Rattle.cv_number.specs.declared.mark.Mark.{Mark}
use Rattle.cv_number.specs.declared.mark.Mark.TheVariants.{Digit, Point, Plus, Minus, LetterE, LetterN}
use Rattle.cv_number.specs.declared.mark.Mark.TheVariants.{LetterA, Other}
use Rattle.cv_number.specs.declared.place.Place.{Place}
use Rattle.cv_number.specs.declared.place.Place.TheVariants.{Start, Signed, OneLetter, TwoLetters, Whole}
use Rattle.cv_number.specs.declared.place.Place.TheVariants.{Bare, Dotted, Marked, MarkedSigned, Powered}
use Rattle.cv_number.specs.declared.place.Role.{Role}
use Rattle.cv_number.specs.declared.place.Role.TheVariants.{Form, Negative, WholeDigit, RestDigit, Lowering}
use Rattle.cv_number.specs.declared.place.Role.TheVariants.{PowerDigit}
use Rattle.cv_number.specs.Mark.{is_digit, is_letter, mark_of}
use Rattle.cv_number.specs.Spellings.{fixed}
use Rattle.cv_number.specs.Reader.{At, Parts, with_role, worth, nothing_read, decimal_reader}
use Rattle.cv_number.specs.Place.{next_of, worth_at}
use Rattle.cv_decimal.specs.Kept.{with_digit, kept_role, settled, kept_worth, nothing_kept, keeping_reader}
use Rattle.cv_decimal.specs.Kept.{answer_at}
use Rattle.cv_decimal.proofs.NumberLemmas.{Stands, stands_zero, stands_kept, stands_dropped, settled_is}
use Rattle.cv_decimal.proofs.NumberLemmas.{settled_above, settled_below, fixed_min}

-- ---- digits are below ten

abbrev IsSmallMark : Mark → Type 0
IsSmallMark (Digit d) = d < 10
IsSmallMark _ = Unit {0}

abbrev IsSmallRole : Role → Type 0
IsSmallRole (WholeDigit d) = d < 10
IsSmallRole (RestDigit d) = d < 10
IsSmallRole (PowerDigit d) = d < 10
IsSmallRole _ = Unit {0}

small_if : (t : Bool) (x y : Mark) → (t ≡ true → IsSmallMark x) → IsSmallMark y
    → IsSmallMark (if t then x else y)
small_if true x y h k = h refl
small_if false x y h k = k

digit_small : (b : ℕ) → is_digit b ≡ true → b - 48 < 10
digit_small b e = grind (arith, nat_tests)

mark_small : (b : ℕ) → IsSmallMark (mark_of b)
mark_small b =
    small_if (is_digit b) (Digit (b - 48)) _ (digit_small b)
    (small_if (b == 46) Point _ (λ _. tt)
    (small_if (b == 43) Plus _ (λ _. tt)
    (small_if (b == 45) Minus _ (λ _. tt)
    (small_if (is_letter 101 b) LetterE _ (λ _. tt)
    (small_if (is_letter 110 b) LetterN _ (λ _. tt)
    (small_if (is_letter 97 b) LetterA Other (λ _. tt) tt))))))

row_small : (p : Place) (m : Mark) → IsSmallMark m
    → IfSome (next_of p m) (λ (r : Place × Role). IsSmallRole r.1)
row_small Start (Digit d) h = h
row_small Signed (Digit d) h = h
row_small Whole (Digit d) h = h
row_small Bare (Digit d) h = h
row_small Dotted (Digit d) h = h
row_small Marked (Digit d) h = h
row_small MarkedSigned (Digit d) h = h
row_small Powered (Digit d) h = h
row_small OneLetter LetterA h = tt
row_small TwoLetters LetterN h = tt
row_small p m h = tt

-- ---- one byte more

-- what is kept, beside the exact numbers
record Beside (x : Parts) (k : Kept) : Type 0 where
  negative : k.negative ≡ x.negative
  stands : Stands x.number k.digits k.dropped
  places : k.places ≡ x.places
  lowers : k.lowers ≡ x.lowers
  power : k.power ≡ min x.power 18446744073709551615

-- the counts behind i bytes
record IsFew (i : ℕ) (k : Kept) : Type 0 where
  dropped : k.dropped ≤ i
  places : k.places ≤ i

nothing_beside : Beside nothing_read nothing_kept
nothing_beside = record {
  negative = refl;
  stands = stands_zero;
  places = refl;
  lowers = refl;
  power = omega arith;
}

-- a digit is kept, or only counted
digit_beside : (d : ℕ) (x : Parts) (k : Kept) → d < 10 → Beside x k
    → Beside (record x { number = 10 * x.number + d }) (with_digit d k)
digit_beside d x k small h = by_room (nat_lt k.digits 100000000000000000) refl
  where
    by_room : (t : Bool) → nat_lt k.digits 100000000000000000 ≡ t
        → Beside (record x { number = 10 * x.number + d })
        (if t then record k { digits = 10 * k.digits + d } else record k { dropped = k.dropped + 1 })
    by_room true e =
        let s = stands_kept x.number k.digits k.dropped d small (ltb-true _ _ e) h.stands in
        record { negative = h.negative; stands = s; places = h.places; lowers = h.lowers; power = h.power }
    by_room false e =
        let s = stands_dropped x.number k.digits k.dropped d small (ltb-false _ _ e) h.stands in
        record { negative = h.negative; stands = s; places = h.places; lowers = h.lowers; power = h.power }

role_beside : (r : Role) (x : Parts) (k : Kept) → IsSmallRole r → Beside x k
    → Beside (with_role r x) (kept_role r k)
role_beside Form x k small h = h
role_beside Negative x k small h =
    record { negative = refl; stands = h.stands; places = h.places; lowers = h.lowers; power = h.power }
role_beside (WholeDigit d) x k small h = digit_beside d x k small h
role_beside (RestDigit d) x k small h =
    let q = digit_beside d x k small h in
    record {
      negative = q.negative;
      stands = q.stands;
      places = ap (λ z. z + 1) h.places;
      lowers = q.lowers;
      power = q.power;
    }
role_beside Lowering x k small h =
    record { negative = h.negative; stands = h.stands; places = h.places; lowers = refl; power = h.power }
role_beside (PowerDigit d) x k small h =
    record {
      negative = h.negative;
      stands = h.stands;
      places = h.places;
      lowers = h.lowers;
      power = let q = h.power in omega arith;
    }

digit_few : (i d : ℕ) (k : Kept) (t : Bool) → IsFew i k
    → IsFew (suc i) (if t then record k { digits = 10 * k.digits + d }
    else record k { dropped = k.dropped + 1 })
digit_few i d k true h =
    record { dropped = let q = h.dropped in omega arith; places = let q = h.places in omega arith }
digit_few i d k false h =
    record { dropped = let q = h.dropped in omega arith; places = let q = h.places in omega arith }

role_few : (i : ℕ) (r : Role) (k : Kept) → IsFew i k → IsFew (suc i) (kept_role r k)
role_few i (WholeDigit d) k h = digit_few i d k (nat_lt k.digits 100000000000000000) h
role_few i (RestDigit d) k h =
    let q = digit_few i d k (nat_lt k.digits 100000000000000000) h in
    record { dropped = q.dropped; places = let p = h.places in omega arith }
role_few i r k h = record
    { dropped = let q = h.dropped in omega arith; places = let q = h.places in omega arith }

-- ---- the end

-- an exponent that is cut decides as the exact one
cut_alike : (digits dropped places exact power : ℕ) (l : Bool) → dropped < 9223372036854775808
    → places < 9223372036854775808 → power ≡ min exact 18446744073709551615
    → settled digits (dropped + 6 + (if l then 0 else power)) (places + (if l then power else 0))
    ≡ settled digits (dropped + (6 + (if l then 0 else exact))) (places + (if l then exact else 0))
cut_alike digits dropped places exact power l p q e = by_cut l (cases_lt exact 18446744073709551615)
  where
    by_cut : (l : Bool) → (exact < 18446744073709551615) ⊎ (18446744073709551615 ≤ exact)
        → settled digits (dropped + 6 + (if l then 0 else power)) (places + (if l then power else 0))
        ≡ settled digits (dropped + (6 + (if l then 0 else exact))) (places + (if l then exact else 0))
    by_cut true (inl whole) = ap₂ (settled digits) (omega arith) (omega arith)
    by_cut false (inl whole) = ap₂ (settled digits) (omega arith) (omega arith)
    by_cut true (inr cut) = settled_below digits (dropped + 6 + 0) (places + power) (dropped + (6 + 0))
        (places + exact) (omega arith) (omega arith)
    by_cut false (inr cut) =
        settled_above digits (dropped + 6 + power) (places + 0) (dropped + (6 + exact)) (places + 0)
        (omega arith) (omega arith)

beside_worth : (i : ℕ) (x : Parts) (k : Kept) → i < 9223372036854775808 → IsFew i k → Beside x k
    → worth x ≡ kept_worth k
beside_worth i x k fits few h =
    let up : ℕ = 6 + (if x.lowers then 0 else x.power) in
    let down : ℕ = x.places + (if x.lowers then x.power else 0) in
    let lowers = ap (λ l. settled k.digits (k.dropped + 6 + (if l then 0 else k.power))
    (k.places + (if l then k.power else 0))) h.lowers in
    let cut = cut_alike k.digits k.dropped k.places x.power k.power x.lowers
    (let q = few.dropped in omega arith) (let q = few.places in omega arith) h.power in
    let same = ap (λ p. settled k.digits (k.dropped + up) (p + (if x.lowers then x.power else 0))) h.places in
    let exact = settled_is x.number k.digits k.dropped up down h.stands in
    let limit = fixed_min x.negative (rnd (x.number * 10 ^ up) (10 ^ down)) in
    sym (ap₂ fixed h.negative (lowers ∙ cut ∙ same ∙ exact) ∙ limit)

-- ---- the two machines

-- the same place, and what is kept beside the exact numbers
record SamePlace (i : ℕ) (s : At Parts) (t : At Kept) : Type 0 where
  place : t.place ≡ s.place
  beside : Beside s.parts t.parts
  few : IsFew i t.parts

rows_alike : (i : ℕ) (x : Parts) (k : Kept) (o : Option (Place × Role))
    → IfSome o (λ (r : Place × Role). IsSmallRole r.1) → Beside x k → IsFew i k
    → StepsAlike (SamePlace (suc i))
    (option_map (λ (r : Place × Role). record { place = r.0; parts = with_role r.1 x }) o)
    (option_map (λ (r : Place × Role). record { place = r.0; parts = kept_role r.1 k }) o)
rows_alike i x k None small h few = tt
rows_alike i x k (Some r) small h few =
    record { place = refl; beside = role_beside r.1 x k small h; few = role_few i r.1 k few }

alike : GoAlike 9223372036854775807 SamePlace decimal_reader keeping_reader
alike = record {
  step = λ i s t a below h.
      subst (λ p. StepsAlike (SamePlace (suc i)) (decimal_reader.step s a)
      (option_map (λ (r : Place × Role). record { place = r.0; parts = kept_role r.1 t.parts })
      (next_of p (mark_of a)))) (sym h.place)
      (rows_alike i s.parts t.parts (next_of s.place (mark_of a))
      (row_small s.place (mark_of a) (mark_small a)) h.beside h.few);
  ends = λ i s t below h.
      ap₂ worth_at (sym h.place) (beside_worth i s.parts t.parts (omega arith) h.few h.beside);
}

-- the machine that keeps 18 digits answers as the one that keeps all
pub keeping_is : (text : List ℕ) → length text < 9223372036854775808
    → run decimal_reader text (record { place = Start; parts = nothing_read })
    ≡ answer_at Start nothing_kept text
keeping_is text fits =
    let few : IsFew 0 nothing_kept = record { dropped = omega arith; places = omega arith } in
    same_run 9223372036854775807 SamePlace decimal_reader keeping_reader alike text 0 _ _ (omega arith)
    (record { place = refl; beside = nothing_beside; few = few })
