-- Rounded quotients by powers of ten, and the numbers of which only the first digits are kept.
use Rattle.std.proofs.Common.{◌≡◌, ℕ, zero, suc, ◌+◌, ◌-◌, ◌*◌, ◌/◌, ◌^◌, ◌<◌, ◌≤◌, ◌⊎◌, min, Bool, true}
use Rattle.std.proofs.Common.{false, ◌==◌, if◌then◌else◌, pos, neg_ℤ, refl, sym, ap, subst, ◌∙◌, inl, inr}
use Rattle.std.proofs.Common.{arith, add-one, lt-ltb, le-ltb}
use Rattle.std.proofs.Math.Nat.{div-div-eq-div-mul, one-le-pow, pow-suc, pow-succ', pow-le-pow_right}
use Rattle.std.proofs.Math.Nat.{le-mul_of_pos_right, mul-le-mul_left, mul-lt-mul_of_pos_right}
use Rattle.std.proofs.lemmas.Nat.{div-mul-add, pow-add, le-div}
use Rattle.std.proofs.lemmas.Bool.Decides.{nat_tests}
use Rattle.std.proofs.lemmas.Bool.{cases_lt}
use Rattle.std.proofs.lemmas.Int.{ints}
use Rattle.cv_number.specs.Rounding.{rnd}
use Rattle.cv_model.specs.Positions.{IsCoordinate}
use Rattle.cv_number.specs.declared.fixed.Fixed.TheVariants.{Value, High, Low}
use Rattle.cv_number.specs.Spellings.{fixed}
use Rattle.cv_decimal.specs.Ranges.{IsInRange}
use Rattle.cv_decimal.specs.Kept.{settled}

-- ---- rounded quotients

-- what is below one unit of the dividend doesn't count
floor_drop : (x t r y : ℕ) → r < t → (x * t + r) / (t * y) ≡ x / y
floor_drop x t r y h = sym (div-div-eq-div-mul (x * t + r) t y) ∙ ap (λ z. z / y) (div-mul-add x t r h)

rnd_even : (n h : ℕ) → rnd n (2 * h) ≡ (n + h) / (2 * h)
rnd_even n h =
    let twice : 2 * n + 2 * h ≡ (n + h) * 2 + 0 = omega arith in
    ap (λ z. z / (2 * (2 * h))) twice ∙ floor_drop (n + h) 2 0 (2 * h) (omega arith)

-- nor does it in a rounded quotient by an even number of units
rnd_drop : (k t r h : ℕ) → r < t → rnd (k * t + r) (t * (2 * h)) ≡ rnd k (2 * h)
rnd_drop k t r h below =
    let even : t * (2 * h) ≡ 2 * (h * t) = omega arith in
    let sum : (k * t + r) + h * t ≡ (k + h) * t + r = omega arith in
    ap (rnd (k * t + r)) even ∙ rnd_even (k * t + r) (h * t) ∙ ap (λ z. z / (2 * (h * t))) sum
    ∙ ap (λ z. ((k + h) * t + r) / z) (sym even) ∙ floor_drop (k + h) t r (2 * h) below ∙ sym (rnd_even k h)

-- a quotient without a rest isn't rounded
pub rnd_whole : (q d : ℕ) → 0 < d → rnd (q * d) d ≡ q
rnd_whole q d h =
    let twice : 2 * (q * d) + d ≡ q * (2 * d) + d = omega arith in
    ap (λ z. z / (2 * d)) twice ∙ div-mul-add q (2 * d) d (omega arith)

rnd_ge : (m n d : ℕ) → 0 < d → m * d ≤ n → m ≤ rnd n d
rnd_ge m n d h k = le-div m (2 * n + d) (2 * d) (omega arith) (omega arith)

rnd_small : (n d : ℕ) → 2 * n < d → rnd n d ≡ 0
rnd_small n d h =
    let none : 2 * n + d ≡ 0 * (2 * d) + (2 * n + d) = omega arith in
    ap (λ z. z / (2 * d)) none ∙ div-mul-add 0 (2 * d) (2 * n + d) (omega arith)

-- ---- powers of ten

-- a power of ten isn't zero
pub ten_pos : (k : ℕ) → 0 < 10 ^ k
ten_pos k = omega (arith, one-le-pow k 10 (omega arith))

ten_even : (j : ℕ) → 0 < j → (h : ℕ) × (10 ^ j ≡ 2 * h)
ten_even zero h = absurd (omega arith)
ten_even (suc j) h = (5 * 10 ^ j, omega (arith, pow-suc 10 j))

ten_ge : (j k : ℕ) → j ≤ k → 10 ^ j ≤ 10 ^ k
ten_ge j k h = pow-le-pow_right (omega arith) h

-- ---- what is settled

settled_far_up : (digits high low : ℕ) → low + 16 ≤ high
    → settled digits high low ≡ (if digits == 0 then 0 else 1000000000000001)
unfolding settled
settled_far_up digits high low h = grind (arith, nat_tests)

settled_near_up : (digits high low : ℕ) → high < low + 16 → low ≤ high
    → settled digits high low ≡ min (digits * 10 ^ (high - low)) 1000000000000001
unfolding settled
settled_near_up digits high low h k = grind (arith, nat_tests)

settled_far_down : (digits high low : ℕ) → high + 19 ≤ low → settled digits high low ≡ 0
unfolding settled
settled_far_down digits high low h = grind (arith, nat_tests)

settled_near_down : (digits high low : ℕ) → low < high + 19 → high < low
    → settled digits high low ≡ min (rnd digits (10 ^ (low - high))) 1000000000000001
unfolding settled
settled_near_down digits high low h k = grind (arith, nat_tests)

-- more than 15 tens of any digits but none are beyond the limit
far_product : (digits p : ℕ) → 10000000000000000 ≤ p
    → (if digits == 0 then 0 else 1000000000000001) ≡ min (digits * p) 1000000000000001
far_product digits p h =
    let some : 0 < digits → p ≤ p * digits = λ k. le-mul_of_pos_right p k in
    grind (arith, nat_tests)

settled_up : (digits high low : ℕ) → low ≤ high
    → settled digits high low ≡ min (digits * 10 ^ (high - low)) 1000000000000001
settled_up digits high low h = by_distance (cases_lt high (low + 16))
  where
    by_distance : (high < low + 16) ⊎ (low + 16 ≤ high)
        → settled digits high low ≡ min (digits * 10 ^ (high - low)) 1000000000000001
    by_distance (inl near) = settled_near_up digits high low near h
    by_distance (inr far) = settled_far_up digits high low far
        ∙ far_product digits (10 ^ (high - low)) (ten_ge 16 (high - low) (omega arith))

settled_down : (digits high low : ℕ) → digits < 2000000000000000000 → high < low
    → settled digits high low ≡ min (rnd digits (10 ^ (low - high))) 1000000000000001
settled_down digits high low fits h = by_distance (cases_lt low (high + 19))
  where
    by_distance : (low < high + 19) ⊎ (high + 19 ≤ low)
        → settled digits high low ≡ min (rnd digits (10 ^ (low - high))) 1000000000000001
    by_distance (inl near) = settled_near_down digits high low near h
    by_distance (inr far) =
        let tens = ten_ge 19 (low - high) (omega arith) in
        settled_far_down digits high low far
        ∙ ap (λ z. min z 1000000000000001) (sym (rnd_small digits (10 ^ (low - high)) (omega arith)))

-- ---- the digits kept of a number

-- n has the digits kept, and then as many as were dropped; none is dropped behind fewer than 18
pub record Stands (n kept dropped : ℕ) : Type 0 where
  pub low : ℕ
  pub whole : n ≡ kept * 10 ^ dropped + low
  pub under : low < 10 ^ dropped
  pub fits : kept < 2000000000000000000
  pub full : (dropped ≡ 0) ⊎ (100000000000000000 ≤ kept)

-- no digit is kept of none
pub stands_zero : Stands 0 0 0
stands_zero = record {
  low = 0;
  whole = omega arith;
  under = omega arith;
  fits = omega arith;
  full = inl refl;
}

-- one digit more is kept
pub stands_kept : (n kept dropped d : ℕ) → d < 10 → kept < 100000000000000000 → Stands n kept dropped
    → Stands (10 * n + d) (10 * kept + d) dropped
stands_kept n kept dropped d small room h = record {
  low = 0;
  whole = omega (
    arith,
    ap (λ z. 10 ^ z) none,
    ap (λ z. kept * 10 ^ z) none,
    ap (λ z. (10 * kept + d) * 10 ^ z) none,
    h.whole,
    h.under,
  );
  under = ten_pos dropped;
  fits = omega arith;
  full = inl none;
}
  where
    by_digits : (dropped ≡ 0) ⊎ (100000000000000000 ≤ kept) → dropped ≡ 0
    by_digits (inl e) = e
    by_digits (inr e) = absurd (omega arith)

    none : dropped ≡ 0
    none = by_digits h.full

-- one digit more is dropped
pub stands_dropped : (n kept dropped d : ℕ) → d < 10 → 100000000000000000 ≤ kept → Stands n kept dropped
    → Stands (10 * n + d) kept (dropped + 1)
stands_dropped n kept dropped d small full h = record {
  low = 10 * h.low + d;
  whole = omega (arith, h.whole, one_more, ap (λ z. kept * z) one_more);
  under = omega (arith, h.under, one_more);
  fits = h.fits;
  full = inr full;
}
  where
    one_more : 10 ^ (dropped + 1) ≡ 10 * 10 ^ dropped
    one_more = ap (λ z. 10 ^ z) (add-one dropped) ∙ pow-succ' 10 dropped

-- ---- what is kept settles the value

-- all digits are kept: the product is exact
up_exact : (kept a b : ℕ) → b ≤ a → kept * 10 ^ (a - b) ≡ rnd (kept * 10 ^ a) (10 ^ b)
up_exact kept a b le =
    let parts : 10 ^ a ≡ 10 ^ (a - b) * 10 ^ b = ap (λ z. 10 ^ z) (omega arith) ∙ pow-add 10 (a - b) b in
    let split : kept * 10 ^ a ≡ (kept * 10 ^ (a - b)) * 10 ^ b = omega (arith, ap (λ z. kept * z) parts) in
    sym (ap (λ z. rnd z (10 ^ b)) split ∙ rnd_whole (kept * 10 ^ (a - b)) (10 ^ b) (ten_pos b))

-- some are dropped: both sides are beyond the limit
beyond : (x y : ℕ) → 1000000000000001 ≤ x → 1000000000000001 ≤ y
    → min x 1000000000000001 ≡ min y 1000000000000001
beyond x y h k = omega arith

up_beyond : (n kept low p q u t : ℕ) → n ≡ kept * p + low → 0 < u → u ≤ p * q → 100000000000000000 ≤ kept
    → 0 < t → min (kept * t) 1000000000000001 ≡ min (rnd (n * q) u) 1000000000000001
up_beyond n kept low p q u t whole some le full one =
    let tens : kept * u ≤ kept * (p * q) = mul-le-mul_left kept le in
    let all : n * q ≡ (kept * p + low) * q = ap (λ z. z * q) whole in
    let quotient : kept ≤ rnd (n * q) u = rnd_ge kept (n * q) u some (omega (arith, tens, all)) in
    beyond (kept * t) (rnd (n * q) u) (omega (arith, mul-le-mul_left kept one)) (omega arith)

stands_up : (n kept dropped a b : ℕ) → Stands n kept dropped → b ≤ dropped + a
    → min (kept * 10 ^ ((dropped + a) - b)) 1000000000000001
    ≡ min (rnd (n * 10 ^ a) (10 ^ b)) 1000000000000001
stands_up n kept dropped a b h le = by_digits h.full
  where
    by_digits : (dropped ≡ 0) ⊎ (100000000000000000 ≤ kept)
        → min (kept * 10 ^ ((dropped + a) - b)) 1000000000000001
        ≡ min (rnd (n * 10 ^ a) (10 ^ b)) 1000000000000001
    by_digits (inl none) =
        let one : 10 ^ dropped ≡ 1 = ap (λ z. 10 ^ z) none in
        let same : kept ≡ n = omega (arith, one, ap (λ z. kept * z) one, h.whole, h.under) in
        let shift : (dropped + a) - b ≡ a - b = omega arith in
        ap (λ z. min z 1000000000000001)
        (ap (λ z. kept * 10 ^ z) shift ∙ up_exact kept a b (omega arith)
        ∙ ap (λ z. rnd (z * 10 ^ a) (10 ^ b)) same)
    by_digits (inr full) =
        let tens : 10 ^ b ≤ 10 ^ dropped * 10 ^ a =
        omega (arith, ten_ge b (dropped + a) le, pow-add 10 dropped a) in
        up_beyond n kept h.low (10 ^ dropped) (10 ^ a) (10 ^ b) (10 ^ ((dropped + a) - b)) h.whole
        (ten_pos b) tens full (ten_pos ((dropped + a) - b))

-- the quotient doesn't depend on the digits dropped, since it drops one more at least
down_core : (n kept low p q h : ℕ) → n ≡ kept * p + low → low < p → 0 < q
    → rnd kept (2 * h) ≡ rnd (n * q) ((p * q) * (2 * h))
down_core n kept low p q h whole under some =
    let all : n * q ≡ (kept * p + low) * q = ap (λ z. z * q) whole in
    let split : n * q ≡ kept * (p * q) + low * q = omega (arith, all) in
    sym (ap (λ z. rnd z ((p * q) * (2 * h))) split
    ∙ rnd_drop kept (p * q) (low * q) h (mul-lt-mul_of_pos_right under some))

stands_down : (n kept dropped a b : ℕ) → Stands n kept dropped → dropped + a < b
    → rnd kept (10 ^ (b - (dropped + a))) ≡ rnd (n * 10 ^ a) (10 ^ b)
stands_down n kept dropped a b h lt =
    let j : ℕ = b - (dropped + a) in
    let half = ten_even j (omega arith) in
    let tens : 10 ^ b ≡ (10 ^ dropped * 10 ^ a) * 10 ^ j =
    ap (λ z. 10 ^ z) (omega arith) ∙ pow-add 10 (dropped + a) j
    ∙ ap (λ z. z * 10 ^ j) (pow-add 10 dropped a) in
    ap (rnd kept) half.1 ∙ down_core n kept h.low (10 ^ dropped) (10 ^ a) half.0 h.whole h.under (ten_pos a)
    ∙ ap (λ z. rnd (n * 10 ^ a) ((10 ^ dropped * 10 ^ a) * z)) (sym half.1) ∙ ap (rnd (n * 10 ^ a)) (sym tens)

-- exact powers: the digits kept give the millionths, up to the limit
pub settled_is : (n kept dropped a b : ℕ) → Stands n kept dropped
    → settled kept (dropped + a) b ≡ min (rnd (n * 10 ^ a) (10 ^ b)) 1000000000000001
settled_is n kept dropped a b h = by_order (cases_lt (dropped + a) b)
  where
    by_order : (dropped + a < b) ⊎ (b ≤ dropped + a)
        → settled kept (dropped + a) b ≡ min (rnd (n * 10 ^ a) (10 ^ b)) 1000000000000001
    by_order (inl lt) = settled_down kept (dropped + a) b h.fits lt
        ∙ ap (λ z. min z 1000000000000001) (stands_down n kept dropped a b h lt)
    by_order (inr le) = settled_up kept (dropped + a) b le ∙ stands_up n kept dropped a b h le

-- powers that are cut decide as the exact ones, where both are so far apart
pub settled_above : (digits high low h l : ℕ) → low + 16 ≤ high → l + 16 ≤ h
    → settled digits high low ≡ settled digits h l
settled_above digits high low h l far off =
    settled_far_up digits high low far ∙ sym (settled_far_up digits h l off)

-- and to the other side
pub settled_below : (digits high low h l : ℕ) → high + 19 ≤ low → h + 19 ≤ l
    → settled digits high low ≡ settled digits h l
settled_below digits high low h l far off =
    settled_far_down digits high low far ∙ sym (settled_far_down digits h l off)

-- ---- a limit on the millionths changes nothing

fixed_over : (minus : Bool) (n : ℕ) → 1000000000000000 < n → fixed minus n ≡ (if minus then Low else High)
fixed_over minus n h = ap
    (λ t. if t then (if minus then Low else High) else Value (if minus then neg_ℤ (pos n) else pos n))
    (lt-ltb _ _ h)

-- millionths beyond the limit may be cut to one beyond it
pub fixed_min : (minus : Bool) (n : ℕ) → fixed minus (min n 1000000000000001) ≡ fixed minus n
fixed_min minus n = by_size (cases_lt 1000000000000000 n)
  where
    by_size : (1000000000000000 < n) ⊎ (n ≤ 1000000000000000)
        → fixed minus (min n 1000000000000001) ≡ fixed minus n
    by_size (inl over) = fixed_over minus (min n 1000000000000001) (omega arith)
        ∙ sym (fixed_over minus n over)
    by_size (inr fits) = ap (fixed minus) (omega arith)

-- ---- a value is a coordinate

-- millionths within the limit are a value
pub fixed_fits : (minus : Bool) (n : ℕ) → n ≤ 1000000000000000
    → fixed minus n ≡ Value (if minus then neg_ℤ (pos n) else pos n)
fixed_fits minus n h =
    ap (λ t. if t then (if minus then Low else High) else Value (if minus then neg_ℤ (pos n) else pos n))
    (le-ltb _ _ h)

signed_in : (minus : Bool) (n : ℕ) → n ≤ 1000000000000000
    → IsCoordinate (if minus then neg_ℤ (pos n) else pos n)
signed_in true n h = (omega (arith, ints), omega (arith, ints))
signed_in false n h = (omega (arith, ints), omega (arith, ints))

over_in : (minus : Bool) → IsInRange (if minus then Low else High)
over_in true = tt
over_in false = tt

-- and that value is a coordinate
pub fixed_in : (minus : Bool) (n : ℕ) → IsInRange (fixed minus n)
fixed_in minus n = by_size (cases_lt 1000000000000000 n)
  where
    by_size : (1000000000000000 < n) ⊎ (n ≤ 1000000000000000) → IsInRange (fixed minus n)
    by_size (inl over) = subst IsInRange (sym (fixed_over minus n over)) (over_in minus)
    by_size (inr fits) = subst IsInRange (sym (fixed_fits minus n fits)) (signed_in minus n fits)
