-- A division as a product with a reciprocal.
use Rattle.std.proofs.Common.{◌≡◌, ℕ, zero, suc, ◌+◌, ◌-◌, ◌*◌, ◌/◌, ◌<◌, ◌≤◌, ⊎_elim, get_or, replicate, arith, refl}
use Rattle.std.proofs.Math.Nat.{div-eq_of_lt-le, div-lt_iff_lt-mul, div-mul-le_self, lt-mul-div-succ, mul-div-le}
use Rattle.std.proofs.Math.Nat.{mul-le-mul, mul-le-mul_left, mul-le-mul_right, lt_of_mul-lt-mul_left}
use Rattle.std.proofs.lemmas.Bool.{cases_lt}
use Rattle.cv_model.specs.Colours.{covered}
use Rattle.cv_canvas.specs.Reciprocals.{AreFound}

-- a quotient and its divisor's reciprocal: no less than p times the quotient
at_least : (p d x m q : ℕ) → p ≤ d * m → q * d ≤ x → q * p ≤ x * m
at_least p d x m q enough quotient =
    let a : q * p ≤ q * (d * m) = mul-le-mul_left q enough in
    let b : (q * d) * m ≤ x * m = mul-le-mul_right m quotient in
    let e : q * (d * m) ≡ (q * d) * m = grind arith in omega (arith, a, b, e)

-- and less than p times the next number
less_than : (p d x m q : ℕ) → d * m ≤ p + d → x * d < p → x < d * (q + 1) → x * m < (q + 1) * p
less_than p d x m q most small quotient =
    let a : x * (d * m) ≤ x * (p + d) = mul-le-mul_left x most in
    let b : (x + 1) * p ≤ (d * (q + 1)) * p = mul-le-mul_right p (omega arith) in
    let ea : x * (d * m) ≡ d * (x * m) = grind arith in
    let eb : x * (p + d) ≡ x * p + x * d = grind arith in
    let ec : (x + 1) * p ≡ x * p + p = grind arith in
    let ed : (d * (q + 1)) * p ≡ d * ((q + 1) * p) = grind arith in
    lt_of_mul-lt-mul_left d (omega (arith, a, b, ea, eb, ec, ed, small))

-- a product with a reciprocal, divided by p, is a quotient
magic : (p d x : ℕ) → 0 < d → x * d < p → (x * (p / d + 1)) / p ≡ x / d
magic p d x some small =
    let over : p < d * (p / d + 1) = lt-mul-div-succ p some in
    let under : d * (p / d) ≤ p = mul-div-le p d in
    let most : d * (p / d + 1) ≤ p + d =
    let e : d * (p / d + 1) ≡ d * (p / d) + d = grind arith in omega (arith, e, under) in
    div-eq_of_lt-le p (at_least p d x (p / d + 1) (x / d) (omega (arith, over)) (div-mul-le_self x d))
    (less_than p d x (p / d + 1) (x / d) most small (lt-mul-div-succ x some))

-- at 2^48, for what a channel is divided by
pub by_reciprocal : (n w : ℕ) → n ≤ 511 * w → w ≤ 65025
    → (n * (281474976710656 / (2 * w) + 1)) / 281474976710656 ≡ n / (2 * w)
by_reciprocal n w most byte =
    ⊎_elim (λ some.
    let first : n ≤ 33227775 = omega (arith, most, byte) in
    let second : 2 * w ≤ 130050 = omega (arith, byte) in
    let small : n * (2 * w) ≤ 33227775 * 130050 = mul-le-mul first second in
    magic 281474976710656 (2 * w) n (omega arith) (omega (arith, small)))
    (λ less.
    let none : w ≡ 0 = omega (arith, less) in
    let nothing : n ≡ 0 = omega (arith, none, most) in rw (none, nothing) refl)
    (cases_lt 0 w)

-- such a quotient is a byte
pub byte_quotient : (n w : ℕ) → n ≤ 511 * w → n / (2 * w) ≤ 255
byte_quotient n w most =
    ⊎_elim (λ some.
    let divides : 0 < 2 * w = omega (arith, some) in
    let below : n < 256 * (2 * w) = omega (arith, some, most) in
    let byte : n / (2 * w) < 256 = (div-lt_iff_lt-mul divides).1 below in omega (arith, byte))
    (λ less.
    let none : w ≡ 0 = omega (arith, less) in
    let nothing : n ≡ 0 = omega (arith, none, most) in
    let e : n / (2 * w) ≡ 0 = rw (none, nothing) refl in omega (arith, e))
    (cases_lt 0 w)

-- such a product fits 64 bits
pub product_fits : (n w : ℕ) → n ≤ 511 * w → w ≤ 65025
    → n * (281474976710656 / (2 * w) + 1) < 18446744073709551616
product_fits n w most byte =
    let m = 281474976710656 / (2 * w) + 1 in
    let under : (2 * w) * (281474976710656 / (2 * w)) ≤ 281474976710656 = mul-div-le 281474976710656 (2 * w) in
    let a : n * m ≤ (511 * w) * m = mul-le-mul_right m most in
    let e : 2 * ((511 * w) * m) ≡ 511 * ((2 * w) * (281474976710656 / (2 * w)) + 2 * w) = grind arith in
    omega (arith, under, a, e, byte)

-- 255 times the alpha of a source over a backdrop is 65,025 at most
pub covered_most : (sa ba : ℕ) → sa ≤ 255 → ba ≤ 255 → covered sa ba ≤ 65025
covered_most sa ba source backdrop =
    let own : ba * (255 - sa) ≤ 255 * (255 - sa) = mul-le-mul_right (255 - sa) backdrop in omega (arith, own)

-- where none is found yet
nought : (n k : ℕ) → ◌≡◌ {A = ℕ} (get_or (replicate n 0) k 0) 0
nought zero k = refl
nought (suc n) zero = refl
nought (suc n) (suc k) = nought n k

pub none_found : (source n : ℕ) → AreFound source (replicate n 0)
none_found source n backdrop some = absurd (omega (arith, some, nought n backdrop))
