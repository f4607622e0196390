-- The multiples of a number, and the rows and columns that are counted by them.
use Rattle.std.proofs.Common.{◌≡◌, ◌∙◌, sym, ap, refl, true, false, ℕ, suc, ◌+◌, ◌*◌, ◌/◌, ◌<◌, ◌≤◌, nat_lt, Bool, ℤ, pos, negsuc, ◌+ℤ◌, ◌-ℤ◌, ◌*ℤ◌, ◌≤ℤ◌, int_le, int_lt, arith}
use Rattle.std.proofs.Math.Nat.{mul-le-mul_right, mul-le-mul_left, le_of_mul-le-mul_right, lt_of_mul-lt-mul_right, div-mul-le_self, lt-div-mul-add, div-eq_of_lt-le, le_of_lt}
use Rattle.std.proofs.lemmas.Int.{ints}
use Rattle.std.proofs.lemmas.Bool.Decides.{nat_tests}
use Rattle.cv_model.specs.Views.{PixelGrid, IsView, centre_of}
use Rattle.cv_geom.specs.Falls.{FallsAt}
use Rattle.cv_geom.proofs.ProductLemmas.{scaled}

-- a quotient by a reciprocal isn't too great
low-of : (p n step r q : ℕ) → 0 < p → q * p ≤ n * r → r * step < p → q * step ≤ n
low-of p n step r q some guess low =
    let whole = mul-le-mul_right step guess in
    let most = mul-le-mul_left n (le_of_lt low) in
    let left : q * step * p ≡ q * p * step = grind arith in
    let right : n * r * step ≡ n * (r * step) = grind arith in
    le_of_mul-le-mul_right {k = p} (omega arith) some

-- nor too small by more than one
high-of :
    (p n step r q : ℕ) → 0 < step → n < p → n * r < q * p + p → p ≤ r * step + step → n < q * step + (step + step)
high-of p n step r q some below guess high =
    let all = mul-le-mul_left n high in
    let guessed = mul-le-mul_right step guess in
    let rest = mul-le-mul_right step below in
    let spread : n * (r * step + step) ≡ n * r * step + n * step = grind arith in
    let spread_guess : (q * p + p) * step ≡ q * step * p + step * p = grind arith in
    let spread_one : suc (n * r) * step ≡ n * r * step + step = grind arith in
    let spread_rest : suc n * step ≡ n * step + step = grind arith in
    let turned : p * step ≡ step * p = grind arith in
    let sum : (q * step + (step + step)) * p ≡ q * step * p + (step * p + step * p) = grind arith in
    lt_of_mul-lt-mul_right p (omega arith)

pub guess-low : (p n step r : ℕ) → 0 < p → r * step < p → n * r / p * step ≤ n
guess-low p n step r some low = low-of p n step r (n * r / p) some (div-mul-le_self (n * r) p) low

pub guess-high :
    (p n step r : ℕ) → 0 < p → 0 < step → n < p → p ≤ r * step + step → n < n * r / p * step + (step + step)
guess-high p n step r room some below high =
    high-of p n step r (n * r / p) some below (lt-div-mul-add {a = n * r} {b = p} room) high

-- what a quotient is
pub quotient-is : (n step q : ℕ) → q * step ≤ n → n < q * step + step → n / step ≡ q
quotient-is n step q low high =
    let more : (q + 1) * step ≡ q * step + step = grind arith in div-eq_of_lt-le step low (omega arith)

-- the multiples up to a number are those of its quotient and of what lies before
counted :
    (step n q k : ℕ) (b : Bool) → nat_lt k (q + 1) ≡ b → q * step ≤ n → n < q * step + step
    → int_le (pos (k * step)) (pos n) ≡ b
counted step n q k true less low high =
    let under : k ≤ q = grind (arith, nat_tests) in let far = mul-le-mul_right step under in grind (arith, ints)
counted step n q k false less low high =
    let over : q + 1 ≤ k = grind (arith, nat_tests) in
    let far = mul-le-mul_right step over in
    let more : (q + 1) * step ≡ q * step + step = grind arith in
    grind (arith, ints)

pub count-falls :
    (step n q most : ℕ) (z : ℤ) → pos n ≡ z → 0 < step → q ≡ n / step → q < most
    → FallsAt (λ k. int_le (pos (k * step)) z) 0 most (q + 1)
count-falls step n q most z same some is below = record {
  low_in = omega arith;
  high_in = omega arith;
  falls = λ k from less.
      let low = div-mul-le_self n step in
      let high = lt-div-mul-add {a = n} {b = step} some in
      sym (ap (int_le (pos (k * step))) same)
      ∙ counted step n q k (nat_lt k (q + 1)) refl (rw is low) (rw is high);
}

-- the side of a pixel is in range
pub unit-small : (v : PixelGrid) → IsView v → v.u ≤ℤ pos 4000000000000000
unit-small v is =
    let few : 2 ≤ 2 * v.w = omega (arith, is.wide) in
    let wide = scaled 2 (2 * v.w) v.u few is.unit in
    let left = is.left in
    let right = is.right in
    by v.u wide.1 (omega (arith, ints))
  where
    by : (u : ℤ) → (pos 2 *ℤ u) ≤ℤ (pos (2 * v.w) *ℤ u) → (pos (2 * v.w) *ℤ u) ≤ℤ pos 8000000000000000 → u ≤ℤ pos 4000000000000000
    by u less most = grind (arith, ints)

-- how far the centre of a pixel lies from the first, and half a pixel more
centre-far : (u : ℤ) (side k : ℕ) → pos side ≡ pos 2 *ℤ u → pos (2 * k + 1) *ℤ u ≡ pos (k * side) +ℤ u
centre-far (pos m) side k is =
    let twice : side ≡ 2 * m = omega (arith, ints) in
    let far : (2 * k + 1) * m ≡ k * (2 * m) + m = grind arith in
    let same : k * side ≡ k * (2 * m) = ap (λ s. k * s) twice in
    omega (arith, ints)
centre-far (negsuc m) side k is = absurd (omega (arith, ints))

-- the multiples of a pixel's side up to the way from the first centre down to a height tell the rows above
pub row-same :
    (v : PixelGrid) (side j : ℕ) (n y : ℤ) → pos side ≡ pos 2 *ℤ v.u → n ≡ v.ty2 -ℤ v.u -ℤ y
    → int_le y (centre_of v 0 j).y ≡ int_le (pos (j * side)) n
row-same v side j n y is told = turned (pos (2 * j + 1) *ℤ v.u) (pos (j * side)) (centre-far v.u side j is)
  where
    turned : (far a : ℤ) → far ≡ a +ℤ v.u → int_le y (v.ty2 -ℤ far) ≡ int_le a n
    turned far a same = grind (arith, ints)

-- and those less than the way from the first centre to a place tell the columns left of it
pub column-same :
    (v : PixelGrid) (side i : ℕ) (n x : ℤ) → pos side ≡ pos 2 *ℤ v.u → n ≡ x -ℤ pos 1 -ℤ v.lx2 -ℤ v.u
    → int_lt (centre_of v i 0).x x ≡ int_le (pos (i * side)) n
column-same v side i n x is told = turned (pos (2 * i + 1) *ℤ v.u) (pos (i * side)) (centre-far v.u side i is)
  where
    turned : (far a : ℤ) → far ≡ a +ℤ v.u → int_lt (v.lx2 +ℤ far) x ≡ int_le a n
    turned far a same = grind (arith, ints)
