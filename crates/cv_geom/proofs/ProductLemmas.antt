-- Products of signed numbers.
use borrow.Author.Differences.{up, down, product_is}
use Rattle.std.proofs.Common.{◌≡◌, ap, ℕ, ◌+◌, ◌*◌, ◌≤◌, ℤ, pos, negsuc, ◌+ℤ◌, ◌*ℤ◌, ◌≤ℤ◌, unsigned_abs, arith}
use Rattle.std.proofs.Math.Nat.{mul-le-mul_right}
use Rattle.std.proofs.lemmas.Int.{ints, unsigned_abs-mul}
use Rattle.std.proofs.lemmas.Nat.{mul-le}

-- fewer steps of a positive length reach less far, and not below 0
pub scaled : (k n : ℕ) (u : ℤ) → k ≤ n → pos 1 ≤ℤ u → (pos 0 ≤ℤ (pos k *ℤ u)) × ((pos k *ℤ u) ≤ℤ (pos n *ℤ u))
scaled k n (pos m) within unit = (omega (arith, ints), omega (arith, ints, mul-le-mul_right m within))
scaled k n (negsuc m) within unit = absurd (omega (arith, ints))

-- a product is at most the product of the bounds
pub abs-mul-le : (a b : ℤ) (m n : ℕ) → unsigned_abs a ≤ m → unsigned_abs b ≤ n → unsigned_abs (a *ℤ b) ≤ m * n
abs-mul-le a b m n low high = omega (arith, unsigned_abs-mul a b, mul-le (unsigned_abs a) (unsigned_abs b) m n low high)

-- a product with a sum
pub add-mul : (a b c : ℤ) → (a +ℤ b) *ℤ c ≡ a *ℤ c +ℤ b *ℤ c
add-mul a b c =
    let sum : up (a +ℤ b) + (down a + down b) ≡ down (a +ℤ b) + (up a + up b) = omega (arith, ints) in
    let above = ap (λ n. n * up c) sum in
    let below = ap (λ n. n * down c) sum in
    omega (arith, ints, product_is (a +ℤ b) c, product_is a c, product_is b c)

-- the lesser of two numbers, as many times
pub mul-le-mulZ : (x y d : ℤ) → x ≤ℤ y → pos 0 ≤ℤ d → (x *ℤ d) ≤ℤ (y *ℤ d)
mul-le-mulZ x y (pos m) less some =
    let sum : up x + down y ≤ up y + down x = omega (arith, ints) in
    let times = mul-le-mul_right m sum in
    omega (arith, ints, product_is x (pos m), product_is y (pos m))
mul-le-mulZ x y (negsuc m) less some = absurd (omega (arith, ints))
