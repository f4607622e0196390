-- The written form of a decimal.
use Rattle.std.specs.Prelude.{ℕ, zero, suc, ◌+◌, ◌/◌, ◌%◌, ◌^◌, ◌==◌, if◌then◌else◌, ℤ, pos, int_lt}
use Rattle.std.specs.Prelude.{unsigned_abs, List, [], ◌∷◌, ◌++◌, decimal}

-- the digits of r / 10^k behind the point, up to the last that isn't zero
abbrev pub places_of : ℕ → ℕ → List ℕ
places_of zero r = []
places_of (suc k) r = if r == 0 then [] else (48 + r / 10 ^ k) ∷ places_of k (r % 10 ^ k)

-- the whole part without leading zeros, and, where the rest isn't zero, a point and the rest without trailing
-- zeros
abbrev pub written_size : ℕ → List ℕ
written_size n = decimal (n / 1000000) ++ (if n % 1000000 == 0 then [] else 46 ∷ places_of 6 (n % 1000000))

-- a number of millionths, with `-` before it if negative
unfoldable pub written : ℤ → List ℕ
written z = if int_lt z (pos 0) then 45 ∷ written_size (unsigned_abs z) else written_size (unsigned_abs z)
