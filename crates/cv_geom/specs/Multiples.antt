-- Multiples: a number with its reciprocal.
--
-- Source: T. Granlund and P. L. Montgomery, Division by Invariant Integers using Multiplication, 1994.
use Rattle.std.specs.Prelude.{ℕ, ◌+◌, ◌*◌, ◌<◌, ◌≤◌}

-- the reciprocal of a number: 2^64 less 1, divided by it and rounded down
pub record AreMultiples (step reciprocal : ℕ) : Type 0 where
  pub some : 0 < step
  pub small : step ≤ 9007199254740992
  pub low : reciprocal * step < 18446744073709551616
  pub high : 18446744073709551616 ≤ reciprocal * step + step
