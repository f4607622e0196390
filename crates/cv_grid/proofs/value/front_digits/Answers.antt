-- Nine digits fit.
use Rattle.std.proofs.Common.{arith}
use Rattle.std.proofs.Math.Nat.{pow-le-pow_right}
use Rattle.cv_grid.proofs.value.front_digits.Goals as goal

pub overflow_mul-number : goal.overflow_mul-number
overflow_mul-number c =
    let cap = pow-le-pow_right {n = 10} (omega arith) {i = c.loop-at.at} {j = 8} (omega arith) in
    omega (arith, cap)

pub overflow_add-number : goal.overflow_add-number
overflow_add-number c =
    let cap = pow-le-pow_right {n = 10} (omega arith) {i = c.loop-at.at} {j = 8} (omega arith) in
    omega (arith, cap)
