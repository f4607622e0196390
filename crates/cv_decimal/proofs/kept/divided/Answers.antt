use Rattle.std.proofs.Common.{arith}
use Rattle.std.proofs.Math.Nat.{one-le-pow, pow-le-pow_right}
use Rattle.cv_decimal.proofs.kept.divided.Goals as goal

pub overflow_mul-result : goal.overflow_mul-result
overflow_mul-result c = omega
    (arith, pow-le-pow_right {n = 10} (omega arith) {i = c.args.power} {j = 18} (omega arith))

pub nonzero_div-result : goal.nonzero_div-result
nonzero_div-result c = omega (arith, one-le-pow c.args.power 10 (omega arith))
