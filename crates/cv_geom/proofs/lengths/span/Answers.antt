use Rattle.std.proofs.Common.{pos, ◌*ℤ◌, ◌^◌, arith, rules}
use Rattle.std.proofs.lemmas.Int.{ints}
use Rattle.cv_geom.proofs.ProductLemmas.{abs-mul-le}
use Rattle.cv_geom.proofs.lengths.span.Goals as goal

pub returns-clause-value : goal.returns-clause-value
returns-clause-value c = search rules

pub returns-clause-bound : goal.returns-clause-bound
returns-clause-bound c =
    let bound = abs-mul-le (pos 2 *ℤ c.args.pixels) c.args.u (2 ^ 33) (2 ^ 63) (omega (arith, ints)) (omega (arith, ints)) in
    rw (returns-clause-value c) bound
