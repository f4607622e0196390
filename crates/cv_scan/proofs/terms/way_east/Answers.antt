use Rattle.std.proofs.Common.{arith}
use Rattle.std.proofs.lemmas.Int.{ints}
use Rattle.cv_scan.proofs.terms.way_east.Goals as goal

pub returns-clause-value : goal.returns-clause-value
returns-clause-value c =
    let run = c.run_at.ensures.bound in
    let rise = c.rise_at.ensures.bound in
    omega (arith, ints, c.run_at.ensures.value, c.rise_at.ensures.value)

pub returns-clause-bound : goal.returns-clause-bound
returns-clause-bound c =
    let run = c.run_at.ensures.bound in
    let rise = c.rise_at.ensures.bound in
    omega (arith, ints)
