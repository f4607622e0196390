-- The product stays within the limit.
use Rattle.std.proofs.Common.{arith}
use Rattle.cv_wkt.proofs.ShortLemmas.{raised_small}
use Rattle.cv_wkt.proofs.short.raised.Goals as goal

pub overflow_mul-result : goal.overflow_mul-result
overflow_mul-result c =
    let small = raised_small c.args.number c.args.places c.unit.result c.requires.places c.requires.small
    c.unit.ensures in
    omega (arith, small)

pub returns-clause-small : goal.returns-clause-small
returns-clause-small c =
    raised_small c.args.number c.args.places c.unit.result c.requires.places c.requires.small c.unit.ensures
