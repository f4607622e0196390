use Rattle.std.proofs.Common.{w64, FitsSigned, arith, rules}
use Rattle.std.proofs.lemmas.Int.{ints, to_z-of_z}
use Rattle.cv_paint.proofs.windows.top_of.Goals as goal

pub returns-clause-value : goal.returns-clause-value
returns-clause-value c =
    let fits : FitsSigned w64 c.view.inside.u = search rules in
    let unit = to_z-of_z w64 c.view.inside.u fits in
    let top = c.view.invariant.top in
    let bottom = c.view.invariant.bottom in
    let value = rw unit at c.reach.ensures.value in
    let high = rw unit at c.reach.ensures.high in
    rw (← c.view.view_is) (omega (arith, ints))

pub returns-clause-range : goal.returns-clause-range
returns-clause-range c =
    let fits : FitsSigned w64 c.view.inside.u = search rules in
    let unit = to_z-of_z w64 c.view.inside.u fits in
    let top = c.view.invariant.top in
    let bottom = c.view.invariant.bottom in
    let low = c.reach.ensures.low in
    let high = rw unit at c.reach.ensures.high in
    (omega (arith, ints), omega (arith, ints))
