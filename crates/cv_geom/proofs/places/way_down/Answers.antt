use Rattle.std.proofs.Common.{arith}
use Rattle.std.proofs.lemmas.Int.{ints}
use Rattle.cv_geom.proofs.PlaceLemmas.{unit-small}
use Rattle.cv_geom.proofs.places.way_down.Goals as goal

pub overflow_sub-result-2 : goal.overflow_sub-result-2
overflow_sub-result-2 c =
    let unit = unit-small _ c.view.invariant in
    let least = c.view.invariant.unit in
    let edge = c.view.invariant.top in
    let low = c.requires.low in
    let high = c.requires.high in
    omega (arith, ints)

pub returns : goal.returns
returns c =
    let unit = unit-small _ c.view.invariant in
    let least = c.view.invariant.unit in
    let edge = c.view.invariant.top in
    let low = c.requires.low in
    let high = c.requires.high in
    rw (← c.view.view_is) (omega (arith, ints))
