use Rattle.std.proofs.Common.{arith}
use Rattle.std.proofs.lemmas.Int.{ints}
use Rattle.cv_geom.proofs.PlaceLemmas.{unit-small}
use Rattle.cv_geom.proofs.places.way_before.Goals as goal

pub overflow_sub-result-3 : goal.overflow_sub-result-3
overflow_sub-result-3 c =
    let unit = unit-small _ c.view.invariant in
    let least = c.view.invariant.unit in
    let edge = c.view.invariant.left in
    let low = c.requires.west in
    let high = c.requires.east in
    omega (arith, ints)

pub returns : goal.returns
returns c =
    let unit = unit-small _ c.view.invariant in
    let least = c.view.invariant.unit in
    let edge = c.view.invariant.left in
    let low = c.requires.west in
    let high = c.requires.east in
    rw (← c.view.view_is) (omega (arith, ints))
