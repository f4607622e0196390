use Rattle.std.proofs.Common.{w64, FitsSigned, arith, rules}
use Rattle.std.proofs.lemmas.Int.{ints, to_z-of_z}
use Rattle.cv_geom.proofs.PositionLemmas.{same_place}
use Rattle.cv_geom.proofs.centres.centre.Goals as goal

pub invariant_of-result : goal.invariant_of-result
invariant_of-result c =
    let fits : FitsSigned w64 c.view.inside.u = search rules in
    let unit = to_z-of_z w64 c.view.inside.u fits in
    let left = c.view.invariant.left in
    let right = c.view.invariant.right in
    let top = c.view.invariant.top in
    let bottom = c.view.invariant.bottom in
    let east = rw unit at c.offset.ensures.high in
    let south = rw unit at c.offset-2.ensures.high in
    record { x_in = (omega (arith, ints), omega (arith, ints)); y_in = (omega (arith, ints), omega (arith, ints)) }

pub returns : goal.returns
returns c =
    let fits : FitsSigned w64 c.view.inside.u = search rules in
    let unit = to_z-of_z w64 c.view.inside.u fits in
    let left = c.view.invariant.left in
    let right = c.view.invariant.right in
    let top = c.view.invariant.top in
    let bottom = c.view.invariant.bottom in
    let east = rw unit at c.offset.ensures.value in
    let east_end = rw unit at c.offset.ensures.high in
    let south = rw unit at c.offset-2.ensures.value in
    let south_end = rw unit at c.offset-2.ensures.high in
    rw (← c.view.view_is) (same_place _ _ (omega (arith, ints)) (omega (arith, ints)))
