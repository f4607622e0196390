use Rattle.std.proofs.Common.{arith}
use Rattle.std.proofs.lemmas.Int.{ints}
use Rattle.cv_geom.proofs.views.left.Goals as goal

pub returns : goal.returns
returns c =
    let west_in = c.extent.invariant.west_in in
    let east_in = c.extent.invariant.east_in in
    rw (← c.extent.view_is) (omega (arith, ints))
