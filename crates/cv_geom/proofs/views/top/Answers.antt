use Rattle.std.proofs.Common.{arith}
use Rattle.std.proofs.lemmas.Int.{ints}
use Rattle.cv_geom.proofs.views.top.Goals as goal

pub returns : goal.returns
returns c =
    let south_in = c.extent.invariant.south_in in
    let north_in = c.extent.invariant.north_in in
    rw (← c.extent.view_is) (omega (arith, ints))
