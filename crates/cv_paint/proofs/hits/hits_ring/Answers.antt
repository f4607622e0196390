use Rattle.std.proofs.Common.{sym, arith}
use Rattle.cv_geom.proofs.CrossingLemmas.{edges-last}
use Rattle.cv_paint.proofs.hits.hits_ring.Goals as goal

pub returns-in-Some : goal.returns-in-Some
returns-in-Some c =
    let ring = edges-last c.args.ring.now c.in-Some.last.now (sym c.in-Some.ensures.value) in grind (arith, ring)
