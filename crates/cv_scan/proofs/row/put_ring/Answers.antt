use Rattle.std.proofs.Common.{sym, arith}
use Rattle.cv_geom.proofs.CrossingLemmas.{edges-last}
use Rattle.cv_scan.proofs.row.put_ring.Goals as goal

pub loop-point-init : goal.loop-point-init
loop-point-init g c =
    let ring = edges-last c.args.points.now c.in-Some.last.now (sym c.in-Some.ensures.value) in
    grind (arith, ring)
