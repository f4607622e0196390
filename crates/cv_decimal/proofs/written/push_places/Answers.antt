use Rattle.std.proofs.Common.{arith}
use Rattle.cv_decimal.proofs.WrittenLemmas.{placing_more}
use Rattle.cv_decimal.proofs.written.push_places.Goals as goal

pub loop-rest-preserved : goal.loop-rest-preserved
loop-rest-preserved c =
    placing_more _ _ _ _ _ _ _ _ _ c.loop-rest.invariant
    (omega arith) c.pow-unit.ensures c.from.ensures c.in_ok-push.ensures.ascii c.in_ok-push.ensures.bytes
