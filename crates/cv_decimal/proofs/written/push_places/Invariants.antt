use Rattle.std.proofs.Common.{string_bytes}
use Rattle.cv_decimal.proofs.WrittenLemmas.{Placing}
use Rattle.cv_decimal.proofs.written.push_places.Given as goal

abbrev pub invariant-loop-rest : goal.invariant-loop-rest
invariant-loop-rest l = Placing (string_bytes l.fn.text) l.fn.rest (string_bytes l.text) l.rest l.places

abbrev pub decreases-loop-rest : goal.decreases-loop-rest
decreases-loop-rest l = l.places
