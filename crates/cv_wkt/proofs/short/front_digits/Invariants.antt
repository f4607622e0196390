-- The bytes so far are digits, and write the number so far.
use Rattle.cv_wkt.specs.Short.{AreDigits}
use Rattle.cv_wkt.proofs.short.front_digits.Given as goal

abbrev pub invariant-loop-at : goal.invariant-loop-at
invariant-loop-at l = AreDigits l.text l.from l.number l.at
