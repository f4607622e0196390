use Rattle.cv_decimal.proofs.DigitLemmas.{Kept_digits}
use Rattle.cv_decimal.proofs.kept.Kept.keep_digits.Given as goal

abbrev pub invariant-loop-at : goal.invariant-loop-at
invariant-loop-at l = Kept_digits l.text l.fn.self l.self l.at
