use Rattle.cv_decimal.proofs.ScanLemmas.{Along}
use Rattle.cv_decimal.proofs.scan.scan_any.Given as goal

abbrev pub invariant-loop-at : goal.invariant-loop-at
invariant-loop-at l = Along l.text l.place l.kept l.at
