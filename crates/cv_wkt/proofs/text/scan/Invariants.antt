-- Up to an offset the tokens are read: the rest gives the answer of the whole text.
use Rattle.std.proofs.Common.{◌-◌, length}
use Rattle.cv_wkt.proofs.ScanLemmas.{Along}
use Rattle.cv_wkt.proofs.text.scan.Given as goal

abbrev pub invariant-loop-at : goal.invariant-loop-at
invariant-loop-at l = Along l.text l.at l.reader

abbrev pub decreases-loop-at : goal.decreases-loop-at
decreases-loop-at l = length l.text - l.at
