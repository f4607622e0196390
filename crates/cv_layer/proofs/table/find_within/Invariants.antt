use Rattle.std.proofs.Common.{◌-◌, take, drop}
use Rattle.cv_layer.proofs.TableLemmas.{IsNarrowed}
use Rattle.cv_layer.proofs.table.find_within.Given as goal

abbrev pub invariant-loop-low : goal.invariant-loop-low
invariant-loop-low l = IsNarrowed (take (l.end - l.start) (drop l.start l.rows)) l.id l.low l.high

-- proposed from the loop's first test
abbrev pub decreases-loop-low : goal.decreases-loop-low
decreases-loop-low l = l.high - l.low
