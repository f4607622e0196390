-- Up to an offset the tokens are taken: the rest gives the answer of the whole text.
use Rattle.std.proofs.Common.{◌-◌, length}
use Rattle.cv_grid.proofs.HeaderLemmas.{HeaderAlong}
use Rattle.cv_grid.proofs.header.read_header.Given as goal

abbrev pub invariant-loop-at : goal.invariant-loop-at
invariant-loop-at l = HeaderAlong l.text l.at l.reading

abbrev pub decreases-loop-at : goal.decreases-loop-at
decreases-loop-at l = length l.text - l.at
