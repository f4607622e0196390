use Rattle.std.proofs.Common.{◌≡◌, ◌≤◌, ◌-◌, replicate}
use Rattle.cv_scan.proofs.planes.clear.Given as goal

-- no bit so far is set
abbrev pub invariant-loop-n : goal.invariant-loop-n
invariant-loop-n l = record {
  most : l.n ≤ l.count;
  zeros : l.bits.items ≡ replicate l.n 0;
}

abbrev pub decreases-loop-n : goal.decreases-loop-n
decreases-loop-n l = l.count - l.n
