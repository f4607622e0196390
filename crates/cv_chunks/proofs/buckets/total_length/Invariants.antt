use Rattle.std.proofs.Common.{◌≡◌, ◌≤◌, ◌*◌, take}
use Rattle.std.specs.List.{sum_by}
use Rattle.cv_chunks.specs.Buckets.{length_of}
use Rattle.cv_chunks.proofs.buckets.total_length.Given as goal

-- the total so far, which is no more than so many of the longest ranges have
abbrev pub invariant-loop-range : goal.invariant-loop-range
invariant-loop-range l = record {
  sum : l.total ≡ sum_by length_of (take l.range-index l.ranges);
  fits : l.total ≤ l.range-index * 4294967295;
}
