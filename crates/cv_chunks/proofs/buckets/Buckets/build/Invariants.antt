use Rattle.std.proofs.Common.{◌≡◌, take}
use Rattle.cv_chunks.specs.Buckets.{buckets_of, numbers_of}
use Rattle.cv_chunks.proofs.buckets.Buckets.build.Given as goal

-- the buckets are those of the ranges so far
abbrev pub invariant-loop-number : goal.invariant-loop-number
invariant-loop-number l = numbers_of l.buckets ≡ buckets_of l.rows (take l.number l.ranges)
