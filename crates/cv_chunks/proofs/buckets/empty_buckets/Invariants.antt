use Rattle.std.proofs.Common.{◌≡◌, [], replicate}
use Rattle.cv_chunks.specs.Buckets.{numbers_of}
use Rattle.cv_chunks.proofs.buckets.empty_buckets.Given as goal

-- the buckets so far have no number
abbrev pub invariant-loop : goal.invariant-loop
invariant-loop l = numbers_of l.buckets ≡ replicate l.counter []
