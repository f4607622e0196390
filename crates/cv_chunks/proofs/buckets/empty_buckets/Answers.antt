use Rattle.std.proofs.Common.{◌≡◌, ◌∙◌, arith}
use Rattle.cv_chunks.proofs.BucketLemmas.{buckets_none}
use Rattle.cv_chunks.proofs.buckets.empty_buckets.Goals as goal

pub returns : goal.returns
returns c =
    let count : c.loop.counter ≡ c.args.rows = omega arith in
    rw count at c.loop.invariant ∙ buckets_none c.args.rows
