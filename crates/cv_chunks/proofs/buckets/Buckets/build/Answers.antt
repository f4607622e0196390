use Rattle.std.proofs.Common.{arith, take, get_or}
use Rattle.std.proofs.lemmas.List.{take_more, length-take-le}
use Rattle.cv_chunks.specs.declared.buckets.RowRange.{RowRange}
use Rattle.cv_chunks.specs.Buckets.{numbers_of}
use Rattle.cv_chunks.proofs.BucketLemmas.{bucket_count, buckets_more}
use Rattle.cv_chunks.proofs.buckets.Buckets.build.Goals as goal

pub enter-requires : goal.enter-requires
enter-requires c =
    let fits = c.requires.within c.loop-number.number (record { first = 0; end = 0 })
    c.loop-number-test.true in
    let count = bucket_count c.loop-number.buckets c.args.rows (take c.loop-number.number
    c.args.ranges.now) c.loop-number.invariant in
    (fits.0, omega (arith, count, c.loop-number.buckets.ok, fits.1))

pub loop-number-preserved : goal.loop-number-preserved
loop-number-preserved c =
    let ranges = c.args.ranges.now in
    let number = c.loop-number.number in
    let none : RowRange = record { first = 0; end = 0 } in
    let fits = c.requires.within number none c.loop-number-test.true in
    let long = length-take-le number ranges (omega arith) in
    rw (take_more ranges number none c.loop-number-test.true)
    (buckets_more c.args.rows (take number ranges) (get_or ranges number none) (numbers_of
    c.loop-number.buckets) (numbers_of c.enter.new.buckets)
    fits.1 c.loop-number.invariant (rw long c.in_ok-enter.ensures))
