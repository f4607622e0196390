use Rattle.std.proofs.Common.{◌<◌, length, arith}
use Rattle.std.proofs.lemmas.List.{length-map}
use Rattle.cv_chunks.specs.Buckets.{numbers_of}
use Rattle.cv_chunks.proofs.BucketLemmas.{entered_more, bucket_pushed}
use Rattle.cv_chunks.proofs.buckets.enter.Goals as goal

pub loop-row-preserved : goal.loop-row-preserved
loop-row-preserved c =
    let all = c.loop-row.buckets in
    let number = c.args.number in
    let high : c.loop-row.row < length all.items =
    omega (
      arith,
      c.loop-row.invariant.count,
      length-map c.args.buckets.now.items (λ bucket. bucket.items),
      length-map all.items (λ bucket. bucket.items),
      c.args.buckets.now.ok,
    ) in
    entered_more (numbers_of c.args.buckets.now) (numbers_of all) _ c.args.range.first c.loop-row.row
    number c.loop-row.auto.row
    (omega (arith, high, length-map all.items (λ bucket. bucket.items))) c.loop-row.invariant
    (bucket_pushed all.items c.loop-row.row number c.index_mut.result.now c.push.new.self high
    c.index_mut.ensures.value c.in_ok-push.ensures.items)
