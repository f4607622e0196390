use Rattle.std.proofs.Common.{◌<◌, length, get_or, refl, arith}
use Rattle.cv_scan.specs.Pairs.{no_marks}
use Rattle.cv_scan.proofs.PairLemmas.{pairs-more}
use Rattle.cv_scan.proofs.pairs.put_pair_runs.Goals as goal

pub loop-at-preserved : goal.loop-at-preserved
loop-at-preserved c =
    let xs = c.args.pairs.now in
    let at = c.loop-at.at in
    let less : at < length xs = omega (arith, c.loop-at-test.true, c.loop-at.auto.at-end) in
    let put = rw (c.max-from.ensures, c.min.ensures, c.max.ensures) at c.in_ok-put_run.ensures in
    pairs-more c.args.area c.args.first at xs (get_or xs at no_marks) c.args.into.now c.loop-at.into c.put_run.new.into
    c.requires less refl (c.requires.east at no_marks less) c.loop-at.invariant put
