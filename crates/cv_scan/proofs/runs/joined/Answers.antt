use Rattle.std.proofs.Common.{◌-◌, length, get_or, take, drop}
use Rattle.cv_scan.specs.Runs.{joined}
use Rattle.cv_scan.proofs.RunLemmas.{two-and-rest, joined-behind, joined-touching}
use Rattle.cv_scan.proofs.runs.joined.Goals as goal
use Rattle.cv_scan.proofs.runs.joined.Goals.{then-end-begin+in_ok-put_span, else-end-begin}

pub loop-rest-preserved : goal.loop-rest-preserved
loop-rest-preserved c =
    let xs = c.loop-rest.rest.now in
    let behind = take (length xs - 2) (drop 2 xs) in
    let two = two-and-rest xs c.in-len2-up.len_at_least in
    let total = joined c.args.from c.args.from c.args.reaches.now in
    elim c.if-end-begin.branch [
      | then-end-begin+in_ok-put_span w ↦
          rw (w.spans-is, w.start-is)
          (joined-behind c.loop-rest.spans w.put_span.new.spans total c.loop-rest.start c.loop-rest.end (get_or xs 0 0)
          (get_or xs 1 0) xs behind two w.if-end-begin.true c.loop-rest.invariant w.in_ok-put_span.ensures)
      | else-end-begin w ↦
          rw (w.spans-is, w.start-is)
          (joined-touching c.loop-rest.spans total c.loop-rest.start c.loop-rest.end (get_or xs 0 0) (get_or xs 1 0) xs
          behind two w.if-end-begin.false c.loop-rest.invariant)
    ]
