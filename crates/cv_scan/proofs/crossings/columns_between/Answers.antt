use Rattle.cv_scan.proofs.CrossingLemmas.{ends-between}
use Rattle.cv_scan.proofs.crossings.columns_between.Goals as goal

pub returns : goal.returns
returns c =
    rw (c.min.ensures, c.max.ensures)
    (ends-between c.args.view.now c.args.a c.args.b c.args.columns c.column_of-of_a.result c.column_of-of_b.result
    c.column_of-of_a.ensures c.column_of-of_b.ensures)
