use Rattle.cv_scan.proofs.HeldLemmas.{marks-none, marks-all}
use Rattle.cv_scan.proofs.CrossingLemmas.{rows-low}
use Rattle.cv_scan.proofs.marks.put_up.Goals as goal

pub put_followed-requires-clause-rows : goal.put_followed-requires-clause-rows
put_followed-requires-clause-rows g c = record {
  north = c.requires.crossed.north;
  order = c.requires.crossed.order;
  south = c.requires.crossed.south;
  ends = λ j from below.
      rows-low c.args.view.now c.args.low c.args.high c.args.area c.args.rows j c.requires.crossed c.requires.rises from
      below;
}

pub returns-in-Some-clause-marked : goal.returns-in-Some-clause-marked
returns-in-Some-clause-marked g c =
    let none =
    marks-none c.args.view.now c.args.low c.args.high c.args.area c.args.rows.from c.args.scratch.now c.requires.held
    c.requires.crossed.before in
    marks-all c.args.view.now c.args.low c.args.high c.args.area c.args.rows.end c.args.scratch.now
    c.put_followed.new.scratch c.requires.crossed.behind (c.in_ok-put_followed.ensures.marked c.args.scratch.now none)
