use Rattle.std.proofs.Common.{◌<◌, arith}
use Rattle.cv_scan.proofs.HeldLemmas.{marks-none, marks-row, marks-all}
use Rattle.cv_scan.proofs.CrossingLemmas.{rows-low}
use Rattle.cv_scan.proofs.marks.put_rows.Goals as goal

pub loop-row-init : goal.loop-row-init
loop-row-init g c = record {
  north = omega arith;
  marked =
      marks-none c.args.view.now c.args.low c.args.high c.args.area c.args.rows.from c.args.scratch.now
      c.requires.held c.requires.crossed.before;
  cost = omega arith;
}

pub put_mark-requires-clause-mark : goal.put_mark-requires-clause-mark
put_mark-requires-clause-mark g c =
    let told = c.loop-row.invariant in
    let less : c.loop-row.row < c.args.rows.end = omega (arith, c.loop-row-test.true, c.loop-row.auto.row-end) in
    let ends =
    rows-low c.args.view.now c.args.low c.args.high c.args.area c.args.rows c.loop-row.row c.requires.crossed
    c.requires.rises told.north less in
    let falls =
    c.column_of_crossing-column.ensures c.args.area.columns c.requires.area.columns_in c.requires.between ends.0
    ends.1 in
    record {
      north = omega (arith, told.north, c.requires.crossed.north);
      south = omega (arith, less, c.requires.crossed.south);
      west = falls.low_in;
      east = falls.high_in;
    }

pub loop-row-preserved : goal.loop-row-preserved
loop-row-preserved g c =
    let told = c.loop-row.invariant in
    let less : c.loop-row.row < c.args.rows.end = omega (arith, c.loop-row-test.true, c.loop-row.auto.row-end) in
    let ends =
    rows-low c.args.view.now c.args.low c.args.high c.args.area c.args.rows c.loop-row.row c.requires.crossed
    c.requires.rises told.north less in
    let falls =
    c.column_of_crossing-column.ensures c.args.area.columns c.requires.area.columns_in c.requires.between ends.0
    ends.1 in
    record {
      north = omega (arith, told.north);
      marked =
          marks-row c.args.view.now c.args.low c.args.high c.args.area c.loop-row.row c.column_of_crossing-column.result
          c.args.scratch.now c.loop-row.scratch c.put_mark.new.scratch falls told.marked c.in_ok-put_mark.ensures;
      cost = omega (arith, told.cost, c.tick.ensures);
    }

pub put_followed-requires-clause-rows : goal.put_followed-requires-clause-rows
put_followed-requires-clause-rows g c =
    let told = c.loop-row.invariant in
    let less : c.loop-row.row < c.args.rows.end = omega (arith, c.loop-row-test.true, c.loop-row.auto.row-end) in
    record {
      north = omega (arith, told.north, c.requires.crossed.north);
      order = omega (arith, less);
      south = c.requires.crossed.south;
      ends = λ j from below.
          rows-low c.args.view.now c.args.low c.args.high c.args.area c.args.rows j c.requires.crossed c.requires.rises
          (omega (arith, told.north, from)) below;
    }

pub returns-in-Some-clause-marked : goal.returns-in-Some-clause-marked
returns-in-Some-clause-marked g c =
    let told = c.loop-row.invariant in
    let less : c.loop-row.row < c.args.rows.end = omega (arith, c.loop-row-test.true, c.loop-row.auto.row-end) in
    let ends =
    rows-low c.args.view.now c.args.low c.args.high c.args.area c.args.rows c.loop-row.row c.requires.crossed
    c.requires.rises told.north less in
    let falls =
    c.column_of_crossing-column.ensures c.args.area.columns c.requires.area.columns_in c.requires.between ends.0
    ends.1 in
    let so_far =
    marks-row c.args.view.now c.args.low c.args.high c.args.area c.loop-row.row c.column_of_crossing-column.result
    c.args.scratch.now c.loop-row.scratch c.put_mark.new.scratch falls told.marked c.in_ok-put_mark.ensures in
    marks-all c.args.view.now c.args.low c.args.high c.args.area c.args.rows.end c.args.scratch.now
    c.put_followed.new.scratch c.requires.crossed.behind
    (c.in_ok-put_followed.ensures.marked c.args.scratch.now so_far)

pub returns-clause-marked : goal.returns-clause-marked
returns-clause-marked g c =
    marks-all c.args.view.now c.args.low c.args.high c.args.area c.loop-row.row c.args.scratch.now c.loop-row.scratch
    (λ j behind less.
    c.requires.crossed.behind j (omega (arith, c.loop-row-test.false, c.loop-row.auto.row-end)) less)
    c.loop-row.invariant.marked
