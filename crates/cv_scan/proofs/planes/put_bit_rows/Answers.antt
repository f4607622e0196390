use Rattle.std.proofs.Common.{◌∙◌, ap, ◌++◌, ◌%◌, ◌==◌, ◌<◌, None, arith}
use Rattle.cv_scan.specs.Marks.{runs_from}
use Rattle.cv_scan.specs.Planes.{bits_right}
use Rattle.cv_scan.proofs.PlaneLemmas.{rows-start, row-read, rows-done}
use Rattle.cv_scan.proofs.planes.put_bit_rows.Goals as goal

pub loop-row-init : goal.loop-row-init
loop-row-init c = record {
  north = omega arith;
  added = rows-start (λ i j. bits_right i j c.args.area c.args.bits.now % 2 == 1) c.args.area c.args.into.now;
}

pub loop-row-preserved : goal.loop-row-preserved
loop-row-preserved c =
    let area = c.args.area in
    let row = c.loop-row.row in
    let told = c.loop-row.invariant in
    let less : row < area.rows.end = omega (arith, c.loop-row-test.true, c.loop-row.auto.row-end) in
    let put =
    c.in_ok-put_pairs.ensures
    ∙ ap (λ marks. c.loop-row.into ++ runs_from area.columns.from None marks) c.deref.ensures.value in
    record {
      north = omega (arith, told.north);
      added =
          row-read area c.read_row.new.marks.items c.args.bits.now row c.args.into.now
          c.loop-row.into c.put_pairs.new.into c.requires.columns told.north less told.added
          c.in_ok-read_row.ensures put;
    }

pub returns : goal.returns
returns c =
    rows-done (λ i j. bits_right i j c.args.area c.args.bits.now % 2 == 1) c.args.area c.loop-row.row c.args.into.now
    c.loop-row.into (omega (arith, c.loop-row-test.false, c.loop-row.auto.row-end)) c.loop-row.invariant.added
