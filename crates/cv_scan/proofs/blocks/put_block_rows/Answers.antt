use Rattle.std.proofs.Common.{◌<◌, option_to_list, arith}
use Rattle.cv_scan.proofs.BlockLemmas.{block-before, block-row, block-behind}
use Rattle.cv_scan.proofs.blocks.put_block_rows.Goals as goal

pub loop-row-init : goal.loop-row-init
loop-row-init c = record {
  north = omega arith;
  added = block-before c.args.view.now c.args.a c.args.c c.args.area c.args.rows c.args.into.now c.requires.crossed;
}

pub loop-row-preserved : goal.loop-row-preserved
loop-row-preserved c =
    let told = c.loop-row.invariant in
    let less : c.loop-row.row < c.args.rows.end = omega (arith, c.loop-row-test.true, c.loop-row.auto.row-end) in
    record {
      north = omega (arith, told.north);
      added =
          block-row c.args.view.now c.args.a c.args.c c.args.area c.args.rows c.loop-row.row (option_to_list c.args.run)
          c.args.into.now c.loop-row.into c.put_span.new.self c.requires.crossed told.north less c.requires.run told.added
          c.in_ok-put_span.ensures.ok;
    }

pub returns : goal.returns
returns c =
    block-behind c.args.view.now c.args.a c.args.c c.args.area c.args.rows c.loop-row.row c.args.into.now c.loop-row.into
    c.requires.crossed (omega (arith, c.loop-row-test.false, c.loop-row.auto.row-end)) c.loop-row.invariant.added
