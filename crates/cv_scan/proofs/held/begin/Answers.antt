use Rattle.std.proofs.Common.{arith}
use Rattle.cv_scan.specs.declared.scratch.Scratch.{Scratch}
use Rattle.cv_scan.specs.Pairs.{PairsIn}
use Rattle.cv_scan.proofs.HeldLemmas.{none-held, none-right}
use Rattle.cv_scan.proofs.held.begin.Goals as goal

pub returns-clause-held : goal.returns-clause-held
returns-clause-held c =
    let rows = c.rows_reached-rows.ensures in
    let made = c.in_ok-have_pairs.ensures in
    let lies : PairsIn c.args.area c.rows_reached-rows.result.from c.have_pairs.new.pairs.items = record {
      north = rows.north;
      south = omega (arith, made.count, rows.order, rows.south);
      east = made.reaches c.args.area.columns.end;
    } in
    none-held c.args.area _ lies c.clear.ensures.items c.clear-2.ensures.items

pub returns-clause-none : goal.returns-clause-none
returns-clause-none c = λ i j.
    let s : Scratch = record {
      first = c.rows_reached-rows.result.from;
      pairs = c.have_pairs.new.pairs;
      marks = c.clear.new.self;
      bits = c.clear-2.new.self;
    } in
    none-right c.args.area s i j (c.in_ok-have_pairs.ensures.none i j c.rows_reached-rows.result.from)
    c.clear.ensures.items c.clear-2.ensures.items
