use Rattle.std.proofs.Common.{◌≡◌, ◌≤ℤ◌, sym, ap, pos, arith}
use Rattle.cv_model.specs.Positions.{doubled}
use Rattle.cv_model.specs.Views.{PixelGrid}
use Rattle.cv_scan.proofs.HeldLemmas.{pairs-row}
use Rattle.cv_scan.proofs.followed.put_in_rows.Goals as goal

pub loop-row-preserved : goal.loop-row-preserved
loop-row-preserved g c =
    let v = c.args.view.now in
    let told = c.loop-row.invariant in
    let unit : pos 1 ≤ℤ v.u = rw (ap (λ (g : PixelGrid). g.u) c.view.view_is) at c.view.invariant.unit in
    record {
      north = omega (arith, told.north);
      marked =
          pairs-row v c.args.low c.args.high c.args.area c.args.top c.args.rows.from c.loop-row.row
          c.column_of_place-column.result c.args.pairs.now c.loop-row.pairs c.put_in_row.new.pairs
          c.column_of_place-column.ensures told.marked (c.put_in_row.ensures.put c.if-not-put_in_row.false);
      place =
          c.next_below-place.ensures.place v (doubled c.args.low) (doubled c.args.high) c.loop-row.row unit
          (rw (sym c.in-Some.ensures.slope) at c.requires.slope) told.place;
      near = omega (arith, told.north, told.near, c.next_below-place.ensures.near);
      cost = omega (arith, told.north, told.cost, c.tick.ensures);
    }

pub returns-clause-place : goal.returns-clause-place
returns-clause-place g c =
    let end : c.loop-row.row ≡ c.args.rows.end =
    omega (arith, c.loop-row-test.false, c.loop-row.auto.row-end, c.requires.rows.order) in
    rw c.wide-2.ensures (rw end at c.loop-row.invariant.place)
