use Rattle.std.proofs.Common.{◌≡◌, ◌≤ℤ◌, sym, ap, pos, arith}
use Rattle.cv_model.specs.Positions.{doubled}
use Rattle.cv_model.specs.Views.{PixelGrid}
use Rattle.cv_scan.proofs.HeldLemmas.{marks-row}
use Rattle.cv_scan.proofs.followed.put_each.Goals as goal

pub loop-row-preserved : goal.loop-row-preserved
loop-row-preserved g c =
    let v = c.args.view.now in
    let told = c.loop-row.invariant in
    let unit : pos 1 ≤ℤ v.u = rw (ap (λ (g : PixelGrid). g.u) c.view.view_is) at c.view.invariant.unit in
    record {
      north = omega (arith, told.north);
      held = c.in_ok-put_mark.ensures.held;
      marked = λ first before.
          marks-row v c.args.low c.args.high c.args.area c.loop-row.row c.column_of_place-column.result first
          c.loop-row.scratch c.put_mark.new.scratch c.column_of_place-column.ensures (told.marked first before)
          c.in_ok-put_mark.ensures;
      place =
          c.below-place.ensures.place v (doubled c.args.low) (doubled c.args.high) c.loop-row.row unit c.requires.slope
          told.place;
      near = omega (arith, told.north, told.near, c.below-place.ensures.near);
      cost = omega (arith, told.cost, c.tick.ensures);
    }

pub returns-clause-marked : goal.returns-clause-marked
returns-clause-marked g c = λ first before.
    let end : c.loop-row.row ≡ c.args.rows.end =
    omega (arith, c.loop-row-test.false, c.loop-row.auto.row-end, c.requires.rows.order) in
    rw (sym end) (c.loop-row.invariant.marked first before)
