use Rattle.std.proofs.Common.{◌≤◌, ◌+◌, ◌-◌, ◌*◌, ◌^◌, unsigned_abs}
use Rattle.cv_model.specs.Positions.{doubled}
use Rattle.cv_scan.specs.Held.{PairsMarked}
use Rattle.cv_scan.specs.Narrow.{wide_place}
use Rattle.cv_scan.specs.Terms.{IsPlace}
use Rattle.cv_scan.proofs.followed.put_in_rows.Given as goal

-- the marks of the rows so far were put, and the place is that of the next
abbrev pub invariant-loop-row : goal.invariant-loop-row
invariant-loop-row g l = record {
  north : l.fn.rows.from ≤ l.row;
  marked :
      PairsMarked l.view l.low l.high l.fn.area l.fn.top (record { from = l.fn.rows.from; end = l.row }) l.fn.pairs l.pairs;
  place : IsPlace l.view (doubled l.low) (doubled l.high) l.row (wide_place l.place);
  near : unsigned_abs l.place.column ≤ 2 ^ 34 + (l.row - l.fn.rows.from) * 2 ^ 30;
  cost : l.steps ≤ l.fn.steps + (l.row - l.fn.rows.from);
}
