use Rattle.std.proofs.Common.{◌≤◌, ◌+◌, ◌-◌, ◌*◌, ◌^◌, unsigned_abs}
use Rattle.cv_model.specs.Positions.{doubled}
use Rattle.cv_scan.specs.Held.{IsHeld, MarksOn}
use Rattle.cv_scan.specs.Terms.{IsPlace}
use Rattle.cv_scan.proofs.followed.put_each.Given as goal

-- the marks of the rows so far were put, and the place is that of the next
abbrev pub invariant-loop-row : goal.invariant-loop-row
invariant-loop-row g l = record {
  north : l.fn.rows.from ≤ l.row;
  held : IsHeld l.fn.area l.scratch;
  marked :
      MarksOn l.view l.low l.high l.fn.area (record { from = l.fn.rows.from; end = l.row }) l.fn.scratch l.scratch;
  place : IsPlace l.view (doubled l.low) (doubled l.high) l.row l.place;
  near : unsigned_abs l.place.column ≤ 2 ^ 34 + l.row * 2 ^ 30;
  cost : l.steps + (l.fn.rows.end - l.row) ≤ l.fn.steps + (l.fn.rows.end - l.fn.rows.from);
}
