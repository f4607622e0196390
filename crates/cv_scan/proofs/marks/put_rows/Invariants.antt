use Rattle.std.proofs.Common.{◌≤◌, ◌+◌, ◌-◌}
use Rattle.cv_scan.specs.Held.{AddsMarks, crossed_before}
use Rattle.cv_scan.proofs.marks.put_rows.Given as goal

-- the marks of the rows so far were put, and the steps of the others may still be paid
abbrev pub invariant-loop-row : goal.invariant-loop-row
invariant-loop-row g l = record {
  north : l.fn.rows.from ≤ l.row;
  marked : AddsMarks (crossed_before l.view l.low l.high l.row) l.fn.area l.fn.scratch l.scratch;
  cost : l.steps + (l.fn.rows.end - l.row) ≤ l.fn.steps + (l.fn.rows.end - l.fn.rows.from);
}
