use Rattle.std.proofs.Common.{◌≤◌, ◌+◌, ◌-◌, nat_lt, ◌&&◌}
use Rattle.cv_model.specs.Pens.{is_near}
use Rattle.cv_model.specs.Pictures.{half_side}
use Rattle.cv_model.specs.Views.{centre_of}
use Rattle.cv_geom.specs.Runs.{Adds}
use Rattle.cv_pen.proofs.outlines.put_segment.Given as goal

-- the runs of the rows so far were added, and the steps of the others may still be paid
abbrev pub invariant-loop-row : goal.invariant-loop-row
invariant-loop-row g l = record {
  north : l.fn.area.rows.from ≤ l.row;
  order : l.row ≤ l.row-end;
  added : Adds (λ i j. nat_lt j l.row && is_near (half_side l.view l.width) (centre_of l.view i j) (l.a, l.b)) l.fn.area l.fn.into l.into;
  cost : l.steps + (l.row-end - l.row) ≤ l.fn.steps + (l.fn.area.rows.end - l.fn.area.rows.from);
}
