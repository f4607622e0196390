use Rattle.std.proofs.Common.{◌≡◌, ◌≤◌, ◌-◌, ◌++◌}
use Rattle.cv_scan.specs.Planes.{set_marks, width_of}
use Rattle.cv_scan.proofs.planes.read_row.Given as goal

-- the marks so far and those of the bits still to come are all
abbrev pub invariant-loop-column : goal.invariant-loop-column
invariant-loop-column l = record {
  west : l.area.columns.from ≤ l.column;
  east : l.column ≤ l.area.columns.end;
  read :
      l.marks.items ++ set_marks l.bits l.area l.row (l.column - l.area.columns.from)
      ≡ set_marks l.bits l.area l.row (width_of l.area);
}

abbrev pub decreases-loop-column : goal.decreases-loop-column
decreases-loop-column l = l.column
