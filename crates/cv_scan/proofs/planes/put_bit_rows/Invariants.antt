use Rattle.std.proofs.Common.{◌≤◌, ◌%◌, ◌==◌, nat_lt, ◌&&◌}
use Rattle.cv_geom.specs.Runs.{Adds}
use Rattle.cv_scan.specs.Planes.{bits_right}
use Rattle.cv_scan.proofs.planes.put_bit_rows.Given as goal

-- the runs of the rows so far were added
abbrev pub invariant-loop-row : goal.invariant-loop-row
invariant-loop-row l = record {
  north : l.area.rows.from ≤ l.row;
  added :
      Adds (λ i j. nat_lt j l.row && (bits_right i j l.area l.bits % 2 == 1)) l.area l.fn.into l.into;
}
