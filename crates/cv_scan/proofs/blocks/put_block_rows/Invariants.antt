use Rattle.std.proofs.Common.{◌≤◌, nat_lt, ◌&&◌}
use Rattle.cv_model.specs.Views.{centre_of}
use Rattle.cv_geom.specs.Runs.{Adds}
use Rattle.cv_scan.specs.Blocks.{is_in_block}
use Rattle.cv_scan.proofs.blocks.put_block_rows.Given as goal

-- the runs of the rows so far were added
abbrev pub invariant-loop-row : goal.invariant-loop-row
invariant-loop-row l = record {
  north : l.fn.rows.from ≤ l.row;
  added : Adds (λ i j. nat_lt j l.row && is_in_block (centre_of l.fn.view i j) l.fn.a l.fn.c) l.fn.area l.fn.into l.into;
}
