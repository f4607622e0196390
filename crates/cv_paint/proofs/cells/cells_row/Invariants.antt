-- The pixels so far have the colours of their cells.
use Rattle.std.proofs.Common.{◌≡◌, ℕ, ◌<◌, ◌≤◌, ◌-◌, get_or, length}
use Rattle.cv_model.specs.Colours.{transparent}
use Rattle.cv_paint.specs.Cells.{cell_pixel}
use Rattle.cv_paint.proofs.cells.cells_row.Given as goal

abbrev pub invariant-loop-i : goal.invariant-loop-i
invariant-loop-i l = record {
  within : l.i ≤ l.view.w;
  length_is : length l.row ≡ l.view.w;
  colours : (k : ℕ) → k < l.i → get_or l.row k transparent ≡ cell_pixel l.style l.cells l.view k l.j;
}

abbrev pub decreases-loop-i : goal.decreases-loop-i
decreases-loop-i l = l.view.w - l.i
