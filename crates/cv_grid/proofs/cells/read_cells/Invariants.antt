-- Up to an offset the cells are read: the rest gives the answer of all.
use Rattle.std.proofs.Common.{◌-◌, [], length}
use Rattle.cv_grid.specs.Scanning.{CellsAlong}
use Rattle.cv_grid.proofs.cells.read_cells.Given as goal

abbrev pub invariant-loop-at : goal.invariant-loop-at
invariant-loop-at l = CellsAlong l.text l.start l.total l.void [] l.at l.cells

abbrev pub decreases-loop-at : goal.decreases-loop-at
decreases-loop-at l = length l.text - l.at
