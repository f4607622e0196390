-- Up to an offset the cells are read.
use Rattle.cv_grid.specs.Scanning.{CellsAlong}
use Rattle.cv_grid.proofs.cells.put_short.Given as goal

abbrev pub invariant-loop : goal.invariant-loop
invariant-loop l = CellsAlong l.text l.start l.total l.void l.fn.cells l.at l.cells
