-- White space is passed over.
use Rattle.std.proofs.Common.{[]}
use Rattle.cv_grid.proofs.CellLemmas.{cells_white}
use Rattle.cv_grid.proofs.cells.read_cells.Goals as goal

pub loop-at-preserved-then-is_space : goal.loop-at-preserved-then-is_space
loop-at-preserved-then-is_space c =
    cells_white c.args.text.now c.args.start c.args.total c.args.void [] c.loop-at.at c.loop-at.cells
    c.loop-at.invariant c.loop-at-test.true c.if-is_space.ensures
