-- No numbers are no cells.
use Rattle.std.proofs.Common.{refl}
use Rattle.cv_model.specs.Packed.{unpacked}
use Rattle.cv_model.proofs.cells.CellList.new.Goals as goal

pub returns : goal.returns
unfolding unpacked
returns c = rw c.new.ensures.items refl
