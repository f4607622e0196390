use Rattle.std.proofs.Common.{arith}
use Rattle.std.proofs.lemmas.Int.{to_z-of_z}
use Rattle.cv_paint.proofs.far.are_across.Goals as goal

pub returns : goal.returns
returns c = rw (← c.first.view_is, ← c.last.view_is, ← c.bounds.view_is) (grind (arith, to_z-of_z))
