use Rattle.std.proofs.Common.{arith}
use Rattle.std.proofs.lemmas.Int.{to_z-of_z}
use Rattle.cv_geom.proofs.pens.straddles.Goals as goal

pub returns : goal.returns
returns c = rw (← c.a.view_is, ← c.b.view_is, ← c.p.view_is) (grind (arith, to_z-of_z))
