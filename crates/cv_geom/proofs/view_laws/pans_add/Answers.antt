use Rattle.cv_geom.proofs.ViewLemmas.{pan-pan}
use Rattle.cv_geom.proofs.view_laws.pans_add.Goals as goal

pub returns : goal.returns
returns c = pan-pan
