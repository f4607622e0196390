use Rattle.cv_geom.proofs.ViewLemmas.{centre_within}
use Rattle.cv_geom.proofs.view_laws.centres_lie_within.Goals as goal

pub returns : goal.returns
returns c = centre_within
