use Rattle.cv_geom.proofs.RunLemmas.{runs-few}
use Rattle.cv_geom.proofs.runs.runs_are_few.Goals as goal

pub returns : goal.returns
returns c = runs-few
