use Rattle.cv_geom.proofs.RunLemmas.{runs-apart}
use Rattle.cv_geom.proofs.runs.runs_are_apart.Goals as goal

pub returns : goal.returns
returns c = runs-apart
