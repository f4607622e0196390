use Rattle.cv_geom.proofs.SpanLemmas.{runs-one}
use Rattle.cv_geom.proofs.spans.runs_are_one.Goals as goal

pub returns : goal.returns
returns c = runs-one
