use Rattle.cv_model.proofs.LawLemmas.{opaque_hides_below}
use Rattle.cv_model.proofs.laws.opaque_hides_below.Goals as goal

pub returns : goal.returns
returns c = opaque_hides_below
