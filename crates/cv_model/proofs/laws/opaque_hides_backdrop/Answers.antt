use Rattle.cv_model.proofs.LawLemmas.{opaque_hides_backdrop}
use Rattle.cv_model.proofs.laws.opaque_hides_backdrop.Goals as goal

pub returns : goal.returns
returns c = opaque_hides_backdrop
