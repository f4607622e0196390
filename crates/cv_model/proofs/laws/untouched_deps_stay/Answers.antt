use Rattle.cv_model.proofs.LawLemmas.{untouched_deps_stay}
use Rattle.cv_model.proofs.laws.untouched_deps_stay.Goals as goal

pub returns : goal.returns
returns c = untouched_deps_stay
