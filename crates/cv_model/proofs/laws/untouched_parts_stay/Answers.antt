use Rattle.cv_model.proofs.LawLemmas.{untouched_parts_stay}
use Rattle.cv_model.proofs.laws.untouched_parts_stay.Goals as goal

pub returns : goal.returns
returns c = untouched_parts_stay
