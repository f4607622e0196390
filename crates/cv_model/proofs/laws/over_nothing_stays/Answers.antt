use Rattle.cv_model.proofs.LawLemmas.{over_nothing_stays}
use Rattle.cv_model.proofs.laws.over_nothing_stays.Goals as goal

pub returns : goal.returns
returns c = over_nothing_stays
