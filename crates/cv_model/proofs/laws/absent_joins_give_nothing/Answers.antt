use Rattle.cv_model.proofs.LawLemmas.{absent_joins_give_nothing}
use Rattle.cv_model.proofs.laws.absent_joins_give_nothing.Goals as goal

pub returns : goal.returns
returns c = absent_joins_give_nothing
