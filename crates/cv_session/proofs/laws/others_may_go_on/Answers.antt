use Rattle.cv_session.proofs.OthersLemmas.{others_may_go_on}
use Rattle.cv_session.proofs.laws.others_may_go_on.Goals as goal

pub returns : goal.returns
returns c = others_may_go_on
