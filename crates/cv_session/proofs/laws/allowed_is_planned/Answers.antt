use Rattle.cv_session.proofs.EnteredLemmas.{allowed_is_planned}
use Rattle.cv_session.proofs.laws.allowed_is_planned.Goals as goal

pub returns : goal.returns
returns c = allowed_is_planned
