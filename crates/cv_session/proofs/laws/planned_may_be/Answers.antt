use Rattle.cv_session.proofs.EnteredLemmas.{planned_may_be}
use Rattle.cv_session.proofs.laws.planned_may_be.Goals as goal

pub returns : goal.returns
returns c = planned_may_be
