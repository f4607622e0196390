use Rattle.cv_desk.proofs.LawLemmas.{desks_are_known}
use Rattle.cv_desk.proofs.laws.desks_are_known.Goals as goal

pub returns : goal.returns
returns c = desks_are_known
