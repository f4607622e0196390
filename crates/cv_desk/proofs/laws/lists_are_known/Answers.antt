use Rattle.cv_desk.proofs.LawLemmas.{lists_are_known}
use Rattle.cv_desk.proofs.laws.lists_are_known.Goals as goal

pub returns : goal.returns
returns c = lists_are_known
