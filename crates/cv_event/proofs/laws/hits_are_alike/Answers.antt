use Rattle.cv_event.proofs.HitLemmas.{hits_are_alike}
use Rattle.cv_event.proofs.laws.hits_are_alike.Goals as goal

pub returns : goal.returns
returns c = hits_are_alike
