use Rattle.cv_event.proofs.EndLemmas.{ends_stay}
use Rattle.cv_event.proofs.laws.ends_stay.Goals as goal

pub returns : goal.returns
returns c = ends_stay
