use Rattle.cv_event.proofs.DueLemmas.{accepted_is_counted}
use Rattle.cv_event.proofs.laws.accepted_is_counted.Goals as goal

pub returns : goal.returns
returns c = accepted_is_counted
