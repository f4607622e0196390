use Rattle.cv_event.proofs.DueLemmas.{delivery_is_by_looker}
use Rattle.cv_event.proofs.laws.delivery_is_by_looker.Goals as goal

pub returns : goal.returns
returns c = delivery_is_by_looker
