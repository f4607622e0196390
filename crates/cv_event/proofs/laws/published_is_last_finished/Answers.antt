use Rattle.cv_event.proofs.ShownLemmas.{published_is_last_finished}
use Rattle.cv_event.proofs.laws.published_is_last_finished.Goals as goal

pub returns : goal.returns
returns c = published_is_last_finished
