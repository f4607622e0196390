use Rattle.cv_event.proofs.DueLemmas.{finish_is_by_composer}
use Rattle.cv_event.proofs.laws.finish_is_by_composer.Goals as goal

pub returns : goal.returns
returns c = finish_is_by_composer
