use Rattle.cv_event.proofs.DueLemmas.{canvases_stay}
use Rattle.cv_event.proofs.laws.canvases_stay.Goals as goal

pub returns : goal.returns
returns c = canvases_stay
