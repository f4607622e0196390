use Rattle.cv_event.proofs.FitLemmas.{legal_acts_fit}
use Rattle.cv_event.proofs.laws.legal_acts_fit.Goals as goal

pub returns : goal.returns
returns c = legal_acts_fit
