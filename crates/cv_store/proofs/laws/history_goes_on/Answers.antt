use Rattle.cv_store.proofs.History.{history_goes_on}
use Rattle.cv_store.proofs.laws.history_goes_on.Goals as goal

pub returns : goal.returns
returns c = history_goes_on
