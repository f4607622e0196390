use Rattle.cv_desk.proofs.LawLemmas.{calls_make_history}
use Rattle.cv_desk.proofs.laws.calls_make_history.Goals as goal

pub returns : goal.returns
returns c = calls_make_history
