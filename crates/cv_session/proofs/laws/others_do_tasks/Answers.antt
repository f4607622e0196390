use Rattle.cv_session.proofs.OthersLemmas.{others_do_tasks}
use Rattle.cv_session.proofs.laws.others_do_tasks.Goals as goal

pub returns : goal.returns
returns c = others_do_tasks
