use Rattle.cv_session.proofs.CoverLemmas.{alone_finds_tasks}
use Rattle.cv_session.proofs.laws.alone_finds_tasks.Goals as goal

pub returns : goal.returns
returns c = alone_finds_tasks
