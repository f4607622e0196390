use Rattle.cv_event.proofs.NumberLemmas.{started_jobs_are_there}
use Rattle.cv_event.proofs.laws.started_jobs_are_there.Goals as goal

pub returns : goal.returns
returns c = started_jobs_are_there
