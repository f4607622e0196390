use Rattle.cv_event.proofs.EndLemmas.{ended_jobs_are_void}
use Rattle.cv_event.proofs.laws.ended_jobs_are_void.Goals as goal

pub returns : goal.returns
returns c = ended_jobs_are_void
