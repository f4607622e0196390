use Rattle.cv_event.proofs.EndLemmas.{cancelled_jobs_are_void}
use Rattle.cv_event.proofs.laws.cancelled_jobs_are_void.Goals as goal

pub returns : goal.returns
returns c = cancelled_jobs_are_void
