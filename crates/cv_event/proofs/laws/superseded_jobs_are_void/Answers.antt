use Rattle.cv_event.proofs.EndLemmas.{superseded_jobs_are_void}
use Rattle.cv_event.proofs.laws.superseded_jobs_are_void.Goals as goal

pub returns : goal.returns
returns c = superseded_jobs_are_void
