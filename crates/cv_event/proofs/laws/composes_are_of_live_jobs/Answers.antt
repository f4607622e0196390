use Rattle.cv_event.proofs.DueLemmas.{composes_are_of_live_jobs}
use Rattle.cv_event.proofs.laws.composes_are_of_live_jobs.Goals as goal

pub returns : goal.returns
returns c = composes_are_of_live_jobs
