use Rattle.cv_event.proofs.DueLemmas.{looks_are_of_live_jobs}
use Rattle.cv_event.proofs.laws.looks_are_of_live_jobs.Goals as goal

pub returns : goal.returns
returns c = looks_are_of_live_jobs
