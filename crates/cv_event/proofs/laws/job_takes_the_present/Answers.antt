use Rattle.cv_event.proofs.TakenLemmas.{job_takes_the_present}
use Rattle.cv_event.proofs.laws.job_takes_the_present.Goals as goal

pub returns : goal.returns
returns c = job_takes_the_present
