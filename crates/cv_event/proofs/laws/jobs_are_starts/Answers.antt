use Rattle.cv_event.proofs.NumberLemmas.{jobs_are_starts}
use Rattle.cv_event.proofs.laws.jobs_are_starts.Goals as goal

pub returns : goal.returns
returns c = jobs_are_starts
