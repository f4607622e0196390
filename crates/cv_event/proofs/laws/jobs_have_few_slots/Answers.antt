use Rattle.cv_event.proofs.FitLemmas.{jobs_have_few_slots}
use Rattle.cv_event.proofs.laws.jobs_have_few_slots.Goals as goal

pub returns : goal.returns
returns c = jobs_have_few_slots
