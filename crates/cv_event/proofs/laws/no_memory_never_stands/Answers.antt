use Rattle.cv_event.proofs.FitLemmas.{no_memory_never_stands}
use Rattle.cv_event.proofs.laws.no_memory_never_stands.Goals as goal

pub returns : goal.returns
returns c = no_memory_never_stands
