use Rattle.cv_event.proofs.DistinctLemmas.{cached_layers_are_distinct}
use Rattle.cv_event.proofs.laws.cached_layers_are_distinct.Goals as goal

pub returns : goal.returns
returns c = cached_layers_are_distinct
