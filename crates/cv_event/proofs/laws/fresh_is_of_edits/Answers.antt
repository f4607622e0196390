use Rattle.cv_event.proofs.DueLemmas.{fresh_is_of_edits}
use Rattle.cv_event.proofs.laws.fresh_is_of_edits.Goals as goal

pub returns : goal.returns
returns c = fresh_is_of_edits
