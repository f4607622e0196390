use Rattle.cv_event.proofs.SlotLemmas.{touched_by_edits}
use Rattle.cv_event.proofs.laws.touched_by_edits.Goals as goal

pub returns : goal.returns
returns c = touched_by_edits
