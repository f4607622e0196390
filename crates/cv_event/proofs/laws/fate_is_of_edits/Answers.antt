use Rattle.cv_event.proofs.FateLemmas.{fate_is_of_edits}
use Rattle.cv_event.proofs.laws.fate_is_of_edits.Goals as goal

pub returns : goal.returns
returns c = fate_is_of_edits
