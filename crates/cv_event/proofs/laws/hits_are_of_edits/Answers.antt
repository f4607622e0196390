use Rattle.cv_event.proofs.FateLemmas.{hits_are_of_edits}
use Rattle.cv_event.proofs.laws.hits_are_of_edits.Goals as goal

pub returns : goal.returns
returns c = hits_are_of_edits
