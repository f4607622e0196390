use Rattle.cv_store.proofs.Revisions.{stamps_are_of_edits}
use Rattle.cv_store.proofs.laws.stamps_are_of_edits.Goals as goal

pub returns : goal.returns
returns c = stamps_are_of_edits
