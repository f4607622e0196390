use Rattle.cv_store.proofs.Revisions.{equal_stamps_equal_inputs}
use Rattle.cv_store.proofs.laws.equal_stamps_equal_inputs.Goals as goal

pub returns : goal.returns
returns c = equal_stamps_equal_inputs
