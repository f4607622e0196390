use Rattle.cv_store.proofs.History.{equal_stamps_equal_parts}
use Rattle.cv_store.proofs.laws.equal_stamps_equal_parts.Goals as goal

pub returns : goal.returns
returns c = equal_stamps_equal_parts
