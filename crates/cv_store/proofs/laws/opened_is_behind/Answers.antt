use Rattle.cv_store.proofs.Openings.{opened_is_behind}
use Rattle.cv_store.proofs.laws.opened_is_behind.Goals as goal

pub returns : goal.returns
returns c = opened_is_behind
