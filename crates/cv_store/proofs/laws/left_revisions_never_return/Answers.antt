use Rattle.cv_store.proofs.Revisions.{left_revisions_never_return}
use Rattle.cv_store.proofs.laws.left_revisions_never_return.Goals as goal

pub returns : goal.returns
returns c = left_revisions_never_return
