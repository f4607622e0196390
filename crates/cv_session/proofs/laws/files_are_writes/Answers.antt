use Rattle.cv_session.proofs.WriteLemmas.{files_are_writes}
use Rattle.cv_session.proofs.laws.files_are_writes.Goals as goal

pub returns : goal.returns
returns c = files_are_writes
