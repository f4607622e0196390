use Rattle.cv_session.proofs.OneLemmas.{one_journal_follows}
use Rattle.cv_session.proofs.laws.one_journal_follows.Goals as goal

pub returns : goal.returns
returns c = one_journal_follows
