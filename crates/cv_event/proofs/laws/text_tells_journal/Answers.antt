use Rattle.cv_event.proofs.TextLemmas.{text_tells_journal}
use Rattle.cv_event.proofs.laws.text_tells_journal.Goals as goal

pub returns : goal.returns
returns c = text_tells_journal
