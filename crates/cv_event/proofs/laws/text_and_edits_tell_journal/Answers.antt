use Rattle.cv_event.proofs.TextLemmas.{text_and_edits_tell_journal}
use Rattle.cv_event.proofs.laws.text_and_edits_tell_journal.Goals as goal

pub returns : goal.returns
returns c = text_and_edits_tell_journal
