use Rattle.cv_session.proofs.ScriptLemmas.{script_and_text_tell_journal}
use Rattle.cv_session.proofs.laws.script_and_text_tell_journal.Goals as goal

pub returns : goal.returns
returns c = script_and_text_tell_journal
