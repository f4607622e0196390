use Rattle.cv_session.proofs.ScriptLemmas.{edits_are_of_script}
use Rattle.cv_session.proofs.laws.edits_are_of_script.Goals as goal

pub returns : goal.returns
returns c = edits_are_of_script
