use Rattle.cv_session.proofs.PlayableLemmas.{script_plays}
use Rattle.cv_session.proofs.tests.played.Goals as goal

pub run_alone-requires-clause-script : goal.run_alone-requires-clause-script
run_alone-requires-clause-script c = script_plays c.in-Ok.script c.in-Ok.ensures.kept
