use Rattle.cv_event.proofs.TakenLemmas.{project_is_of_edits}
use Rattle.cv_event.proofs.laws.project_is_of_edits.Goals as goal

pub returns : goal.returns
returns c = project_is_of_edits
