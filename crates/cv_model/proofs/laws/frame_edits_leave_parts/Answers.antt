use Rattle.cv_model.proofs.LawLemmas.{frame_edits_leave_parts}
use Rattle.cv_model.proofs.laws.frame_edits_leave_parts.Goals as goal

pub returns : goal.returns
returns c = frame_edits_leave_parts
