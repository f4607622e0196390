use Rattle.cv_event.proofs.ShownLemmas.{preview_lists_ready}
use Rattle.cv_event.proofs.laws.preview_lists_ready.Goals as goal

pub returns : goal.returns
returns c = preview_lists_ready
