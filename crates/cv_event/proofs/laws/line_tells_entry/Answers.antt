use Rattle.cv_event.proofs.ReadingLemmas.{line_tells_entry}
use Rattle.cv_event.proofs.laws.line_tells_entry.Goals as goal

pub returns : goal.returns
returns c = line_tells_entry
