-- The bytes are said, or are too many.
use Rattle.cv_open.proofs.OpenedLemmas.{project_goes, project_long}
use Rattle.cv_open.proofs.opening.project_of.Goals as goal
use Rattle.std.proofs.Common.{Err}

pub returns-in-Some-clause-said : goal.returns-in-Some-clause-said
returns-in-Some-clause-said c = λ bytes stands.
    let h = rw c.in-Some.is at stands in
    project_goes bytes c.in-Some.bytes.items c.as_slice.result.now c.project_in.result h.0 h.1 c.as_slice.ensures.value c.project_in.ensures.said

pub returns-in-None : goal.returns-in-None
returns-in-None c = record {
  said = λ bytes stands. project_long bytes (Err c.too_long.result) (rw c.in-None.is at stands) c.too_long.ensures;
  form = tt;
}
