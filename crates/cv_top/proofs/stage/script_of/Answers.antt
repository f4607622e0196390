-- The bytes are said, or are too many.
use Rattle.cv_top.proofs.SessionLemmas.{script_goes, script_long}
use Rattle.cv_top.proofs.stage.script_of.Goals as goal

pub returns-in-Some-clause-said : goal.returns-in-Some-clause-said
returns-in-Some-clause-said c = λ bytes stands.
    let h = rw c.in-Some.is at stands in
    script_goes bytes c.in-Some.bytes.items c.as_slice.result.now c.script_in.result h.0 h.1 c.as_slice.ensures.value c.script_in.ensures.said

pub returns-in-None-clause-said : goal.returns-in-None-clause-said
returns-in-None-clause-said c = λ bytes stands. script_long bytes (rw c.in-None.is at stands)
