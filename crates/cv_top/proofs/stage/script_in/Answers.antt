-- What the reader answers is said of the bytes.
use Rattle.std.proofs.Common.{◌≡◌, Err, subst}
use Rattle.cv_script.specs.declared.error.ScriptError.{ScriptError}
use Rattle.cv_script.specs.Scripts.{script_of}
use Rattle.cv_top.specs.Sessions.{as_script}
use Rattle.cv_open.specs.Readings.{only}
use Rattle.cv_open.proofs.ReadingLemmas.{stays}
use Rattle.cv_top.proofs.SessionLemmas.{Gives, script_read_ok, script_refused}
use Rattle.cv_top.proofs.stage.script_in.Goals as goal

pub returns-in-Ok-clause-said : goal.returns-in-Ok-clause-said
returns-in-Ok-clause-said c = script_read_ok c.args.bytes.now c.in-Ok.script c.in-Ok.ensures.exact

pub returns-in-Err-BadLine-clause-said : goal.returns-in-Err-BadLine-clause-said
returns-in-Err-BadLine-clause-said c =
    script_refused c.args.bytes.now c.in-Err-BadLine.line
    (subst (λ (e : ScriptError). Gives c.args.bytes.now (Err e)) c.in-Err-BadLine.field-0-is c.in-Err-BadLine.ensures.exact)

pub returns-in-Err-NoMemory-clause-said : goal.returns-in-Err-NoMemory-clause-said
returns-in-Err-NoMemory-clause-said c = λ shelf. (only (as_script (script_of c.args.bytes.now)), stays _ shelf)
