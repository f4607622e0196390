use Rattle.std.proofs.Common.{◌≡◌, drop}
use Rattle.cv_script.specs.Scripts.{is_silent}
use Rattle.cv_script.proofs.line.is_silent.Given as goal

abbrev pub invariant-loop-byte : goal.invariant-loop-byte
invariant-loop-byte l = is_silent (drop l.byte-index l.line) ≡ is_silent l.line
