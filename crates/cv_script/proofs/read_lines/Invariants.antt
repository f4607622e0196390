-- The commands so far, before those of the lines that are left, are those of all lines.
use Rattle.std.proofs.Common.{◌≡◌, ◌≤◌}
use Rattle.cv_script.specs.Scripts.{lines, commands_from, with_front}
use Rattle.cv_script.proofs.read_lines.Given as goal

abbrev pub invariant-loop-line : goal.invariant-loop-line
invariant-loop-line l = record {
  few : l.number ≤ 100001;
  same : with_front l.commands (commands_from l.number l.line-iterator)
      ≡ commands_from 1 (lines l.fn.bytes);
}
