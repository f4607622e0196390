-- The text so far, and the lines of the commands that are left, are the text wanted.
use Rattle.std.proofs.Common.{◌≡◌, ◌++◌, drop}
use Rattle.std.specs.List.{flat_map}
use Rattle.cv_event.specs.Lines.{refused_line}
use Rattle.cv_event.proofs.lines.push_refused.Given as goal

abbrev pub invariant-loop-command : goal.invariant-loop-command
invariant-loop-command l =
    l.text.items ++ flat_map refused_line (drop l.command-index l.refused) ≡ l.fn.text.items ++ flat_map
    refused_line l.refused
