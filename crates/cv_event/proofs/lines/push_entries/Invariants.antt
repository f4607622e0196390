-- The text so far, and the lines of the entries that are left, are the text wanted.
use Rattle.std.proofs.Common.{◌≡◌, ◌++◌, ◌+◌, ◌≤◌, drop}
use Rattle.cv_event.specs.Lines.{entry_lines}
use Rattle.cv_event.proofs.lines.push_entries.Given as goal

abbrev pub invariant-loop-index : goal.invariant-loop-index
invariant-loop-index l =
    (l.text.items ++ entry_lines (l.index + 1) l.edits (drop l.index l.entries) ≡ l.fn.text.items ++ entry_lines 1 0
    l.entries)
    × (l.edits ≤ l.index)
