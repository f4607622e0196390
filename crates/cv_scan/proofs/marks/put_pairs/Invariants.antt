use Rattle.std.proofs.Common.{◌≡◌, ◌++◌, None, drop}
use Rattle.cv_scan.specs.Marks.{runs_from}
use Rattle.cv_scan.proofs.marks.put_pairs.Given as goal

-- the runs so far and those of the marks still to come are all
abbrev pub invariant-loop-mark : goal.invariant-loop-mark
invariant-loop-mark l = l.into ++ runs_from l.fn.from l.last (drop l.mark-index l.marks) ≡ l.fn.into ++ runs_from l.fn.from None l.marks
