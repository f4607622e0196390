use Rattle.std.proofs.Common.{◌≡◌, ◌+◌, ℕ, nat_lt, if◌then◌else◌}
use Rattle.std.specs.List.{All}
use Rattle.cv_geom.specs.Runs.{IsIn}
use Rattle.cv_scan.specs.Marks.{MarkIn, marks_right}
use Rattle.cv_scan.specs.Pairs.{pairs_right}
use Rattle.cv_scan.proofs.pairs.list_pairs.Given as goal

-- the marks of the rows so far are in the list
abbrev pub invariant-loop-at : goal.invariant-loop-at
invariant-loop-at l = record {
  within : All (MarkIn l.area) l.marks.items;
  counted :
      (i j : ℕ) → IsIn l.area i j
      → marks_right i j l.marks.items
      ≡ marks_right i j l.fn.marks.items + (if nat_lt j (l.fn.first + l.at) then pairs_right i j l.fn.first l.pairs else 0);
}
