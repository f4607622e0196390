-- Marks in order.
use Rattle.std.specs.Prelude.{ℕ, ◌+◌, ◌<◌, List, length, slice_index_or}
use Rattle.cv_scan.specs.declared.marks.Mark.{Mark}
use Rattle.cv_scan.specs.Marks.{IsBefore}

-- each mark but the first lies at the one in front of it in the list, or before that in reading order
pub record AreInTurn (marks : List Mark) : Type 0 where
  pub each : (k : ℕ) (d : Mark) → k + 1 < length marks → IsBefore (slice_index_or marks (k + 1) d) (slice_index_or marks k d)
