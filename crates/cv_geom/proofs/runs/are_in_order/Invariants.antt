-- The runs so far follow each other.
use Rattle.std.proofs.Common.{ℕ, ◌+◌, ◌<◌, ◌≤◌, get_or}
use Rattle.cv_geom.specs.declared.runs.Run.{Run}
use Rattle.cv_geom.specs.Runs.{BeginsAt}
use Rattle.cv_geom.proofs.runs.are_in_order.Given as goal

abbrev pub invariant-loop-at : goal.invariant-loop-at
invariant-loop-at l =
    (1 ≤ l.at) × ((k : ℕ) (d : Run) → k + 1 < l.at → BeginsAt (get_or l.runs k d).end (get_or l.runs k d).row (get_or l.runs (k + 1) d))
