use Rattle.std.proofs.Common.{◌≡◌, ◌-◌, length, map, drop}
use Rattle.cv_tables.specs.Rows.{sweep, row_edited, lives}
use Rattle.cv_tables.proofs.jobs.JobTable.touch.Given as goal

-- the rest, changed one after the other, gives all
abbrev pub invariant-loop-k : goal.invariant-loop-k
invariant-loop-k l =
    sweep (row_edited l.edit) (drop l.k (lives l.self)) l.self ≡ map (row_edited l.edit) l.initial.self

abbrev pub decreases-loop-k : goal.decreases-loop-k
decreases-loop-k l = length (lives l.self) - l.k
