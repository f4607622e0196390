use Rattle.std.proofs.Common.{◌≡◌, ◌-◌, suc, length, drop}
use Rattle.cv_tables.specs.Rows.{task_over, lives}
use Rattle.cv_tables.proofs.jobs.JobTable.task.Given as goal

-- what the rest gives
abbrev pub invariant-loop-k : goal.invariant-loop-k
invariant-loop-k l = task_over suc l.self (drop l.k (lives l.self)) ≡ task_over suc l.self (lives l.self)

abbrev pub decreases-loop-k : goal.decreases-loop-k
decreases-loop-k l = length (lives l.self) - l.k
