use Rattle.std.proofs.Common.{◌≡◌, ◌≤◌, ◌-◌, ℕ, suc, true, nat_eq, length, drop}
use Rattle.std.specs.List.{list_any}
use Rattle.cv_tables.specs.Rows.{IsLiveOn, lives}
use Rattle.cv_tables.proofs.jobs.JobTable.find_live.Given as goal

-- what there is stands in the rest
abbrev pub invariant-loop-k : goal.invariant-loop-k
invariant-loop-k l =
    (at : ℕ) → suc at ≤ l.count → IsLiveOn l.canvas l.self at → list_any (nat_eq at) (drop l.k (lives l.self)) ≡ true

abbrev pub decreases-loop-k : goal.decreases-loop-k
decreases-loop-k l = length (lives l.self) - l.k
