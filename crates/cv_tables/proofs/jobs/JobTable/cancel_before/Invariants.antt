use Rattle.std.proofs.Common.{◌≡◌}
use Rattle.cv_tables.specs.Rows.{cancelled_before, owed}
use Rattle.cv_tables.proofs.jobs.JobTable.cancel_before.Given as goal

-- what is still to be cancelled gives all
abbrev pub invariant-loop-at : goal.invariant-loop-at
invariant-loop-at l =
    cancelled_before l.canvas l.count l.self ≡ cancelled_before l.canvas l.count l.fn.self

-- each turn ends one
abbrev pub decreases-loop-at : goal.decreases-loop-at
decreases-loop-at l = owed l.self
