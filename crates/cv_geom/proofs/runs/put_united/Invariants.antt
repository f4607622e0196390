use Rattle.std.proofs.Common.{◌≡◌, ◌++◌, drop}
use Rattle.cv_geom.specs.Runs.{united, united_from}
use Rattle.cv_geom.proofs.runs.put_united.Given as goal

-- the runs so far and those that come of the rest are all
abbrev pub invariant-loop-run : goal.invariant-loop-run
invariant-loop-run l = l.into.items ++ united_from l.last (drop l.run-index l.rest) ≡ united l.runs
