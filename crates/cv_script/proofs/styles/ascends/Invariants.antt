use Rattle.std.proofs.Common.{◌≡◌, drop}
use Rattle.cv_script.specs.Styles.{ascends, ascends_from}
use Rattle.cv_script.proofs.styles.ascends.Given as goal

-- the stops from here on ascend behind the last one exactly where all do
abbrev pub invariant-loop-stop : goal.invariant-loop-stop
invariant-loop-stop l = ascends_from l.last (drop l.stop-index l.rest) ≡ ascends l.stops
