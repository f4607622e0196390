-- The stops that are left give what they all give.
use Rattle.std.proofs.Common.{◌≡◌, drop}
use Rattle.cv_model.specs.Ramps.{first_colour, is_at}
use Rattle.cv_symbol.proofs.ramps.exact.Given as goal

abbrev pub invariant-loop-stop : goal.invariant-loop-stop
invariant-loop-stop l = first_colour (is_at l.number) (drop l.stop-index l.stops) ≡ first_colour (is_at l.number) l.stops
