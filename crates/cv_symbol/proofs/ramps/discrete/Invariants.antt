-- The stops that are left give what they all give.
use Rattle.std.proofs.Common.{◌≡◌, drop}
use Rattle.cv_model.specs.Ramps.{first_colour, reaches}
use Rattle.cv_symbol.proofs.ramps.discrete.Given as goal

abbrev pub invariant-loop-stop : goal.invariant-loop-stop
invariant-loop-stop l = first_colour (reaches l.number) (drop l.stop-index l.stops) ≡ first_colour (reaches l.number) l.stops
