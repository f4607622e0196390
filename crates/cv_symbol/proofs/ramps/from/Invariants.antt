-- The stops that are left give, behind the last one below, what they all give behind the first.
use Rattle.std.proofs.Common.{◌≡◌, ◌≤ℤ◌, ℤ, List, drop}
use Rattle.cv_model.specs.declared.ramp.Stop.{Stop}
use Rattle.cv_model.specs.Positions.{IsCoordinate}
use Rattle.cv_model.specs.Ramps.{linear_from}
use Rattle.cv_symbol.proofs.ramps.from.Given as goal

-- the stop below a number, and what is left behind it
pub record Between (first below : Stop) (all left : List Stop) (v : ℤ) : Type 0 where
  pub same : linear_from below left v ≡ linear_from first all v
  pub below_in : IsCoordinate below.value
  pub behind : below.value ≤ℤ v

abbrev pub invariant-loop-stop : goal.invariant-loop-stop
invariant-loop-stop l = Between l.fn.first l.below l.rest (drop l.stop-index l.rest) l.number
