-- The stops that are read, before those of the further words, are those of all words.
use Rattle.std.proofs.Common.{◌≡◌, length, All}
use Rattle.cv_model.specs.Positions.{IsCoordinate}
use Rattle.cv_script.specs.Styles.{stops, with_others}
use Rattle.cv_script.proofs.styles.stops.Given as goal

abbrev pub invariant-loop-rest : goal.invariant-loop-rest
invariant-loop-rest l = record {
  same : with_others l.stops (stops l.rest) ≡ stops l.words;
  kept : All (λ s. IsCoordinate s.value) l.stops;
}

abbrev pub decreases-loop-rest : goal.decreases-loop-rest
decreases-loop-rest l = length l.rest
