-- The points so far, with those of the lists that are left, are all; and they are counted.
use Rattle.std.proofs.Common.{◌≡◌, ◌+◌, ◌≤◌, length, sum_by, drop}
use Rattle.cv_model.specs.Geometries.{counted}
use Rattle.cv_model.proofs.geometry.points_in.Given as goal

abbrev pub invariant-loop-line : goal.invariant-loop-line
invariant-loop-line l =
    (counted (l.points + sum_by length (drop l.line-index l.lines)) ≡ counted (sum_by length l.lines)) ×
    (l.points ≤ 18446744073709551615)
