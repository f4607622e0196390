-- The values so far, with those of the features that are left, are all; and they are counted.
use Rattle.std.proofs.Common.{◌≡◌, ◌+◌, ◌≤◌, sum_by, drop}
use Rattle.cv_layer.specs.Tables.{feature_values}
use Rattle.cv_model.specs.Geometries.{counted}
use Rattle.cv_store.proofs.adding.values_of.Given as goal

abbrev pub invariant-loop-feature : goal.invariant-loop-feature
invariant-loop-feature l =
    (counted (l.count + sum_by feature_values (drop l.feature-index l.features))
    ≡ counted (sum_by feature_values l.features))
    × (l.count ≤ 18446744073709551615)
