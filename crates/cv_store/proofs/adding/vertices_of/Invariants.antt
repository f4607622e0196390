-- The vertices so far, with those of the features that are left, are all; and they are counted.
use Rattle.std.proofs.Common.{◌≡◌, ◌+◌, ◌≤◌, sum_by, drop}
use Rattle.cv_model.specs.Edits.{feature_vertices}
use Rattle.cv_model.specs.Geometries.{counted}
use Rattle.cv_store.proofs.adding.vertices_of.Given as goal

abbrev pub invariant-loop-feature : goal.invariant-loop-feature
invariant-loop-feature l =
    (counted (l.count + sum_by feature_vertices (drop l.feature-index l.features))
    ≡ counted (sum_by feature_vertices l.features))
    × (l.count ≤ 18446744073709551615)
