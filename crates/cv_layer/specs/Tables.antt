-- What a text layer holds: the names of its columns, and its features.
use Rattle.std.specs.Prelude.{◌≡◌, ℕ, List, [], length, sum_by}
use Rattle.cv_model.specs.declared.feature.Feature.{Feature}
use Rattle.cv_model.specs.Features.{IsFeatureTable, ids_of}
use Rattle.cv_model.specs.Edits.{feature_vertices}
use Rattle.cv_layer.specs.declared.stretches.Stretch.{Stretch}
use Rattle.cv_layer.specs.Stretches.{AreStretches}

-- the names of the columns, and the features in order
pub record TableParts : Type 0 where
  pub columns : List (List ℕ)
  pub features : List Feature

-- how many values a feature has
abbrev pub feature_values : Feature → ℕ
feature_values f = length f.values

-- what a table keeps: the features' ids differ, each feature has a value for each column, the stretches have all
-- ids, and its counts of vertices and of values are those of all its features
pub record IsTable (t : TableParts) (ss : List Stretch) (vertices values : ℕ) : Type 0 where
  pub table : IsFeatureTable (record { columns = t.columns; features = t.features; notes = [] })
  pub stretches : AreStretches ss (ids_of t.features)
  pub vertices_are : vertices ≡ sum_by feature_vertices t.features
  pub values_are : values ≡ sum_by feature_values t.features
