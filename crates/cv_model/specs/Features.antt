-- The features of a layer, with the names of their attributes.
use Rattle.std.specs.Prelude.{◌≡◌, ℕ, nat_eq, List, map, length, All}
use Rattle.std.specs.List.{IsDistinct}
use Rattle.cv_model.specs.declared.feature.Feature.{Feature}
use Rattle.cv_model.specs.declared.note.Note.{Note}

-- the names of the columns, the features in order, and the notes on refused geometries
pub record FeatureTable : Type 0 where
  pub columns : List (List ℕ)
  pub features : List Feature
  pub notes : List Note

-- the ids of features, in order
abbrev pub ids_of : List Feature → List ℕ
ids_of features = map (λ f. f.id) features

-- what a list of features keeps: the ids differ, and each feature has a value for each column
pub record IsFeatureTable (t : FeatureTable) : Type 0 where
  pub distinct : IsDistinct nat_eq (ids_of t.features)
  pub whole : All (λ f. length f.values ≡ length t.columns) t.features
