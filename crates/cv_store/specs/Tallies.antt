-- What contents hold, counted as the limits ask for it.
use Rattle.std.specs.Prelude.{◌≡◌, ◌≤◌, ◌+◌, ◌-◌, ℕ, ◌||◌, Bool, List, length, nat_lt}
use Rattle.std.specs.List.{list_any}
use Rattle.cv_model.specs.declared.feature.Feature.{Feature}
use Rattle.cv_model.specs.Geometries.{counted}
use Rattle.cv_model.specs.Layers.{Contents, Layer}
use Rattle.cv_model.specs.Edits.{total, count_features, count_vertices, count_values, cells_of}
use Rattle.cv_model.specs.Edits.{feature_vertices}
use Rattle.cv_store.specs.declared.tally.Tally.{Tally}

-- the features, vertices, values and cells of contents
abbrev pub tally_of : Contents → Tally
tally_of c = record {
  features = count_features c;
  vertices = count_vertices c;
  values = count_values c;
  cells = cells_of c;
}

-- those of all layers
abbrev pub totals_of : List Layer → Tally
totals_of layers = record {
  features = total count_features layers;
  vertices = total count_vertices layers;
  values = total count_values layers;
  cells = total cells_of layers;
}

-- counts of all layers pass a limit
abbrev pub passes : Tally → Bool
passes t =
    nat_lt 1000000 t.features
    || (nat_lt 4000000 t.vertices || (nat_lt 16000000 t.values || nat_lt 64000000 t.cells))

-- one layer has more cells than a grid may have
abbrev pub has_large : List Layer → Bool
has_large layers = list_any (λ (layer : Layer). nat_lt 16000000 (cells_of layer.core.contents)) layers

-- no count of the part is above that of the whole
pub record IsPartOf (part whole : Tally) : Type 0 where
  pub features : part.features ≤ whole.features
  pub vertices : part.vertices ≤ whole.vertices
  pub values : part.values ≤ whole.values
  pub cells : part.cells ≤ whole.cells

-- counts with others in place of a part of them
pub record IsExchanged (whole part other made : Tally) : Type 0 where
  pub features : made.features + part.features ≡ whole.features + other.features
  pub vertices : made.vertices + part.vertices ≡ whole.vertices + other.vertices
  pub values : made.values + part.values ≡ whole.values + other.values
  pub cells : made.cells + part.cells ≡ whole.cells + other.cells

-- these counts
abbrev pub exchange : Tally → Tally → Tally → Tally
exchange whole part other = record {
  features = whole.features - part.features + other.features;
  vertices = whole.vertices - part.vertices + other.vertices;
  values = whole.values - part.values + other.values;
  cells = whole.cells - part.cells + other.cells;
}

-- no counts
abbrev pub no_tally : Tally
no_tally = record { features = 0; vertices = 0; values = 0; cells = 0 }

-- the vertices of a geometry alone, and a feature, counted as far as 64 bits hold it
abbrev pub vertex_tally : ℕ → Tally
vertex_tally vertices = record { features = 0; vertices = counted vertices; values = 0; cells = 0 }

abbrev pub feature_tally : Feature → Tally
feature_tally feature = record {
  features = 1;
  vertices = counted (feature_vertices feature);
  values = length feature.values;
  cells = 0;
}

-- contents, counted; vertices and values as far as 64 bits hold them
abbrev pub data_tally : Contents → Tally
data_tally held = record {
  features = count_features held;
  vertices = counted (count_vertices held);
  values = counted (count_values held);
  cells = cells_of held;
}
