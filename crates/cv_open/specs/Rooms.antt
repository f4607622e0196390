-- How much may be read of a layer: what the layers before it left.
use Rattle.std.specs.Prelude.{ℕ, ◌*◌, ◌-◌, min, length, sum_by}
use Rattle.std.specs.Option.{option_map_or}
use Rattle.cv_model.specs.Features.{FeatureTable}
use Rattle.cv_model.specs.Geometries.{vertices_of, counted}
use Rattle.cv_model.specs.declared.feature.Feature.{Feature}
use Rattle.cv_model.specs.declared.layer.LayerData.{LayerData}
use Rattle.cv_model.specs.declared.layer.LayerData.TheVariants.{Text, Grid}
use Rattle.cv_model.specs.declared.limits.TheConstants.{MOST_BYTES}
use Rattle.cv_model.specs.declared.room.Room.{Room}
use Rattle.cv_open.specs.declared.room.Left.{Left}

-- what all layers of a project may have together
abbrev pub all_left : Left
all_left = record {
  room = record { features = 1000000; vertices = 4000000; values = 16000000 };
  cells = 64000000;
  bytes = 536870912;
}

-- how many bytes a file may have
abbrev pub most_bytes : Left → ℕ
most_bytes left = min MOST_BYTES left.bytes

-- how many cells a grid may have
abbrev pub most_cells : Left → ℕ
most_cells left = min 16000000 left.cells

-- how many vertices a feature has
abbrev pub vertices_in : Feature → ℕ
vertices_in feature = option_map_or vertices_of feature.geometry 0

-- how many vertices all features have, as it is counted in 64 bits
abbrev pub vertices_in_all : FeatureTable → ℕ
vertices_in_all table = counted (sum_by vertices_in table.features)

-- how many values they have, one in each column, likewise
abbrev pub values_in_all : FeatureTable → ℕ
values_in_all table = counted (length table.features * length table.columns)

-- what is left of the room behind these features
abbrev pub room_behind : Room → FeatureTable → Room
room_behind room table = record {
  features = room.features - length table.features;
  vertices = room.vertices - vertices_in_all table;
  values = room.values - values_in_all table;
}

-- what is left behind a layer that was read from so many bytes
abbrev pub left_behind : Left → ℕ → LayerData → Left
left_behind left bytes (Text table) = record {
  room = room_behind left.room table;
  cells = left.cells;
  bytes = left.bytes - bytes;
}
left_behind left bytes (Grid grid) = record {
  room = left.room;
  cells = left.cells - length grid.cells;
  bytes = left.bytes - bytes;
}
