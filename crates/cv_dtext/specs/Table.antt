-- The features of records: one for each record behind the header.
use Rattle.std.specs.Prelude.{ℕ, ◌+◌, List, [], ◌∷◌, ◌++◌, slice_index_or, Option, bytes_eq}
use Rattle.std.specs.List.{remove, position_from}
use Rattle.std.specs.Option.{option_to_list}
use Rattle.cv_model.specs.declared.feature.Feature.{Feature}
use Rattle.cv_model.specs.declared.note.Note.{Note}
use Rattle.cv_model.specs.Features.{FeatureTable}
use Rattle.cv_dtext.specs.declared.cell.Cell.{Cell}
use Rattle.cv_dtext.specs.Records.{Fields}
use Rattle.cv_dtext.specs.Cell.{cell_of, geometry_in, note_on}

-- the place of the geometry's column: the first field of the header that is the name
abbrev pub column_of : List ℕ → Fields → Option ℕ
column_of name header = position_from (bytes_eq name) 0 header

-- what a record says of its geometry, which stands at this place
abbrev pub cell_at : ℕ → Fields → Cell
cell_at place fields = cell_of (slice_index_or fields place [])

-- the fields but the geometry's
abbrev pub others : ℕ → Fields → List (List ℕ)
others place fields = remove fields place

-- the feature of record n
abbrev pub feature_of : ℕ → ℕ → Fields → Feature
feature_of place n fields =
    record { id = n; geometry = geometry_in (cell_at place fields); values = others place fields }

-- the features of records, of which the first is record n
abbrev pub features_from : ℕ → ℕ → List Fields → List Feature
features_from place n [] = []
features_from place n (fields ∷ records) = feature_of place n fields ∷ features_from place (n + 1) records

-- the notes on them
abbrev pub notes_from : ℕ → ℕ → List Fields → List Note
notes_from place n [] = []
notes_from place n (fields ∷ records) =
    option_to_list (note_on n (cell_at place fields)) ++ notes_from place (n + 1) records

-- the columns, features and notes of a header and the records behind it
abbrev pub table_of : ℕ → Fields → List Fields → FeatureTable
table_of place header records = record {
  columns = others place header;
  features = features_from place 1 records;
  notes = notes_from place 1 records;
}
