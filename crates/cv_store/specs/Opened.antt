-- The store that a project file opens with the data of its layers.
--
-- Source: this project's own.
use Rattle.std.specs.Prelude.{◌≡◌, ℕ, true, List, [], map, nat_eq}
use Rattle.std.specs.List.{IsDistinct, AllByRecursion}
use Rattle.cv_model.specs.declared.layer.LayerData.{LayerData}
use Rattle.cv_model.specs.declared.project.LayerFile.{LayerFile}
use Rattle.cv_model.specs.Edits.{fits}
use Rattle.cv_model.specs.Layers.{Layer, contents_of}
use Rattle.cv_model.specs.Openings.{opening_of, layer_of_file}
use Rattle.cv_model.specs.ProjectFiles.{FileParts}
use Rattle.cv_store.specs.Stores.{StoreParts, RevisedLayer}
use Rattle.cv_store.specs.Laws.{IsBehind}

-- a layer as it is opened: its revision is 1
abbrev pub first_row : Layer → RevisedLayer
first_row layer = record { layer = layer; revision = 1 }

-- the store that a file opens: its version is 1, and so is the revision of each layer
abbrev pub store_of : FileParts → List LayerData → StoreParts
store_of file contents = record {
  background = file.background;
  layers = map first_row (opening_of file contents).project.layers;
  version = 1;
}

-- it is the opened project behind no edits
abbrev pub OpenedIsBehind : Type 0
OpenedIsBehind = (file : FileParts) (contents : List LayerData)
    → IsBehind (opening_of file contents).project [] (store_of file contents)

-- a layer of a file with its data
abbrev pub FileRow : Type 0
FileRow = LayerFile × LayerData

-- its id, and the layer as it is opened
abbrev pub file_id : FileRow → ℕ
file_id row = row.0.id

abbrev pub opened_row : FileRow → RevisedLayer
opened_row row = first_row (layer_of_file row.0 row.1)

-- its style is one for its data
abbrev pub IsFileRow : FileRow → Type 0
IsFileRow row = fits row.0.style (contents_of row.1) ≡ true

-- layers that can be opened: their ids differ, and each one's style is one for its data
pub record CanBeRows (rows : List FileRow) : Type 0 where
  pub distinct : IsDistinct nat_eq (map file_id rows)
  pub fitting : AllByRecursion IsFileRow rows
