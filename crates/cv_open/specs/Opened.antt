-- What the bytes of a project and of its layers' files say, and how they are read: the project first, and then
-- each layer, in the order of the file.
--
-- Source: this project's own, over JSON (RFC 8259), delimited text (RFC 4180) and ASCII grids.
use Rattle.std.specs.Prelude.{ℕ, ◌+◌, nat_lt, if◌then◌else◌, List, [], ◌∷◌, ◌++◌, length, codes, Option, Some}
use Rattle.std.specs.Prelude.{None, Result, Ok, Err}
use Rattle.std.specs.Str.{is_utf8}
use Rattle.serde_json.specs.Data.{Data}
use Rattle.serde_json.specs.Read.{read}
use Rattle.cv_dtext.specs.declared.options.TextError.{TextError}
use Rattle.cv_dtext.specs.Refusals.{features_of}
use Rattle.cv_grid.specs.Answers.{grid_of}
use Rattle.cv_grid.specs.Tokens.{without_mark}
use Rattle.cv_grid.specs.declared.error.GridError.{GridError}
use Rattle.cv_model.specs.Features.{FeatureTable}
use Rattle.cv_model.specs.declared.delimiter.Delimiter.{Delimiter}
use Rattle.cv_model.specs.Grids.{CellGrid}
use Rattle.cv_model.specs.Layers.{Opening}
use Rattle.cv_model.specs.Openings.{opening_of, first_views}
use Rattle.cv_model.specs.ProjectFiles.{FileParts}
use Rattle.cv_model.specs.Views.{PixelGrid}
use Rattle.cv_model.specs.declared.layer.LayerData.{LayerData}
use Rattle.cv_model.specs.declared.layer.LayerData.TheVariants as contents
use Rattle.cv_model.specs.declared.project.LayerFile.{LayerFile}
use Rattle.cv_model.specs.declared.project.Source.{Source}
use Rattle.cv_model.specs.declared.project.Source.TheVariants as source
use Rattle.cv_project.specs.Errors.{answered}
use Rattle.cv_project.specs.Projects.{tree_project}
use Rattle.cv_project.specs.declared.error.ProjectError.{ProjectError}
use Rattle.cv_project.specs.declared.error.ProjectError.TheVariants.{NotJson, Limit}
use Rattle.cv_open.specs.declared.ends.DataError.{DataError}
use Rattle.cv_open.specs.declared.ends.DataError.TheVariants.{Text, Grid, TooLong}
use Rattle.cv_open.specs.declared.ends.End.{End}
use Rattle.cv_open.specs.declared.ends.End.TheVariants.{BadProject, BadData}
use Rattle.cv_open.specs.declared.ends.Which.TheVariants.{Project, Layer}
use Rattle.cv_open.specs.declared.layer.Layered.{Layered}
use Rattle.cv_open.specs.declared.opening.Opened.{Opened}
use Rattle.cv_open.specs.declared.room.Left.{Left}
use Rattle.cv_open.specs.Readings.{Reads, only, file_of, ◌>>=◌}
use Rattle.cv_open.specs.Rooms.{all_left, most_bytes, most_cells, left_behind}

-- ---- a layer

-- what a reader answers, as the data of a layer
abbrev pub as_text : Result FeatureTable TextError → Result LayerData DataError
as_text (Ok table) = Ok (contents.Text table)
as_text (Err error) = Err (Text error)

abbrev pub as_grid : Result CellGrid GridError → Result LayerData DataError
as_grid (Ok grid) = Ok (contents.Grid grid)
as_grid (Err error) = Err (Grid error)

-- what the bytes of a delimited text say, as far as there is room
abbrev pub text_data : Delimiter → List ℕ → Left → List ℕ → Result LayerData DataError
text_data delimiter geometry left bytes =
    as_text (features_of (record { delimiter = delimiter; geometry = geometry; room = left.room }) bytes)

-- and those of a grid
abbrev pub grid_data : Left → List ℕ → Result LayerData DataError
grid_data left bytes = as_grid (grid_of (most_cells left) (without_mark bytes))

-- what the bytes of a source say
abbrev pub data_of : Source → Left → List ℕ → Result LayerData DataError
data_of (source.Text file delimiter geometry) left bytes = text_data delimiter geometry left bytes
data_of (source.Grid file) left bytes = grid_data left bytes

-- the data of a layer, or why the bytes of its source are refused: they are too many, or don't say it
unfoldable pub layer_of : Source → Left → List ℕ → Result LayerData DataError
layer_of from left bytes =
    if nat_lt (most_bytes left) (length bytes) then Err TooLong else data_of from left bytes

-- the same with what is left behind it, for the layer at a place
abbrev pub layered : ℕ → Left → ℕ → Result LayerData DataError → Result Layered End
layered place left bytes (Ok contents) =
    Ok (record { contents = contents; left = left_behind left bytes contents })
layered place left bytes (Err error) = Err (BadData place error)

-- the name of a source's file
abbrev pub name_of : Source → List ℕ
name_of (source.Text file delimiter geometry) = file
name_of (source.Grid file) = file

-- the layer at a place is read
abbrev pub layer_read : ℕ → Left → Source → Reads Layered
layer_read place left from =
    file_of (record { which = Layer place; name = name_of from })
    >>= (λ bytes. only (layered place left (length bytes) (layer_of from left bytes)))

-- the layers from a place on are read, behind the data of those before
abbrev pub layers_read : ℕ → Left → List LayerData → List LayerFile → Reads (List LayerData)
layers_read place left contents [] = only (Ok contents)
layers_read place left contents (layer ∷ layers) =
    layer_read place left layer.source
    >>= (λ read. layers_read (place + 1) read.left (contents ++ read.contents ∷ []) layers)

-- ---- a project

-- how many bytes a project's file may have
abbrev pub most_project : ℕ
most_project = 16777216

-- what a tree says, if there is one
abbrev pub said_by : Option Data → Result FileParts ProjectError
said_by None = Err NotJson
said_by (Some tree) = answered (tree_project tree)

-- the project that bytes say, or that they are no JSON, or no project
abbrev pub project_in : List ℕ → Result FileParts ProjectError
project_in bytes = if is_utf8 bytes then said_by (read bytes) else Err NotJson

-- the project of a file, or why its bytes are refused: they are too many, or don't say one
unfoldable pub project_of : List ℕ → Result FileParts ProjectError
project_of bytes =
    if nat_lt most_project (length bytes) then Err (Limit (codes "file")) else project_in bytes

-- the same for a command
abbrev pub as_project : Result FileParts ProjectError → Result FileParts End
as_project (Ok file) = Ok file
as_project (Err error) = Err (BadProject error)

-- the project of this name is read
abbrev pub project_read : List ℕ → Reads FileParts
project_read name =
    file_of (record { which = Project; name = name }) >>= (λ bytes. only (as_project (project_of bytes)))

-- the layers of a project are read
abbrev pub layers_of : FileParts → Reads Opened
layers_of file =
    layers_read 0 all_left [] file.layers >>= (λ contents. only (Ok (record { file = file; contents = contents })))

-- the project of this name is opened: it is read, and then all its layers
abbrev pub opened : List ℕ → Reads Opened
opened name = project_read name >>= layers_of

-- ---- what was read opens

-- the project of what was read, and the canvases that show it
abbrev pub opening_in : Opened → Opening
opening_in read = opening_of read.file read.contents

-- what the canvases show at first
abbrev pub views_in : Opened → List (Option PixelGrid)
views_in read = first_views read.file
