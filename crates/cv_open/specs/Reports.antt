-- The report on an opened project.
--
-- Source: this project's own; the written project is compact JSON (RFC 8259).
use Rattle.std.specs.Prelude.{ℕ, List, [], ◌∷◌, ◌++◌, length, codes}
use Rattle.std.specs.Fmt.{decimal}
use Rattle.std.specs.List.{flat_map}
use Rattle.serde_json.specs.Written.{compact_text}
use Rattle.cv_model.specs.ProjectFiles.{FileParts}
use Rattle.cv_model.specs.declared.layer.LayerData.{LayerData}
use Rattle.cv_model.specs.declared.layer.LayerData.TheVariants.{Text, Grid}
use Rattle.cv_model.specs.declared.note.Note.{Note}
use Rattle.cv_model.specs.declared.project.LayerFile.{LayerFile}
use Rattle.cv_model.specs.declared.wkt_error.WktError.{WktError}
use Rattle.cv_model.specs.declared.wkt_error.WktError.TheVariants.{Syntax, Curve, OutOfRange, TooDeep, TooMany}
use Rattle.cv_model.specs.declared.wkt_error.WktError.TheVariants.{NoMemory}
use Rattle.cv_project.specs.Trees.{file_tree}
use Rattle.cv_open.specs.declared.opening.Opened.{Opened}
use Rattle.cv_open.specs.Rooms.{vertices_in_all}

-- the word of a note: why a geometry was refused
abbrev pub note_word : WktError → List ℕ
note_word (Syntax at) = codes "syntax"
note_word (Curve at) = codes "curve"
note_word (OutOfRange at) = codes "out-of-range"
note_word TooDeep = codes "too-deep"
note_word TooMany = codes "too-many"
note_word NoMemory = codes "no-memory"

-- the line of a note: the record, and the word
abbrev pub note_line : Note → List ℕ
note_line note = codes "note " ++ (decimal note.row ++ ((32 ∷ []) ++ (note_word note.error ++ 10 ∷ [])))

-- the line of a layer: features, vertices and notes, or columns and rows
abbrev pub layer_line : ℕ → LayerData → List ℕ
layer_line id (Text table) =
    codes "layer " ++ (decimal id ++ (codes " text " ++ (decimal (length table.features) ++ ((32 ∷ [])
    ++ (decimal (vertices_in_all table) ++ ((32 ∷ []) ++ (decimal (length table.notes) ++ 10 ∷ [])))))))
layer_line id (Grid grid) =
    codes "layer " ++ (decimal id ++ (codes " grid " ++ (decimal grid.cols ++ ((32 ∷ [])
    ++ (decimal grid.rows ++ 10 ∷ [])))))

-- the notes on a layer's geometries
abbrev pub notes_of : LayerData → List Note
notes_of (Text table) = table.notes
notes_of (Grid grid) = []

-- the lines of a layer, and those of its notes
abbrev pub layer_lines : ℕ → LayerData → List ℕ
layer_lines id contents = layer_line id contents ++ flat_map note_line (notes_of contents)

-- the lines of layers, each with its data
abbrev pub layers_lines : List LayerFile → List LayerData → List ℕ
layers_lines [] contents = []
layers_lines (layer ∷ layers) [] = []
layers_lines (layer ∷ layers) (first ∷ contents) = layer_lines layer.id first ++ layers_lines layers contents

-- the line of a project: its layers and canvases
abbrev pub project_line : FileParts → List ℕ
project_line file =
    codes "project " ++ (decimal (length file.layers) ++ ((32 ∷ [])
    ++ (decimal (length file.canvases) ++ 10 ∷ [])))

-- the report: the lines of the layers in the file's order, that of the project, and the written project
unfoldable pub report_of : Opened → List ℕ
report_of opened =
    ((layers_lines opened.file.layers opened.contents ++ project_line opened.file)
    ++ compact_text (file_tree opened.file))
    ++ 10 ∷ []
