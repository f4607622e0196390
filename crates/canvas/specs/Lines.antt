-- What standard error gets at each end of a command.
use Rattle.std.specs.Prelude.{◌≡◌, ℕ, if◌then◌else◌, ◌==◌, List, [], ◌∷◌, ◌++◌, length, codes, Option, Some}
use Rattle.std.specs.Prelude.{Ok, option_map, slice_get}
use Rattle.std.specs.Io.KnownBytes.{Appends}
use Rattle.canvas.specs.declared.lines.Names.{Names}
use Rattle.cv_model.specs.ProjectFiles.{FileParts}
use Rattle.cv_open.specs.declared.ends.DataError.{DataError}
use Rattle.cv_open.specs.declared.ends.End.{End}
use Rattle.cv_open.specs.declared.ends.End.TheVariants.{Done, NoMemory, Usage, BadProject, BadData, Missing}
use Rattle.cv_open.specs.declared.ends.End.TheVariants.{BadScript, ReadFault, WriteFault}
use Rattle.cv_open.specs.declared.ends.Which.TheVariants.{Project, Layer, Script, Output, Text}
use Rattle.cv_open.specs.Ends.{text_of_end, text_of_data}
use Rattle.cv_open.specs.Opened.{project_in}

-- the layer at a place, from 0, of the project that bytes say has this name
abbrev pub IsNameAt : List ℕ → ℕ → List ℕ → Type 0
IsNameAt bytes place name =
    (file : FileParts) × (project_in bytes ≡ Ok file)
    × (option_map (λ layer. layer.name) (slice_get file.layers place) ≡ Some name)

-- the first line: the end's text; nothing at Done
abbrev pub first_line : End → List ℕ
first_line Done = []
first_line end = text_of_end end ++ 10 ∷ []

-- the forms of the commands
abbrev pub forms : List ℕ
forms =
    codes "quick <csv> <out> <w> <h> <xmin> <ymin> <xmax> <ymax> <rrggbb>\ncheck <project>\n"
    ++ codes "paint <project> <canvas> <out>\nsession <project> <script> --workers 0"

-- why bytes were refused, behind the name that was last read
abbrev pub file_line : List ℕ → DataError → List ℕ
file_line read error = read ++ (codes ": " ++ (text_of_data error ++ 10 ∷ []))

-- the same behind the layer's name, where it is known
abbrev pub data_line : (layer read : List ℕ) → DataError → List ℕ
data_line layer read error =
    if length layer == 0 then file_line read error else layer ++ (codes ", " ++ file_line read error)

-- a second line where it helps: the forms of the commands; the layer and the name last read, with why its bytes
-- were refused; the name of the file that failed or isn't there; why a project was refused is shown by tests
abbrev pub IsSecond : End → Names → Option (List ℕ) → Option (List ℕ) → Type 0
IsSecond Usage names old new = Appends old new (forms ++ 10 ∷ [])
IsSecond (BadProject error) names old new = Unit {0}
IsSecond (BadData place error) names old new =
    Appends old new (data_line names.layer.now names.read.now error)
IsSecond (BadScript line) names old new = Appends old new (names.read.now ++ 10 ∷ [])
IsSecond (ReadFault which) names old new = Appends old new (names.read.now ++ 10 ∷ [])
IsSecond (Missing which) names old new = Appends old new (names.read.now ++ 10 ∷ [])
IsSecond (WriteFault (Output k)) names old new = Appends old new (names.written.now ++ 10 ∷ [])
IsSecond (WriteFault Text) names old new = Appends old new []
IsSecond (WriteFault (Layer place)) names old new = Appends old new []
IsSecond (WriteFault Project) names old new = Appends old new []
IsSecond (WriteFault Script) names old new = Appends old new []
IsSecond Done names old new = Appends old new []
IsSecond NoMemory names old new = Appends old new []

-- both lines
abbrev pub AreLines : End → Names → Option (List ℕ) → Option (List ℕ) → Type 0
AreLines end names old new =
    (mid : Option (List ℕ)) × Appends old mid (first_line end) × IsSecond end names mid new
