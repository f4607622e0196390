-- What the cell of a record's geometry says.
use Rattle.std.specs.Prelude.{ℕ, if◌then◌else◌, List, Option, Some, None, Result, Ok, Err}
use Rattle.std.specs.List.{list_all}
use Rattle.cv_model.specs.Geometries.{GeometryLists, vertices_of}
use Rattle.cv_model.specs.declared.wkt_error.WktError.{WktError}
use Rattle.cv_model.specs.declared.note.Note.{Note}
use Rattle.cv_reading.specs.Space.{is_space}
use Rattle.cv_wkt.specs.Refusals.{geometry_of}
use Rattle.cv_dtext.specs.declared.cell.Cell.{Cell}
use Rattle.cv_dtext.specs.declared.cell.Cell.TheVariants.{Empty, Geometry, Refused}

-- a text as well-known text: a geometry, or why it is none
abbrev pub read_as : Result GeometryLists WktError → Cell
read_as (Ok g) = Geometry g
read_as (Err e) = Refused e

-- an empty or white cell says nothing, any other what the grammar of well-known text makes of it
unfoldable pub cell_of : List ℕ → Cell
cell_of bytes = if list_all is_space bytes then Empty else read_as (geometry_of bytes)

-- the geometry that a cell gives to its feature
abbrev pub geometry_in : Cell → Option GeometryLists
geometry_in Empty = None
geometry_in (Geometry g) = Some g
geometry_in (Refused e) = None

-- how many vertices it has
abbrev pub vertices_in : Cell → ℕ
vertices_in Empty = 0
vertices_in (Geometry g) = vertices_of g
vertices_in (Refused e) = 0

-- the note on the cell of record n: none but where its text is refused
abbrev pub note_on : ℕ → Cell → Option Note
note_on n Empty = None
note_on n (Geometry g) = None
note_on n (Refused e) = Some (record { row = n; error = e })
