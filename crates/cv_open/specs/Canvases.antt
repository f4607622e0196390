-- A project that is opened for one of its canvases, which is to be painted: a canvas that isn't there, or has
-- no extent, is refused before any layer is read.
--
-- Source: this project's own.
use Rattle.std.specs.Prelude.{ℕ, List, ◌++◌, codes, Option, Some, None, Result, Ok, Err, slice_get}
use Rattle.std.specs.Fmt.{decimal}
use Rattle.cv_model.specs.declared.project.CanvasFile.{CanvasFile}
use Rattle.cv_model.specs.Openings.{first_view}
use Rattle.cv_model.specs.ProjectFiles.{FileParts}
use Rattle.cv_model.specs.Views.{PixelGrid}
use Rattle.cv_project.specs.declared.error.ProjectError.TheVariants.{Missing}
use Rattle.cv_open.specs.declared.canvas.Shown.{Shown}
use Rattle.cv_open.specs.declared.ends.End.{End}
use Rattle.cv_open.specs.declared.ends.End.TheVariants.{BadProject}
use Rattle.cv_open.specs.declared.opening.Opened.{Opened}
use Rattle.cv_open.specs.Opened.{project_read, layers_of}
use Rattle.cv_open.specs.Readings.{Reads, only, ◌>>=◌}

-- the path of a canvas in a project's file
abbrev pub canvas_path : ℕ → List ℕ
canvas_path k = codes "canvases[" ++ (decimal k ++ codes "]")

-- the project lacks what stands at this path
abbrev pub lacking : {X : Type 0} → List ℕ → Result X End
lacking path = Err (BadProject (Missing path))

-- the view of a canvas with an extent
abbrev pub extent_view : ℕ → Option PixelGrid → Result PixelGrid End
extent_view k None = lacking (canvas_path k ++ codes ".extent")
extent_view k (Some view) = Ok view

-- what a canvas shows at first, if it is there
abbrev pub canvas_view : ℕ → Option CanvasFile → Result PixelGrid End
canvas_view k None = lacking (canvas_path k)
canvas_view k (Some canvas) = extent_view k (first_view canvas)

-- what the canvas of this number shows at first, counted from 0
abbrev pub view_in : FileParts → ℕ → Result PixelGrid End
view_in file k = canvas_view k (slice_get file.canvases k)

-- what was opened, with the view that is painted of it
abbrev pub shown_at : PixelGrid → Opened → Reads Shown
shown_at view opened = only (Ok (record { opened = opened; view = view }))

-- the layers of a project are read for a view
abbrev pub layers_at : FileParts → PixelGrid → Reads Shown
layers_at file view = layers_of file >>= shown_at view

-- the same for a canvas
abbrev pub layers_for : ℕ → FileParts → Reads Shown
layers_for k file = only (view_in file k) >>= layers_at file

-- the project of this name is opened for this canvas: it is read, then the canvas looked for, and then all
-- layers are read
abbrev pub shown : List ℕ → ℕ → Reads Shown
shown name k = project_read name >>= layers_for k
