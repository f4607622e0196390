-- Project files in form: what is read, and what can be written and opened.
--
-- Source: this project's own, over JSON (RFC 8259).
use Rattle.std.specs.Prelude.{◌≡◌, ℕ, ◌*◌, ◌/◌, min, ◌≤◌, true, false, Bool, ◌<ℤ◌, List, map, length, All}
use Rattle.std.specs.Prelude.{IfSome}
use Rattle.std.specs.List.{IsDistinct}
use Rattle.std.specs.Prelude.{nat_eq}
use Rattle.cv_model.specs.declared.colour.Rgb.{Rgb}
use Rattle.cv_model.specs.declared.layer.Join.{Join}
use Rattle.cv_model.specs.declared.project.CanvasFile.{CanvasFile}
use Rattle.cv_model.specs.declared.project.LayerFile.{LayerFile}
use Rattle.cv_model.specs.declared.project.Source.{Source}
use Rattle.cv_model.specs.declared.project.Source.TheVariants.{Text, Grid}
use Rattle.cv_model.specs.declared.style.Range.{Range}
use Rattle.cv_model.specs.declared.style.Style.{Style}
use Rattle.cv_model.specs.declared.style.Style.TheVariants.{Single, Categorised, Graduated, Ramp}
use Rattle.cv_model.specs.Positions.{Rectangle, IsCoordinate}
use Rattle.cv_model.specs.Views.{IsView, grid_of}

-- a project file: the colour below all layers, the canvases, and the layers, top first
pub record FileParts : Type 0 where
  pub background : Rgb
  pub canvases : List CanvasFile
  pub layers : List LayerFile

-- a name or a column's name has at most 256 bytes
abbrev pub IsName : List ℕ → Type 0
IsName name = length name ≤ 256

-- sides of 1 to 4,096 pixels, and at most 2,097,152 pixels in all
pub record IsSize (w h : ℕ) : Type 0 where
  pub wide : 1 ≤ w
  pub high : 1 ≤ h
  pub most_wide : w ≤ 4096
  pub most_high : h ≤ 4096
  pub most : w * h ≤ 2097152

-- how many layer images of this size a cache of so many bytes may hold, at most 64
abbrev pub capacity_of : ℕ → ℕ → ℕ → ℕ
capacity_of w h cache = min 64 (cache / (4 * (w * h)))

-- an extent that a view of this size can show: it has an area, and its view is in range
pub record IsShown (w h : ℕ) (e : Rectangle) : Type 0 where
  pub wide : e.xmin <ℤ e.xmax
  pub high : e.ymin <ℤ e.ymax
  pub view : IsView (grid_of e w h)

-- a canvas in form: a size, at most 268,435,456 bytes of cache, and an extent that it can show
pub record IsCanvas (c : CanvasFile) : Type 0 where
  pub size : IsSize c.width c.height
  pub cache : c.cache ≤ 268435456
  pub extent : IfSome c.extent (IsShown c.width c.height)

-- a source in form
abbrev pub IsSource : Source → Type 0
IsSource (Text file delimiter geometry) = IsName file × IsName geometry
IsSource (Grid file) = IsName file

-- a join in form
pub record IsJoin (j : Join) : Type 0 where
  pub layer : 1 ≤ j.layer
  pub local : IsName j.local
  pub key : IsName j.key

-- a class of a graduated style in form: its bounds are in range
abbrev pub IsRange : Range → Type 0
IsRange c = IsCoordinate c.lower × IsCoordinate c.upper

-- a style in form
abbrev pub IsStyle : Style → Type 0
IsStyle (Single symbol) = Unit {0}
IsStyle (Categorised field classes fallback) = IsName field.name
IsStyle (Graduated field classes) = IsName field.name × All IsRange classes
IsStyle (Ramp ramp) = Unit {0}

-- a style is one for grids
abbrev pub is_ramp : Style → Bool
is_ramp (Ramp ramp) = true
is_ramp (Single symbol) = false
is_ramp (Categorised field classes fallback) = false
is_ramp (Graduated field classes) = false

-- a source is a grid's
abbrev pub is_grid_source : Source → Bool
is_grid_source (Text file delimiter geometry) = false
is_grid_source (Grid file) = true

-- a layer in form; a ramp is for grids, and another style for text
pub record IsLayer (l : LayerFile) : Type 0 where
  pub id : 1 ≤ l.id
  pub name : IsName l.name
  pub source : IsSource l.source
  pub mask : IfSome l.mask (λ id. 1 ≤ id)
  pub join : IfSome l.join IsJoin
  pub style : IsStyle l.style
  pub fits : is_ramp l.style ≡ is_grid_source l.source

-- a project file in form
pub record IsInForm (file : FileParts) : Type 0 where
  pub few_canvases : length file.canvases ≤ 4
  pub few_layers : length file.layers ≤ 32
  pub canvases : All IsCanvas file.canvases
  pub layers : All IsLayer file.layers
  pub distinct : IsDistinct nat_eq (map (λ (l : LayerFile). l.id) file.layers)
