-- What the types of a project file's parts keep, so that it holds of each file that there is in memory.
use Rattle.std.specs.Prelude.{ℕ, ◌≤◌, List, All, IfSome}
use Rattle.cv_model.specs.Classes.{AreClasses}
use Rattle.cv_model.specs.Markers.{MarkerParts, IsMarker}
use Rattle.cv_model.specs.Pens.{PenParts, IsPen}
use Rattle.cv_model.specs.Positions.{IsExtent}
use Rattle.cv_model.specs.ProjectFiles.{FileParts}
use Rattle.cv_model.specs.Ramps.{RampParts, IsRamp}
use Rattle.cv_model.specs.Scales.{AreScales}
use Rattle.cv_model.specs.declared.colour.Rgb.{Rgb}
use Rattle.cv_model.specs.declared.colour.Rgba.{Rgba}
use Rattle.cv_model.specs.declared.layer.Join.{Join}
use Rattle.cv_model.specs.declared.project.CanvasFile.{CanvasFile}
use Rattle.cv_model.specs.declared.project.LayerFile.{LayerFile}
use Rattle.cv_model.specs.declared.ramp.Stop.{Stop}
use Rattle.cv_model.specs.declared.style.Class.{Class}
use Rattle.cv_model.specs.declared.style.Range.{Range}
use Rattle.cv_model.specs.declared.style.Style.{Style}
use Rattle.cv_model.specs.declared.style.Style.TheVariants.{Single, Categorised, Graduated, Ramp}
use Rattle.cv_model.specs.declared.symbol.Symbol.{Symbol}

-- a number of 32 bits
abbrev pub IsWord : ℕ → Type 0
IsWord n = n ≤ 4294967295

-- a number of 8 bits
abbrev pub IsByte : ℕ → Type 0
IsByte n = n ≤ 255

pub record KeptBackground (c : Rgb) : Type 0 where
  pub red : IsByte c.r
  pub green : IsByte c.g
  pub blue : IsByte c.b

pub record KeptColour (c : Rgba) : Type 0 where
  pub red : IsByte c.r
  pub green : IsByte c.g
  pub blue : IsByte c.b
  pub alpha : IsByte c.a

pub record KeptPen (p : PenParts) : Type 0 where
  pub pen : IsPen p
  pub colour : KeptColour p.colour

pub record KeptMarker (m : MarkerParts) : Type 0 where
  pub marker : IsMarker m
  pub colour : KeptColour m.colour

pub record KeptSymbol (symbol : Symbol) : Type 0 where
  pub fill : IfSome symbol.fill KeptColour
  pub pen : IfSome symbol.pen KeptPen
  pub marker : IfSome symbol.marker KeptMarker

abbrev pub KeptClass : Class → Type 0
KeptClass class = KeptSymbol class.symbol

abbrev pub KeptRange : Range → Type 0
KeptRange range = KeptSymbol range.symbol

abbrev pub KeptStop : Stop → Type 0
KeptStop stop = KeptColour stop.colour

-- a list of so many classes, each kept
pub record KeptClasses {X : Type 0} (Kept : X → Type 0) (classes : List X) : Type 0 where
  pub few : AreClasses classes
  pub each : All Kept classes

pub record KeptRamp (r : RampParts) : Type 0 where
  pub ramp : IsRamp r
  pub stops : All KeptStop r.stops

abbrev pub KeptStyle : Style → Type 0
KeptStyle (Single symbol) = KeptSymbol symbol
KeptStyle (Categorised column classes fallback) = KeptClasses KeptClass classes × IfSome fallback KeptSymbol
KeptStyle (Graduated column classes) = KeptClasses KeptRange classes
KeptStyle (Ramp ramp) = KeptRamp ramp

abbrev pub KeptJoin : Join → Type 0
KeptJoin join = IsWord join.layer

pub record KeptLayer (layer : LayerFile) : Type 0 where
  pub id : IsWord layer.id
  pub opacity : IsByte layer.opacity
  pub mask : IfSome layer.mask IsWord
  pub join : IfSome layer.join KeptJoin
  pub style : KeptStyle layer.style
  pub scales : AreScales layer.scales

abbrev pub KeptCanvas : CanvasFile → Type 0
KeptCanvas canvas = IfSome canvas.extent IsExtent

pub record KeptFile (file : FileParts) : Type 0 where
  pub background : KeptBackground file.background
  pub canvases : All KeptCanvas file.canvases
  pub layers : All KeptLayer file.layers
