-- Strokes laid on all pixels of a canvas at a view.
--
-- Source: this project's own; colours are laid by W3C Compositing and Blending Level 1, source-over.
use Rattle.std.specs.Prelude.{ℕ, ◌≡◌, ◌<◌, List, Option, Some}
use Rattle.cv_model.specs.declared.colour.Rgba.{Rgba}
use Rattle.cv_model.specs.declared.symbol.Symbol.{Symbol}
use Rattle.cv_model.specs.declared.feature.Feature.{Feature}
use Rattle.cv_model.specs.Layers.{Parts}
use Rattle.cv_model.specs.Texts.{feature_symbol}
use Rattle.cv_model.specs.Positions.{Position}
use Rattle.cv_model.specs.Views.{PixelGrid, centre_of}
use Rattle.cv_model.specs.Pens.{PenParts}
use Rattle.cv_model.specs.Markers.{MarkerParts}
use Rattle.cv_model.specs.Colours.{laid_on}
use Rattle.cv_geom.specs.declared.runs.Area.{Area}
use Rattle.cv_canvas.specs.Canvas.{CanvasFrame, IsInk}

-- a canvas has the size of a view
pub record IsSized (view : PixelGrid) (frame : CanvasFrame) : Type 0 where
  pub width : frame.width ≡ view.w
  pub height : frame.height ≡ view.h

-- all pixels of a view
abbrev pub whole_of : PixelGrid → Area
whole_of view = record {
  columns = record { from = 0; end = view.w };
  rows = record { from = 0; end = view.h };
}

-- each pixel of a view has the strokes at its centre, in order, over what it had
pub record Lays (view : PixelGrid) (strokes : Position → List Rgba) (before after : ℕ → ℕ → Rgba) : Type 0 where
  pub at : (i j : ℕ) → i < view.w → j < view.h → after i j ≡ laid_on (before i j) (strokes (centre_of view i j))

-- a canvas takes the colours of a symbol
pub record TakesSymbol (ink : Option Rgba) (symbol : Symbol) : Type 0 where
  pub fill : (colour : Rgba) → symbol.fill ≡ Some colour → IsInk ink colour
  pub pen : (pen : PenParts) → symbol.pen ≡ Some pen → IsInk ink pen.colour
  pub marker : (marker : MarkerParts) → symbol.marker ≡ Some marker → IsInk ink marker.colour

-- a canvas takes the colours of all symbols that features get
abbrev pub TakesLayer : Option Rgba → Parts → Type 0
TakesLayer ink parts =
    (feature : Feature) (symbol : Symbol) → feature_symbol parts feature ≡ Some symbol → TakesSymbol ink symbol
