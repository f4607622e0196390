-- How wide the symbols of a style are.
--
-- Source: this project's own.
use Rattle.std.specs.Prelude.{ℕ, ◌≡◌, ◌≤◌, max}
use Rattle.std.specs.Option.{option_map_or}
use Rattle.std.specs.List.{fold}
use Rattle.cv_model.specs.declared.symbol.Symbol.{Symbol}
use Rattle.cv_model.specs.declared.style.Class.{Class}
use Rattle.cv_model.specs.declared.style.Range.{Range}
use Rattle.cv_model.specs.declared.style.Style.{Style}
use Rattle.cv_model.specs.declared.style.Style.TheVariants.{Single, Categorised, Graduated, Ramp}
use Rattle.cv_model.specs.Pens.{PenParts}
use Rattle.cv_model.specs.Markers.{MarkerParts}

-- how many pixels wide the pen or the marker of a symbol is, whichever is wider; 1 where it has neither
abbrev pub width_of : Symbol → ℕ
width_of symbol =
    max (option_map_or (λ (pen : PenParts). pen.width) symbol.pen 1)
    (option_map_or (λ (marker : MarkerParts). marker.size) symbol.marker 1)

-- the width of the widest symbol that a style can give; 1 where there is none
abbrev pub widest_of : Style → ℕ
widest_of (Single symbol) = width_of symbol
widest_of (Categorised field classes fallback) =
    max (fold (λ n (c : Class). max n (width_of c.symbol)) 1 classes) (option_map_or width_of fallback 1)
widest_of (Graduated field classes) = fold (λ n (c : Range). max n (width_of c.symbol)) 1 classes
widest_of (Ramp ramp) = 1

-- so many pixels, from 1 to 256, are the width of the widest symbol that a style can give
pub record IsWidest (style : Style) (n : ℕ) : Type 0 where
  pub widest : n ≡ widest_of style
  pub least : 1 ≤ n
  pub most : n ≤ 256
