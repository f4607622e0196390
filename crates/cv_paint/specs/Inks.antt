-- Styles whose strokes all have one colour.
--
-- Source: this project's own.
use Rattle.std.specs.Prelude.{Bool, true, ◌&&◌, ◌==◌}
use Rattle.std.specs.Option.{option_map_or}
use Rattle.cv_model.specs.declared.colour.Rgba.{Rgba}
use Rattle.cv_model.specs.declared.symbol.Symbol.{Symbol}
use Rattle.cv_model.specs.declared.style.Style.{Style}
use Rattle.cv_model.specs.Pens.{PenParts}
use Rattle.cv_model.specs.Markers.{MarkerParts}
use Rattle.cv_paint.specs.Symbols.{is_each_symbol}

-- two colours are the same
abbrev pub is_colour : Rgba → Rgba → Bool
is_colour a b = (a.r == b.r) && ((a.g == b.g) && ((a.b == b.b) && (a.a == b.a)))

-- each stroke of a symbol has this colour
abbrev pub draws_only : Rgba → Symbol → Bool
draws_only ink symbol =
    option_map_or (is_colour ink) symbol.fill true
    && (option_map_or (λ (pen : PenParts). is_colour ink pen.colour) symbol.pen true
    && option_map_or (λ (marker : MarkerParts). is_colour ink marker.colour) symbol.marker true)

-- each stroke of each symbol that a style gives has this colour
abbrev pub is_ink_of : Rgba → Style → Bool
is_ink_of ink style = is_each_symbol (draws_only ink) style
