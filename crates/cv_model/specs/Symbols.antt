-- How features are drawn.
use Rattle.std.specs.Prelude.{Some, None}
use Rattle.cv_model.specs.declared.colour.Rgb.{Rgb}
use Rattle.cv_model.specs.declared.symbol.Symbol.{Symbol}
use Rattle.cv_model.specs.Colours.{opaque}

-- the symbol of an opaque fill alone
abbrev pub filled : Rgb → Symbol
filled fill = record { fill = Some (opaque fill); pen = None; marker = None }
