-- Styles: which symbol a text gives.
--
-- Source: this project's own classes; a text is read as a number by the grammar of decimals.
use Rattle.std.specs.Prelude.{ℕ, Bool, ◌&&◌, ℤ, int_le, List, Option, Some, None, option_map}
use Rattle.std.specs.Prelude.{option_and_then, find, bytes_eq}
use Rattle.std.specs.Option.{option_or}
use Rattle.cv_number.specs.declared.fixed.Fixed.{Fixed}
use Rattle.cv_number.specs.declared.fixed.Fixed.TheVariants.{Value, High, Low, NotNumber}
use Rattle.cv_number.specs.Reader.{decimal_of}
use Rattle.cv_model.specs.declared.symbol.Symbol.{Symbol}
use Rattle.cv_model.specs.declared.style.Style.{Style}
use Rattle.cv_model.specs.declared.style.Style.TheVariants.{Single, Categorised, Graduated, Ramp}
use Rattle.cv_model.specs.declared.style.Class.{Class}
use Rattle.cv_model.specs.declared.style.Range.{Range}

-- the number of a decimal that has one in range
abbrev pub number_in : Fixed → Option ℤ
number_in (Value z) = Some z
number_in High = None
number_in Low = None
number_in NotNumber = None

-- the number that a text spells, in millionths; none where it is no decimal, or none in range
abbrev pub number_of : List ℕ → Option ℤ
number_of text = option_and_then number_in (decimal_of text)

-- the symbol of the first class with this text
abbrev pub class_of : List Class → List ℕ → Option Symbol
class_of classes text = option_map (λ c. c.symbol) (find (λ c. bytes_eq c.value text) classes)

-- a class holds a number, with both its bounds
abbrev pub holds : ℤ → Range → Bool
holds v c = int_le c.lower v && int_le v c.upper

-- the symbol of the first class that holds a number
abbrev pub range_of : List Range → ℤ → Option Symbol
range_of classes v = option_map (λ c. c.symbol) (find (holds v) classes)

-- the symbol that a style gives to a text, which may be absent; a ramp gives none
unfoldable pub symbol_of : Style → Option (List ℕ) → Option Symbol
symbol_of (Single symbol) text = Some symbol
symbol_of (Categorised field classes fallback) text = option_or (option_and_then (class_of classes) text)
    fallback
symbol_of (Graduated field classes) text = option_and_then (range_of classes) (option_and_then number_of text)
symbol_of (Ramp ramp) text = None
