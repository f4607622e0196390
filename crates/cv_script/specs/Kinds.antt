-- Kinds of arguments: what a word says.
use Rattle.std.specs.Prelude.{ℕ, ◌+◌, ◌-◌, ◌*◌, ◌==◌, Bool, ◌&&◌, nat_le, if◌then◌else◌, ℤ, pos, neg_ℤ}
use Rattle.std.specs.Prelude.{int_le, List, [], ◌∷◌, length, fold, bytes_eq, codes, slice_index, Option, Some}
use Rattle.std.specs.Prelude.{None, option_map, find}
use Rattle.std.specs.Char.{is_ascii_digit}
use Rattle.std.specs.List.{list_all}
use Rattle.std.specs.Option.{option_or}
use Rattle.std.specs.Result.{result_ok}
use Rattle.std.specs.Str.{is_utf8}
use Rattle.hex.specs.Hex.{decode_sized}
use Rattle.cv_model.specs.declared.blend.Blend.{Blend}
use Rattle.cv_model.specs.declared.blend.Blend.TheVariants.{Normal, Multiply, Screen, Overlay, Darken}
use Rattle.cv_model.specs.declared.blend.Blend.TheVariants.{Lighten, ColorDodge, ColorBurn, HardLight}
use Rattle.cv_model.specs.declared.blend.Blend.TheVariants.{Difference, Exclusion, Addition}
use Rattle.cv_model.specs.declared.colour.Rgb.{Rgb}
use Rattle.cv_model.specs.declared.colour.Rgba.{Rgba}
use Rattle.cv_model.specs.declared.grid.Cell.{Cell}
use Rattle.cv_model.specs.declared.grid.Cell.TheVariants as cells
use Rattle.cv_model.specs.declared.ramp.RampKind.{RampKind}
use Rattle.cv_model.specs.declared.ramp.RampKind.TheVariants.{Exact, Discrete, Linear}
use Rattle.cv_model.specs.declared.shape.Shape.{Shape}
use Rattle.cv_model.specs.declared.shape.Shape.TheVariants.{Square, Diamond, Circle}
use Rattle.cv_model.specs.Colours.{opaque}
use Rattle.cv_model.specs.Geometries.{GeometryLists}
use Rattle.cv_model.specs.Styles.{number_of}
use Rattle.cv_number.specs.declared.fixed.Fixed.{Fixed}
use Rattle.cv_number.specs.declared.fixed.Fixed.TheVariants.{Value, High, Low, NotNumber}
use Rattle.cv_number.specs.Reader.{decimal_of}
use Rattle.cv_wkt.specs.Refusals.{geometry_of}
use Rattle.cv_script.specs.Answers.{◌>>=◌, tested}

-- ---- whole numbers

-- the number that decimal digits write
abbrev pub digits_value : List ℕ → ℕ
digits_value digits = fold (λ n b. 10 * n + (b - 48)) 0 digits

-- a word of one byte to so many
abbrev pub is_short : ℕ → List ℕ → Bool
is_short most word = nat_le 1 (length word) && nat_le (length word) most

-- one to ten digits
abbrev pub is_whole : List ℕ → Bool
is_whole word = is_short 10 word && list_all is_ascii_digit word

-- a whole number in this range
unfoldable pub whole_in : ℕ → ℕ → List ℕ → Option ℕ
whole_in least most word = do
  n ← tested (is_whole word) (digits_value word)
  tested (nat_le least n && nat_le n most) n

-- a canvas, a place, a row, a column, or a layer that is named and needn't be there
abbrev pub number : List ℕ → Option ℕ
number = whole_in 0 4294967295

-- the id of a feature, or that of a new layer
abbrev pub id : List ℕ → Option ℕ
id = whole_in 1 4294967295

-- a number of pixels, perhaps with a minus
unfoldable pub step : List ℕ → Option ℤ
step [] = None
step (b ∷ bs) =
    if b == 45 then option_map (λ n. neg_ℤ (pos n)) (whole_in 0 4096 bs)
    else option_map pos (whole_in 0 4096 (b ∷ bs))

-- ---- texts

-- a text; the words of a line of UTF-8 all are
unfoldable pub text : List ℕ → Option (List ℕ)
text word = tested (is_utf8 word) word

-- some texts
unfoldable pub texts : List (List ℕ) → Option (List (List ℕ))
texts words = tested (list_all is_utf8 words) words

-- a name isn't empty and has at most 256 bytes
abbrev pub is_name : List ℕ → Bool
is_name = is_short 256

-- the name of a file, a layer or a column
unfoldable pub name : List ℕ → Option (List ℕ)
name word = do
  named ← tested (is_name word) word
  text named

-- the names of columns
unfoldable pub names : List (List ℕ) → Option (List (List ℕ))
names words = do
  named ← tested (list_all is_name words) words
  texts named

-- the word `none`
abbrev pub is_none_word : List ℕ → Bool
is_none_word word = bytes_eq word (codes "none")

-- a word of this kind, or the word `none`
abbrev pub or_none : {A : Type 0} → (List ℕ → Option A) → List ℕ → Option (Option A)
or_none kind word = if is_none_word word then Some None else option_map Some (kind word)

-- ---- decimals and geometries

-- a decimal with a number of millionths in this range
unfoldable pub decimal_in : ℤ → ℤ → List ℕ → Option ℤ
decimal_in least most word = do
  z ← number_of word
  tested (int_le least z && int_le z most) z

-- a decimal that is a value: a coordinate, and any number of a ramp
abbrev pub coordinate : List ℕ → Option ℤ
coordinate = number_of

-- the cell of a decimal: one beyond the range counts as the limit, and `nan` has no data
abbrev pub cell_of : Fixed → Cell
cell_of (Value z) = cells.Value z
cell_of High = cells.Value (pos 1000000000000000)
cell_of Low = cells.Value (neg_ℤ (pos 1000000000000000))
cell_of NotNumber = cells.Void

-- the cell of a grid
abbrev pub cell : List ℕ → Option Cell
cell word = option_map cell_of (decimal_of word)

-- a well-known text
abbrev pub geometry : List ℕ → Option GeometryLists
geometry word = result_ok (geometry_of word)

-- ---- colours

-- red, green and blue
abbrev pub rgb_of : List ℕ → Rgb
rgb_of bytes = record { r = slice_index bytes 0; g = slice_index bytes 1; b = slice_index bytes 2 }

-- red, green, blue and alpha
abbrev pub rgba_of : List ℕ → Rgba
rgba_of bytes = record {
  r = slice_index bytes 0;
  g = slice_index bytes 1;
  b = slice_index bytes 2;
  a = slice_index bytes 3;
}

-- the colour of six hexadecimal digits
abbrev pub rgb : List ℕ → Option Rgb
rgb word = option_map rgb_of (result_ok (decode_sized word 3))

-- the colour of six hexadecimal digits, which is opaque, or of eight
abbrev pub colour : List ℕ → Option Rgba
colour word = option_or (option_map opaque (rgb word)) (option_map rgba_of (result_ok
    (decode_sized word 4)))

-- ---- words of a list

-- the value of a word
abbrev pub word_in : {A : Type 0} → (A → List ℕ) → List A → List ℕ → Option A
word_in spelling all word = find (λ x. bytes_eq (spelling x) word) all

abbrev pub blend_word : Blend → List ℕ
blend_word Normal = codes "normal"
blend_word Multiply = codes "multiply"
blend_word Screen = codes "screen"
blend_word Overlay = codes "overlay"
blend_word Darken = codes "darken"
blend_word Lighten = codes "lighten"
blend_word ColorDodge = codes "color-dodge"
blend_word ColorBurn = codes "color-burn"
blend_word HardLight = codes "hard-light"
blend_word Difference = codes "difference"
blend_word Exclusion = codes "exclusion"
blend_word Addition = codes "addition"

abbrev pub blends : List Blend
blends =
    Normal ∷ Multiply ∷ Screen ∷ Overlay ∷ Darken ∷ Lighten ∷ ColorDodge ∷ ColorBurn ∷ HardLight
    ∷ Difference ∷ Exclusion ∷ Addition ∷ []

abbrev pub ramp_word : RampKind → List ℕ
ramp_word Exact = codes "exact"
ramp_word Discrete = codes "discrete"
ramp_word Linear = codes "linear"

abbrev pub ramps : List RampKind
ramps = Exact ∷ Discrete ∷ Linear ∷ []

abbrev pub shape_word : Shape → List ℕ
shape_word Square = codes "square"
shape_word Diamond = codes "diamond"
shape_word Circle = codes "circle"

abbrev pub shapes : List Shape
shapes = Square ∷ Diamond ∷ Circle ∷ []
