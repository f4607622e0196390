-- Kinds of values: how each is spelled in JSON, and in which range it must be.
use Rattle.std.specs.Prelude.{ℕ, Bool, ◌&&◌, nat_le, if◌then◌else◌, ℤ, pos, negsuc, int_le, List, length}
use Rattle.std.specs.Prelude.{slice_index, find, bytes_eq, Option, Some, None, option_map, option_and_then}
use Rattle.std.specs.Prelude.{Result, Ok, Err}
use Rattle.std.specs.Option.{option_or}
use Rattle.std.specs.Result.{result_ok}
use Rattle.hex.specs.Hex.{decode_sized}
use Rattle.serde_json.specs.Find.{as_number, as_u64, as_str, as_bool}
use Rattle.cv_number.specs.Reader.{decimal_of}
use Rattle.cv_model.specs.Colours.{opaque}
use Rattle.cv_model.specs.Styles.{number_in}
use Rattle.cv_model.specs.declared.colour.Rgb.{Rgb}
use Rattle.cv_model.specs.declared.colour.Rgba.{Rgba}
use Rattle.cv_project.specs.declared.refusal.Refusal.{Refusal}
use Rattle.cv_project.specs.declared.refusal.Refusal.TheVariants.{WrongKind, Limit}
use Rattle.cv_project.specs.Answers.{◌>>=◌}
use Rattle.cv_project.specs.Nodes.{TreeNode}

-- a value is of the kind that is wanted, and spelled so
abbrev pub spelled : {X : Type 0} → TreeNode → Option X → Result X Refusal
spelled node None = Err (WrongKind node.path)
spelled node (Some x) = Ok x

-- a value is one that has a number in range
abbrev pub in_range : {X : Type 0} → TreeNode → Option X → Result X Refusal
in_range node None = Err (Limit node.path)
in_range node (Some x) = Ok x

-- a value is in range
abbrev pub within : {X : Type 0} → TreeNode → Bool → X → Result X Refusal
within node test x = if test then Ok x else Err (Limit node.path)

-- a whole number: digits alone, below 2^64
unfoldable pub whole_of : TreeNode → Result ℕ Refusal
whole_of node = spelled node (option_and_then as_u64 (as_number node.value))

-- a whole number in this range
unfoldable pub whole_in : ℕ → ℕ → TreeNode → Result ℕ Refusal
whole_in least most node = do
  n ← spelled node (option_and_then as_u64 (as_number node.value))
  within node (nat_le least n && nat_le n most) n

-- the id of a layer
abbrev pub id_of : TreeNode → Result ℕ Refusal
id_of = whole_in 1 4294967295

-- a string
unfoldable pub text_of : TreeNode → Result (List ℕ) Refusal
text_of node = spelled node (as_str node.value)

-- a string of at most 256 bytes
unfoldable pub name_of : TreeNode → Result (List ℕ) Refusal
name_of node = do
  bytes ← spelled node (as_str node.value)
  within node (nat_le (length bytes) 256) bytes

-- true or false
unfoldable pub flag_of : TreeNode → Result Bool Refusal
flag_of node = spelled node (as_bool node.value)

-- a string that is one of these words
unfoldable pub word_in : {X : Type 0} → (X → List ℕ) → List X → TreeNode → Result X Refusal
word_in spelling all node = spelled node (option_and_then (λ bytes. find (λ x. bytes_eq
    (spelling x) bytes) all) (as_str node.value))

-- a string that spells a decimal, with a number of millionths in this range
unfoldable pub decimal_in : ℤ → ℤ → TreeNode → Result ℤ Refusal
decimal_in least most node = do
  value ← spelled node (option_and_then decimal_of (as_str node.value))
  z ← in_range node (number_in value)
  within node (int_le least z && int_le z most) z

-- a coordinate, the value of a cell, or a number of a text
abbrev pub coordinate_of : TreeNode → Result ℤ Refusal
coordinate_of = decimal_in (negsuc 999999999999999) (pos 1000000000000000)

-- red, green and blue
abbrev pub rgb_of : List ℕ → Rgb
rgb_of bytes = record { r = slice_index bytes 0; g = slice_index bytes 1; b = slice_index bytes 2 }

-- red, green, blue and alpha
abbrev pub rgba_of : List ℕ → Rgba
rgba_of bytes = record { r = slice_index bytes 0; g = slice_index bytes 1; b = slice_index bytes 2; a = slice_index bytes 3 }

-- the colour of six hexadecimal digits
abbrev pub rgb_spelled : List ℕ → Option Rgb
rgb_spelled bytes = option_map rgb_of (result_ok (decode_sized bytes 3))

-- the colour of six hexadecimal digits, which is opaque, or of eight
abbrev pub rgba_spelled : List ℕ → Option Rgba
rgba_spelled bytes = option_or (option_map opaque (rgb_spelled bytes)) (option_map rgba_of (result_ok
    (decode_sized bytes 4)))

-- a string of six hexadecimal digits
unfoldable pub background_of : TreeNode → Result Rgb Refusal
background_of node = spelled node (option_and_then rgb_spelled (as_str node.value))

-- a string of six or eight hexadecimal digits
unfoldable pub colour_of : TreeNode → Result Rgba Refusal
colour_of node = spelled node (option_and_then rgba_spelled (as_str node.value))
