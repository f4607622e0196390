-- The words of a header, and what their values say.
use Rattle.std.specs.Prelude.{ℕ, ◌+◌, ◌-◌, ◌*◌, nat_lt, ◌==◌, Bool, false, not, ◌&&◌, if◌then◌else◌, ℤ, pos}
use Rattle.std.specs.Prelude.{int_lt, unsigned_abs, List, [], ◌∷◌, length, fold, Option, Some, None}
use Rattle.std.specs.Prelude.{is_none, option_map, option_and_then, codes}
use Rattle.std.specs.Char.{is_ascii_digit, is_ascii_alphabetic}
use Rattle.std.specs.List.{list_all}
use Rattle.std.specs.Str.{str_eq_ignore_ascii_case}
use Rattle.cv_number.specs.declared.fixed.Fixed.{Fixed}
use Rattle.cv_number.specs.declared.fixed.Fixed.TheVariants.{Value}
use Rattle.cv_number.specs.Reader.{decimal_of}
use Rattle.cv_grid.specs.declared.word.Word.{Word}
use Rattle.cv_grid.specs.declared.word.Word.TheVariants.{Ncols, Nrows, XllCorner, XllCenter, YllCorner}
use Rattle.cv_grid.specs.declared.word.Word.TheVariants.{YllCenter, Cellsize, Dx, Dy, NodataValue}
use Rattle.cv_grid.specs.declared.settings.Anchor.TheVariants.{Corner, Centre}
use Rattle.cv_grid.specs.declared.settings.Settings.{Settings}

-- ---- the words

-- a name in any case
abbrev pub is_name : List ℕ → List ℕ → Bool
is_name name bytes = str_eq_ignore_ascii_case name bytes

-- the first byte is a letter of ASCII
abbrev pub begins_with_letter : List ℕ → Bool
begins_with_letter [] = false
begins_with_letter (b ∷ bs) = is_ascii_alphabetic b

-- a header token begins with a letter, and isn't `nan`
unfoldable pub is_header_token : List ℕ → Bool
is_header_token bytes = begins_with_letter bytes && not (is_name (codes "nan") bytes)

-- the word of this name, if there is one
unfoldable pub word_of : List ℕ → Option Word
word_of bytes =
    if is_name (codes "ncols") bytes then Some Ncols
    else if is_name (codes "nrows") bytes then Some Nrows
    else if is_name (codes "xllcorner") bytes then Some XllCorner
    else if is_name (codes "xllcenter") bytes then Some XllCenter
    else if is_name (codes "yllcorner") bytes then Some YllCorner
    else if is_name (codes "yllcenter") bytes then Some YllCenter
    else if is_name (codes "cellsize") bytes then Some Cellsize
    else if is_name (codes "dx") bytes then Some Dx
    else if is_name (codes "dy") bytes then Some Dy
    else if is_name (codes "nodata_value") bytes then Some NodataValue
    else None

-- ---- their values

-- the number that decimal digits write
abbrev pub number_of : List ℕ → ℕ
number_of digits = fold (λ n b. 10 * n + (b - 48)) 0 digits

-- a number of columns or rows is from 1 to 4,294,967,295
abbrev pub count_in : ℕ → Option ℕ
count_in n = if n == 0 then None else if nat_lt 4294967295 n then None else Some n

-- a number of columns or rows, if it is one to ten digits
unfoldable pub count_of : List ℕ → Option ℕ
count_of bytes =
    if nat_lt 10 (length bytes) then None
    else if list_all is_ascii_digit bytes then count_in (number_of bytes)
    else None

-- the number of a value, but of nothing beyond the range and not of `nan`
abbrev pub coordinate_in : Fixed → Option ℤ
coordinate_in (Value z) = Some z
coordinate_in _ = None

-- a coordinate, if it is a decimal that is a value
abbrev pub coordinate_of : List ℕ → Option ℤ
coordinate_of bytes = option_and_then coordinate_in (decimal_of bytes)

-- a side of a cell is at least one millionth
abbrev pub size_in : ℤ → Option ℕ
size_in z = if int_lt (pos 0) z then Some (unsigned_abs z) else None

-- the side of a cell, if it is a decimal that is a value of at least one millionth
abbrev pub size_of : List ℕ → Option ℕ
size_of bytes = option_and_then size_in (coordinate_of bytes)

-- ---- what a header has said so far

-- before the first word
abbrev pub nothing_said : Settings
nothing_said = record {
  cols = None;
  rows = None;
  left = None;
  bottom = None;
  dx = None;
  dy = None;
  nodata =
      None;
}

-- nothing was said of what a word speaks of; `cellsize` speaks of both sides of a cell
abbrev pub is_free : Word → Settings → Bool
is_free Ncols s = is_none s.cols
is_free Nrows s = is_none s.rows
is_free XllCorner s = is_none s.left
is_free XllCenter s = is_none s.left
is_free YllCorner s = is_none s.bottom
is_free YllCenter s = is_none s.bottom
is_free Cellsize s = is_none s.dx && is_none s.dy
is_free Dx s = is_none s.dx
is_free Dy s = is_none s.dy
is_free NodataValue s = is_none s.nodata

-- a word that may stand behind what was said: it is known, and speaks of something new
abbrev pub free_word : Settings → List ℕ → Option Word
free_word s bytes = option_and_then (λ w. if is_free w s then Some w else None) (word_of bytes)

-- what is said with a word and its value, if the value fits the word
abbrev pub with_value : Word → List ℕ → Settings → Option Settings
with_value Ncols bytes s = option_map (λ n. record s { cols = Some n }) (count_of bytes)
with_value Nrows bytes s = option_map (λ n. record s { rows = Some n }) (count_of bytes)
with_value XllCorner bytes s = option_map (λ z. record s { left = Some (Corner z) }) (coordinate_of bytes)
with_value XllCenter bytes s = option_map (λ z. record s { left = Some (Centre z) }) (coordinate_of bytes)
with_value YllCorner bytes s = option_map (λ z. record s { bottom = Some (Corner z) }) (coordinate_of bytes)
with_value YllCenter bytes s = option_map (λ z. record s { bottom = Some (Centre z) }) (coordinate_of bytes)
with_value Cellsize bytes s = option_map (λ n. record s { dx = Some n; dy = Some n }) (size_of bytes)
with_value Dx bytes s = option_map (λ n. record s { dx = Some n }) (size_of bytes)
with_value Dy bytes s = option_map (λ n. record s { dy = Some n }) (size_of bytes)
with_value NodataValue bytes s = option_map (λ v. record s { nodata = Some v }) (decimal_of bytes)
