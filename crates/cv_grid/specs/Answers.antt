-- The answer to a grid's text as a function, token by token.
use Rattle.std.specs.Prelude.{ℕ, ◌*◌, ◌==◌, if◌then◌else◌, ℤ, List, [], ◌∷◌, ◌++◌, length, Option, Some}
use Rattle.std.specs.Prelude.{None, Result, Ok, Err}
use Rattle.cv_model.specs.Grids.{CellGrid}
use Rattle.cv_model.specs.declared.grid.Cell.{Cell}
use Rattle.cv_reading.specs.Tokens.{Token}
use Rattle.cv_number.specs.declared.fixed.Fixed.{Fixed}
use Rattle.cv_number.specs.Reader.{decimal_of}
use Rattle.cv_grid.specs.declared.error.GridError.{GridError}
use Rattle.cv_grid.specs.declared.error.GridError.TheVariants.{MissingWord, BadWord, BadNumber, TooFew}
use Rattle.cv_grid.specs.declared.error.GridError.TheVariants.{TooMany, TooLarge}
use Rattle.cv_grid.specs.declared.error.GridWord.{GridWord}
use Rattle.cv_grid.specs.declared.settings.Settings.{Settings}
use Rattle.cv_grid.specs.declared.word.Word.{Word}
use Rattle.cv_grid.specs.declared.layout.Layout.{Layout}
use Rattle.cv_grid.specs.declared.header.Reading.{Reading}
use Rattle.cv_grid.specs.Tokens.{tokens_of, line_at}
use Rattle.cv_grid.specs.Words.{is_header_token, nothing_said, free_word, with_value}
use Rattle.cv_grid.specs.Layouts.{layout_of, is_large}
use Rattle.cv_grid.specs.Cells.{void_number, cell_of}
use Rattle.cv_grid.specs.Grammar.{grid_with}

-- ---- the header

-- behind a token in the place of a word, which may stand there or not
abbrev pub behind_word : ℕ → Settings → Option Word → Result (Option Reading) GridError
behind_word line s None = Err (BadWord line)
behind_word line s (Some w) = Ok (Some (record { said = s; word = Some w }))

-- behind a token in the place of a value, which fits its word or not
abbrev pub behind_value : ℕ → Option Settings → Result (Option Reading) GridError
behind_value at None = Err (BadNumber at)
behind_value at (Some s) = Ok (Some (record { said = s; word = None }))

-- where the header's reader is behind a token; None where the token is the header's no more
abbrev pub taken_at : List ℕ → Settings → Option Word → Token → Result (Option Reading) GridError
taken_at text s None t =
    if is_header_token t.bytes then behind_word (line_at text t.at) s (free_word s t.bytes) else Ok None
taken_at text s (Some w) t = behind_value t.at (with_value w t.bytes s)

-- the same of a reader that stands between two entries, or behind a word
unfoldable pub taken : List ℕ → Reading → Token → Result (Option Reading) GridError
taken text r t = taken_at text r.said r.word t

-- what a header said, and the tokens behind it
abbrev pub Headed : Type 0
Headed = Settings × List Token

-- the answer at the end of the text
abbrev pub ended : ℕ → Settings → Option Word → Result Headed GridError
ended end s None = Ok (s, [])
ended end s (Some w) = Err (BadNumber end)

-- the answer at a token, where `answer` is that to the tokens behind it
abbrev pub going_on : (Reading → Result Headed GridError) → Settings → List Token
    → Result (Option Reading) GridError → Result Headed GridError
going_on answer s ts (Err e) = Err e
going_on answer s ts (Ok None) = Ok (s, ts)
going_on answer s ts (Ok (Some r)) = answer r

-- what the tokens of a header say, and the tokens behind it; or its first refusal
abbrev pub header_from : List ℕ → List Token → Reading → Result Headed GridError
header_from text [] r = ended (length text) r.said r.word
header_from text (t ∷ ts) r = going_on (header_from text ts) r.said (t ∷ ts) (taken text r t)

-- before the first token
abbrev pub at_start : Reading
at_start = record { said = nothing_said; word = None }

-- ---- the cells

-- the answer at the end of the text
abbrev pub if_whole : ℕ → List Cell → Result (List Cell) GridError
if_whole total cells = if length cells == total then Ok cells else Err (TooFew (length cells))

-- the answer at a token where a cell is due, where `answer` is that to the tokens behind it
abbrev pub with_decimal : (List Cell → Result (List Cell) GridError) → Option ℤ → List Cell → ℕ
    → Option Fixed → Result (List Cell) GridError
with_decimal answer void cells at None = Err (BadNumber at)
with_decimal answer void cells at (Some v) = answer (cells ++ cell_of void v ∷ [])

-- the cells so far and those of the tokens, which are to be so many; or the first refusal
abbrev pub cells_from : ℕ → Option ℤ → List Token → List Cell → Result (List Cell) GridError
cells_from total void [] cells = if_whole total cells
cells_from total void (t ∷ ts) cells =
    if length cells == total then Err TooMany
    else with_decimal (cells_from total void ts) void cells t.at (decimal_of t.bytes)

-- ---- a grid

-- the answer behind a right header
abbrev pub grid_behind : Layout → Result (List Cell) GridError → Result CellGrid GridError
grid_behind l (Err e) = Err e
grid_behind l (Ok cells) = Ok (grid_with l cells)

-- the answer behind a header that lays out the cells, or lacks a word
abbrev pub grid_laid : ℕ → Settings → List Token → Result Layout GridWord → Result CellGrid GridError
grid_laid room s ts (Err word) = Err (MissingWord word)
grid_laid room s ts (Ok l) =
    if is_large room l then Err TooLarge
    else grid_behind l (cells_from (l.cols * l.rows) (void_number s.nodata) ts [])

-- the answer behind a header, or at its refusal
abbrev pub grid_headed : ℕ → Result Headed GridError → Result CellGrid GridError
grid_headed room (Err e) = Err e
grid_headed room (Ok h) = grid_laid room h.0 h.1 (layout_of h.0)

-- the grid of a text, or its first refusal
unfoldable pub grid_of : ℕ → List ℕ → Result CellGrid GridError
grid_of room text = grid_headed room (header_from text (tokens_of text) at_start)
