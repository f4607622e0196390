-- The grammar of grids: a header of words and values, and then a decimal for each cell.
--
-- Source: the ASCII grid after ESRI's, in outline; each rule is this project's own.
use Rattle.std.specs.Prelude.{◌≡◌, ℕ, ◌*◌, Bool, true, false, List, [], ◌∷◌, ◌++◌, map, length, Option}
use Rattle.std.specs.Prelude.{Some, option_and_then, Ok}
use Rattle.cv_model.specs.Grids.{CellGrid}
use Rattle.cv_model.specs.declared.grid.Cell.{Cell}
use Rattle.cv_reading.specs.Tokens.{Token}
use Rattle.cv_number.specs.declared.fixed.Fixed.{Fixed}
use Rattle.cv_number.specs.Reader.{decimal_of}
use Rattle.cv_grid.specs.declared.settings.Settings.{Settings}
use Rattle.cv_grid.specs.declared.layout.Layout.{Layout}
use Rattle.cv_grid.specs.Tokens.{tokens_of}
use Rattle.cv_grid.specs.Words.{is_header_token, nothing_said, free_word, with_value}
use Rattle.cv_grid.specs.Layouts.{layout_of, is_large}
use Rattle.cv_grid.specs.Cells.{void_number, cell_of}

-- ---- the header

-- a word of the header and its value
pub record Entry : Type 0 where
  pub name : Token
  pub value : Token

-- the tokens of some entries
abbrev pub entry_tokens : List Entry → List Token
entry_tokens [] = []
entry_tokens (e ∷ es) = e.name ∷ e.value ∷ entry_tokens es

-- does a header token stand in front
abbrev pub goes_on : List Token → Bool
goes_on [] = false
goes_on (t ∷ ts) = is_header_token t.bytes

-- what is said with an entry, if it is right behind what was said
abbrev pub with_entry : Settings → Entry → Option Settings
with_entry s e = option_and_then (λ w. with_value w e.value.bytes s) (free_word s e.name.bytes)

-- each entry is right behind what was said before it, and all say this in the end
abbrev pub Says : Settings → List Entry → Settings → Type 0
Says s [] u = s ≡ u
Says s (e ∷ es) u = (is_header_token e.name.bytes ≡ true) × (t : Settings) × (with_entry s e ≡ Some t)
    × Says t es u

-- the text begins with right entries that say `said`, and `rest` is behind them
pub record Begins (text : List ℕ) (said : Settings) (rest : List Token) : Type 0 where
  pub entries : List Entry
  pub tokens : tokens_of text ≡ entry_tokens entries ++ rest
  pub says : Says nothing_said entries said

-- and these are the whole header: no further header token follows
pub record IsHeader (text : List ℕ) (said : Settings) (rest : List Token) : Type 0 where
  pub begins : Begins text said rest
  pub ends : goes_on rest ≡ false

-- the header is whole, says where the cells lie, and they are neither too many nor too far away; `values`
-- is behind it
pub record IsLaid (room : ℕ) (text : List ℕ) (said : Settings) (layout : Layout)
    (values : List Token) : Type 0 where
  pub header : IsHeader text said values
  pub layout_is : layout_of said ≡ Ok layout
  pub fits : is_large room layout ≡ false

-- ---- the cells

-- the tokens spell these decimals, one by one
abbrev pub Spell : List Token → List Fixed → Type 0
Spell tokens decimals = map (λ (t : Token). decimal_of t.bytes) tokens ≡ map Some decimals

-- the cells of decimals
abbrev pub cells_of : Settings → List Fixed → List Cell
cells_of said decimals = map (cell_of (void_number said.nodata)) decimals

-- a layout with its cells
abbrev pub grid_with : Layout → List Cell → CellGrid
grid_with l cells = record {
  cols = l.cols;
  rows = l.rows;
  left2 = l.left2;
  bottom2 = l.bottom2;
  dx = l.dx;
  dy = l.dy;
  cells = cells;
}

-- ---- a grid

-- the text is a header and a decimal for each cell, and they say this grid
pub record Spells (room : ℕ) (text : List ℕ) (g : CellGrid) : Type 0 where
  pub said : Settings
  pub layout : Layout
  pub values : List Token
  pub laid : IsLaid room text said layout values
  pub decimals : List Fixed
  pub spelt : Spell values decimals
  pub whole : length decimals ≡ layout.cols * layout.rows
  pub grid_is : g ≡ grid_with layout (cells_of said decimals)
