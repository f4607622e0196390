-- Why a text is no grid: its tokens are judged from left to right, and the first that is wrong decides.
--
-- Source: this project's own.
use Rattle.std.specs.Prelude.{◌≡◌, ℕ, ◌*◌, ◌<◌, true, Ok, List, [], ◌∷◌, ◌++◌, length, Some, None, Err}
use Rattle.cv_reading.specs.Tokens.{Token}
use Rattle.cv_number.specs.declared.fixed.Fixed.{Fixed}
use Rattle.cv_number.specs.Reader.{decimal_of}
use Rattle.cv_grid.specs.declared.error.GridError.{GridError}
use Rattle.cv_grid.specs.declared.error.GridError.TheVariants.{MissingWord, BadWord, BadNumber, TooFew}
use Rattle.cv_grid.specs.declared.error.GridError.TheVariants.{TooMany, TooLarge, NoMemory}
use Rattle.cv_grid.specs.declared.error.GridWord.{GridWord}
use Rattle.cv_grid.specs.declared.settings.Settings.{Settings}
use Rattle.cv_grid.specs.declared.word.Word.{Word}
use Rattle.cv_grid.specs.declared.layout.Layout.{Layout}
use Rattle.cv_grid.specs.Tokens.{line_at}
use Rattle.cv_grid.specs.Words.{is_header_token, free_word, with_value}
use Rattle.cv_grid.specs.Layouts.{layout_of, is_large}
use Rattle.cv_grid.specs.Grammar.{Begins, IsHeader, IsLaid, Spell}

-- ---- in the header

-- behind right entries a header token stands that is unknown, or speaks of what was said
pub record HasBadWord (text : List ℕ) (line : ℕ) : Type 0 where
  pub said : Settings
  pub name : Token
  pub rest : List Token
  pub begins : Begins text said (name ∷ rest)
  pub word : is_header_token name.bytes ≡ true
  pub refused : free_word said name.bytes ≡ None
  pub line_is : line ≡ line_at text name.at

-- the first token doesn't fit the word; or there is none, and the place is the end of the text
abbrev pub UnfitAt : Settings → Word → ℕ → List Token → ℕ → Type 0
UnfitAt said word end [] at = at ≡ end
UnfitAt said word end (value ∷ rest) at = (with_value word value.bytes said ≡ None) × (at ≡ value.at)

-- behind right entries and a right word no value stands that fits it
pub record HasBadValue (text : List ℕ) (at : ℕ) : Type 0 where
  pub said : Settings
  pub name : Token
  pub rest : List Token
  pub begins : Begins text said (name ∷ rest)
  pub word : is_header_token name.bytes ≡ true
  pub known : Word
  pub known_is : free_word said name.bytes ≡ Some known
  pub unfit : UnfitAt said known (length text) rest at

-- ---- behind the header

-- the header is right as far as it goes, but this word is missing
pub record IsMissing (text : List ℕ) (which : GridWord) : Type 0 where
  pub said : Settings
  pub rest : List Token
  pub header : IsHeader text said rest
  pub missing : layout_of said ≡ Err which

-- the header is right, but there are more cells than there is room for, or an edge lies beyond the range
pub record IsTooLarge (room : ℕ) (text : List ℕ) : Type 0 where
  pub said : Settings
  pub rest : List Token
  pub header : IsHeader text said rest
  pub layout : Layout
  pub layout_is : layout_of said ≡ Ok layout
  pub large : is_large room layout ≡ true

-- ---- among the cells

-- behind the header and some decimals, fewer than there are cells, a token stands that is none
pub record HasBadCell (room : ℕ) (text : List ℕ) (at : ℕ) : Type 0 where
  pub said : Settings
  pub layout : Layout
  pub front : List Token
  pub decimals : List Fixed
  pub token : Token
  pub rest : List Token
  pub laid : IsLaid room text said layout (front ++ token ∷ rest)
  pub spelt : Spell front decimals
  pub few : length decimals < layout.cols * layout.rows
  pub none : decimal_of token.bytes ≡ None
  pub place : at ≡ token.at

-- behind the header are this many decimals, fewer than there are cells, and nothing else
pub record HasFew (room : ℕ) (text : List ℕ) (found : ℕ) : Type 0 where
  pub said : Settings
  pub layout : Layout
  pub values : List Token
  pub decimals : List Fixed
  pub laid : IsLaid room text said layout values
  pub spelt : Spell values decimals
  pub found_is : found ≡ length decimals
  pub few : found < layout.cols * layout.rows

-- behind the header and a decimal for each cell a further token stands, whatever it is
pub record HasMany (room : ℕ) (text : List ℕ) : Type 0 where
  pub said : Settings
  pub layout : Layout
  pub front : List Token
  pub decimals : List Fixed
  pub token : Token
  pub rest : List Token
  pub laid : IsLaid room text said layout (front ++ token ∷ rest)
  pub spelt : Spell front decimals
  pub whole : length decimals ≡ layout.cols * layout.rows

-- ---- a refusal

-- a number doesn't stand where one must: in the header or among the cells
pub data HasBadNumber (room : ℕ) (text : List ℕ) (at : ℕ) : Type 0 where
  OfWord : (bad : HasBadValue text at) → HasBadNumber room text at
  OfCell : (bad : HasBadCell room text at) → HasBadNumber room text at

-- the text is refused so
abbrev pub IsRefused : ℕ → List ℕ → GridError → Type 0
IsRefused room text (MissingWord which) = IsMissing text which
IsRefused room text (BadWord line) = HasBadWord text line
IsRefused room text (BadNumber at) = HasBadNumber room text at
IsRefused room text (TooFew found) = HasFew room text found
IsRefused room text TooMany = HasMany room text
IsRefused room text TooLarge = IsTooLarge room text
IsRefused room text NoMemory = ⊥
