-- The token at the front of a text, and the way through its cells.
use Rattle.std.specs.Prelude.{◌≡◌, ℕ, ◌+◌, ◌-◌, ◌*◌, ◌<◌, ◌≤◌, true, ℤ, List, length, take, drop}
use Rattle.std.specs.Prelude.{get_or, Option, Some}
use Rattle.std.specs.Char.{is_ascii_digit}
use Rattle.std.specs.List.{prefix_len, list_all}
use Rattle.cv_model.specs.declared.grid.Cell.{Cell}
use Rattle.cv_reading.specs.Space.{is_space}
use Rattle.cv_reading.specs.Tokens.{is_word, cut}
use Rattle.cv_number.specs.Reader.{decimal_of}
use Rattle.cv_grid.specs.Tokens.{byte_kind}
use Rattle.cv_grid.specs.Words.{number_of}
use Rattle.cv_grid.specs.Answers.{cells_from}
use Rattle.cv_grid.specs.declared.value.Spelt.{Spelt}

-- how many bytes the token at the front has; 0 where white space stands there, or nothing
abbrev pub front_len : List ℕ → ℕ
front_len bytes = prefix_len (λ b. is_word (byte_kind b)) bytes

-- the token at the front is a decimal of this value
pub record IsFront (bytes : List ℕ) (s : Spelt) : Type 0 where
  pub len : s.len ≡ front_len bytes
  pub within : s.len ≤ length bytes
  pub value : decimal_of (take s.len bytes) ≡ Some s.value

-- so many bytes at the front are digits that write the number
pub record AreDigits (bytes : List ℕ) (number len : ℕ) : Type 0 where
  pub within : len ≤ length bytes
  pub digits : list_all is_ascii_digit (take len bytes) ≡ true
  pub value : number ≡ number_of (take len bytes)
  pub small : number < 1000000000

-- a byte is the digit of this number
pub record IsDigit (byte number : ℕ) : Type 0 where
  pub is : is_ascii_digit byte ≡ true
  pub value : number ≡ byte - 48

-- the last one, two or three of three digits write the number
abbrev pub AreJoined : ℕ → ℕ → ℕ → ℕ → ℕ → Type 0
AreJoined size hundreds tens ones number =
    (size ≡ 1 → (ones ≤ 9) × (number ≡ ones))
    × (size ≡ 2 → (tens ≤ 9) × (ones ≤ 9) × (number ≡ 10 * tens + ones))
    × (size ≡ 3 → (hundreds ≤ 9) × (tens ≤ 9) × (ones ≤ 9) × (number ≡ 10 * (10 * hundreds + tens) + ones))

-- from an offset up to a space stand digits that write the number
pub record IsShort (text : List ℕ) (at end number : ℕ) : Type 0 where
  pub some : at < end
  pub within : end < length text
  pub space : is_space (get_or text end 0) ≡ true
  pub digits : AreDigits (drop at text) number (end - at)

-- the cells between two offsets are read: behind them, with the cells so far, the rest gives the same answer
pub record CellsAlong (text : List ℕ) (start total : ℕ) (void : Option ℤ) (old : List Cell) (at : ℕ)
    (cells : List Cell) : Type 0 where
  pub further : start ≤ at
  pub within : at ≤ length text
  pub few : length cells ≤ total
  pub same : cells_from total void (cut byte_kind start (drop start text)) old
      ≡ cells_from total void (cut byte_kind at (drop at text)) cells
