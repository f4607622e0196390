-- Scripts: their lines, and the commands that these say.
use Rattle.std.specs.Prelude.{ℕ, ◌+◌, ◌≤◌, nat_lt, nat_eq, Bool, true, ◌==◌, if◌then◌else◌, List, [], ◌∷◌}
use Rattle.std.specs.Prelude.{◌++◌, map, drop, length, Option, Some, None, Result, Ok, Err}
use Rattle.std.specs.List.{starts_with, All}
use Rattle.std.specs.Str.{is_utf8}
use Rattle.bstr.specs.Text.{lines_of, without_terminator}
use Rattle.cv_reading.specs.Space.{is_space}
use Rattle.cv_script.specs.declared.error.ScriptError.{ScriptError}
use Rattle.cv_script.specs.declared.error.ScriptError.TheVariants.{BadLine}
use Rattle.cv_script.specs.declared.script.Command.{Command}
use Rattle.cv_script.specs.declared.script.Command.TheVariants as command
use Rattle.cv_script.specs.declared.script.Numbered.{Numbered}
use Rattle.cv_script.specs.Answers.{◌>>=◌, tested}
use Rattle.cv_script.specs.Words.{words_of}
use Rattle.cv_script.specs.Table.{command_of}

-- the byte order mark of UTF-8
abbrev pub mark : List ℕ
mark = 239 ∷ 187 ∷ 191 ∷ []

-- the bytes without a byte order mark in front
abbrev pub without_mark : List ℕ → List ℕ
without_mark bytes = if starts_with nat_eq bytes mark then drop 3 bytes else bytes

-- the lines of a script, each without its LF and a CR before that; the last needn't have one
abbrev pub lines : List ℕ → List (List ℕ)
lines bytes = map without_terminator (lines_of bytes)

-- a line of white space, or whose first byte that isn't white is `#`, says nothing
abbrev pub is_silent : List ℕ → Bool
is_silent [] = true
is_silent (b ∷ bs) = if is_space b then is_silent bs else b == 35

-- the command of a line, where it has one; None where the line isn't in the grammar
unfoldable pub line_of : List ℕ → Option (Option Command)
line_of line = do
  utf8 ← tested (is_utf8 line) line
  if is_silent line then Some None else (words_of line >>= command_of >>= λ c. Some (Some c))

-- a line before the answer to the others
abbrev pub with_line : ℕ → Option (Option Command) → Result (List Numbered) ScriptError
    → Result (List Numbered) ScriptError
with_line n None others = Err (BadLine n)
with_line n (Some None) others = others
with_line n (Some (Some c)) (Ok commands) = Ok (record { line = n; command = c } ∷ commands)
with_line n (Some (Some c)) (Err e) = Err e

-- the commands of some lines, of which the first has the number n; or the first line that isn't in the
-- grammar, or is behind the 100,000th
abbrev pub commands_from : ℕ → List (List ℕ) → Result (List Numbered) ScriptError
commands_from n [] = Ok []
commands_from n (line ∷ rest) =
    if nat_lt 100000 n then Err (BadLine n) else with_line n (line_of line) (commands_from (n + 1) rest)

-- commands before those of an answer
abbrev pub with_front : List Numbered → Result (List Numbered) ScriptError
    → Result (List Numbered) ScriptError
with_front front (Ok commands) = Ok (front ++ commands)
with_front front (Err e) = Err e

-- the script of some bytes, or its first bad line; a byte order mark is no part of the first line
unfoldable pub script_of : List ℕ → Result (List Numbered) ScriptError
script_of bytes = commands_from 1 (lines (without_mark bytes))

-- the lines of commands ascend strictly, from one on to the 100,000th
abbrev pub AscendFrom : ℕ → List Numbered → Type 0
AscendFrom n [] = Unit {0}
AscendFrom n (c ∷ rest) = (n ≤ c.line) × (c.line ≤ 100000) × AscendFrom (c.line + 1) rest

-- a number of a fraction
abbrev pub IsFactor : ℕ → Type 0
IsFactor n = (1 ≤ n) × (n ≤ 1000)

-- the numbers of a zoom are in range
abbrev pub HasFactors : Command → Type 0
HasFactors (command.Zoom canvas num den) = IsFactor num × IsFactor den
HasFactors _ = Unit {0}

-- what the commands of a script keep
pub record IsScript (commands : List Numbered) : Type 0 where
  pub few : length commands ≤ 100000
  pub ascend : AscendFrom 1 commands
  pub factors : All (λ c. HasFactors c.command) commands
