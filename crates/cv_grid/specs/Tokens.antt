-- The tokens of a grid's text.
use Rattle.std.specs.Prelude.{ℕ, ◌+◌, ◌==◌, nat_eq, if◌then◌else◌, List, [], ◌∷◌, take, drop, count_by}
use Rattle.std.specs.List.{starts_with}
use Rattle.cv_reading.specs.Space.{is_space}
use Rattle.cv_reading.specs.Tokens.{ByteKind, White, Word, Token, cut}

-- white space stands between tokens, and other bytes are one as long as they go on
abbrev pub byte_kind : ℕ → ByteKind
byte_kind b = if is_space b then White else Word

-- the byte order mark of UTF-8
abbrev pub mark : List ℕ
mark = 239 ∷ 187 ∷ 191 ∷ []

-- the bytes without a byte order mark in front
abbrev pub without_mark : List ℕ → List ℕ
without_mark bytes = if starts_with nat_eq bytes mark then drop 3 bytes else bytes

-- the tokens of a text, with their offsets
abbrev pub tokens_of : List ℕ → List Token
tokens_of text = cut byte_kind 0 text

-- the line of an offset, counted from 1 by the LF before it
abbrev pub line_at : List ℕ → ℕ → ℕ
line_at text at = count_by (λ b. b == 10) (take at text) + 1
