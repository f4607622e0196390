-- The token at the front of a text.
use Rattle.std.specs.Prelude.{ℕ, List, [], ◌∷◌}
use Rattle.std.specs.List.{prefix_len}
use Rattle.cv_reading.specs.Tokens.{ByteKind, White, Single, Word, is_word}
use Rattle.cv_wkt.specs.Kind.{byte_kind}

-- how many bytes the token has that begins with a byte of this kind
abbrev pub len_by : ByteKind → List ℕ → ℕ
len_by White bytes = 0
len_by Single bytes = 1
len_by Word bytes = prefix_len (λ b. is_word (byte_kind b)) bytes

-- how many bytes the token at the front has; 0 where white space stands there, or nothing
abbrev pub front_len : List ℕ → ℕ
front_len [] = 0
front_len (b ∷ bytes) = len_by (byte_kind b) (b ∷ bytes)
