-- The tokens of a text of bytes, with the offsets of their first bytes.
use Rattle.std.specs.Prelude.{◌≡◌, ℕ, suc, ◌+◌, Bool, true, false, List, [], ◌∷◌, length, take, drop}

-- a byte that stands between tokens, one that is a token, and one of a token that goes on as long as such
-- bytes do
pub data ByteKind : Type 0 where
  White : ByteKind
  Single : ByteKind
  Word : ByteKind

-- a token: the offset of its first byte in the text, and its bytes
pub record Token : Type 0 where
  pub at : ℕ
  pub bytes : List ℕ

-- is a byte of this kind one of a token that goes on
abbrev pub is_word : ByteKind → Bool
is_word Word = true
is_word White = false
is_word Single = false

-- does a byte of this kind stand between tokens
abbrev pub is_white : ByteKind → Bool
is_white White = true
is_white Single = false
is_white Word = false

-- does a text begin with a byte of a word
abbrev pub begins_word : (ℕ → ByteKind) → List ℕ → Bool
begins_word kind [] = false
begins_word kind (b ∷ bs) = is_word (kind b)

-- a byte of a word before the further tokens: of the first of them, if that follows at once
abbrev pub joined : ℕ → ℕ → Bool → List Token → List Token
joined at b true (t ∷ ts) = record { at = at; bytes = b ∷ t.bytes } ∷ ts
joined at b true [] = record { at = at; bytes = b ∷ [] } ∷ []
joined at b false ts = record { at = at; bytes = b ∷ [] } ∷ ts

-- a byte before the further tokens
abbrev pub with_byte : ℕ → ℕ → ByteKind → Bool → List Token → List Token
with_byte at b White follows ts = ts
with_byte at b Single follows ts = record { at = at; bytes = b ∷ [] } ∷ ts
with_byte at b Word follows ts = joined at b follows ts

-- the tokens of a text whose first byte stands at the offset
abbrev pub cut : (ℕ → ByteKind) → ℕ → List ℕ → List Token
cut kind at [] = []
cut kind at (b ∷ bs) = with_byte at b (kind b) (begins_word kind bs) (cut kind (suc at) bs)

-- ---- where the tokens stand

-- a token stands at its offset in a text whose first byte stands at `at`
pub record Stands (at : ℕ) (bs : List ℕ) (t : Token) : Type 0 where
  pub before : ℕ
  pub place : t.at ≡ at + before
  pub bytes : take (length t.bytes) (drop before bs) ≡ t.bytes

-- each of them does
abbrev pub AllStand : ℕ → List ℕ → List Token → Type 0
AllStand at bs [] = Unit {0}
AllStand at bs (t ∷ ts) = Stands at bs t × AllStand at bs ts
