-- How words are spelt in a line, apart from how they are read.
--
--     line   = [ gap ] [ word { gap word } [ gap ] ]
--     gap    = separator { separator }, where a separator is a space or a tab
--     word   = bare | quoted
--     bare   = byte { byte }, none of which is a separator or `"`
--     quoted = `"` { byte other than `"` | `""` } `"`, where `""` stands for one `"`
-- Source: this project's own.
use Rattle.std.specs.Prelude.{◌≡◌, ℕ, ◌==◌, Bool, true, false, ◌&&◌, ◌||◌, not, if◌then◌else◌, List, [], ◌∷◌}
use Rattle.std.specs.Prelude.{◌++◌}
use Rattle.std.specs.List.{list_all}

-- ---- a word

-- words are separated by spaces and tabs
abbrev pub is_separator : ℕ → Bool
is_separator b = b == 32 || b == 9

-- a byte that can stand in a bare word
abbrev pub is_plain : ℕ → Bool
is_plain b = not (is_separator b) && not (b == 34)

-- a word that can be spelt by itself: it isn't empty and has such bytes alone
abbrev pub is_bare : List ℕ → Bool
is_bare [] = false
is_bare (b ∷ bs) = list_all is_plain (b ∷ bs)

-- some bytes, each `"` twice
abbrev pub doubled : List ℕ → List ℕ
doubled [] = []
doubled (b ∷ bs) = if b == 34 then 34 ∷ 34 ∷ doubled bs else b ∷ doubled bs

-- the bytes spell the word: they are the word itself, or the word between quotes, with each `"` of it twice
pub data SpellsWord (bytes word : List ℕ) : Type 0 where
  BareWord : bytes ≡ word → is_bare word ≡ true → SpellsWord bytes word
  QuotedWord : bytes ≡ 34 ∷ (doubled word ++ 34 ∷ []) → SpellsWord bytes word

-- ---- a line

-- a word ends where the line does, or before a separator
abbrev pub is_end : List ℕ → Bool
is_end [] = true
is_end (b ∷ bs) = is_separator b

-- the line spells the words: each stands behind separators, which the first and the end of the line needn't
-- have
abbrev pub SpellsLine : List ℕ → List (List ℕ) → Type 0
SpellsLine line [] = list_all is_separator line ≡ true
SpellsLine line (word ∷ words) = (gap bytes rest : List ℕ) × (line ≡ gap ++ bytes ++ rest)
    × (list_all is_separator gap ≡ true) × SpellsWord bytes word
    × (is_end rest ≡ true) × SpellsLine rest words
