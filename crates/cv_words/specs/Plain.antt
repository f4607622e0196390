-- Which words may name a file.
use Rattle.std.specs.Prelude.{◌≡◌, ℕ, ◌==◌, Bool, true, false, not, List, [], ◌∷◌, codes}
use Rattle.std.specs.List.{list_all}

-- a word that may name a file: it isn't empty, and doesn't begin with a hyphen
abbrev pub is_plain : List ℕ → Bool
is_plain [] = false
is_plain (byte ∷ bytes) = not (byte == 45)

-- the option `--workers` and three words that begin with no hyphen: a number, a project and a script
pub record AreSessionWords (words : List (List ℕ)) : Type 0 where
  pub number : List ℕ
  pub project : List ℕ
  pub script : List ℕ
  pub spelled : words ≡ codes "--workers" ∷ number ∷ project ∷ script ∷ []
  pub plain : list_all is_plain (number ∷ project ∷ script ∷ []) ≡ true
