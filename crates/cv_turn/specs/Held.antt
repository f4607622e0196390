-- Lists of entries, of which each has the number of the caller that made it.
use Rattle.std.specs.Prelude.{◌≡◌, ℕ, zero, suc, List, [], ◌∷◌, ◌++◌, length, filter, ◌==◌, nat_lt, if◌then◌else◌}

module _ {E : Type 0} where
  -- the list begins with these entries
  abbrev pub StartsWith : List E → List E → Type 0
  StartsWith xs seen = (rest : List E) × (xs ≡ seen ++ rest)

  -- the longer of two lists, the first where they are as long
  abbrev pub longer : List E → List E → List E
  longer xs ys = if nat_lt (length xs) (length ys) then ys else xs

  -- the entries of one number, in order
  abbrev pub entries_by : (E → ℕ) → ℕ → List E → List E
  entries_by caller n xs = filter (λ e. caller e == n) xs

  -- for each of `count` numbers from n on, the entries of that number
  abbrev pub own_of : (E → ℕ) → ℕ → ℕ → List E → List (List E)
  own_of caller n zero xs = []
  own_of caller n (suc count) xs = entries_by caller n xs ∷ own_of caller (suc n) count xs

  -- the entries of the first number grow by these
  abbrev pub grown : List (List E) → List E → List (List E)
  grown [] new = []
  grown (es ∷ ess) new = (es ++ new) ∷ ess
