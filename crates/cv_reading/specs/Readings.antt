-- What it means that a grammar is read. A grammar is given by `Spells text v`: the text has the value v.
use Rattle.std.specs.Prelude.{◌≡◌, ◌↔◌, ℕ, ◌<◌, ◌≤◌, List, [], ◌∷◌, ◌++◌, length, take, Some, Result, Ok, Err}
use Rattle.std.specs.Prelude.{IsSomeAnd}
use Rattle.cv_reading.specs.Machines.{Machine}

-- some text of the grammar begins with the front
abbrev pub Begins : {A V : Type 0} → (List A → V → Type 0) → List A → Type 0
Begins {A = A} {V = V} Spells front = (rest : List A) × (v : V) × Spells (front ++ rest) v

-- the text is none of the grammar, and `at` is the length of its longest front that begins one
pub record IsFirstWrong {A V : Type 0} (Spells : List A → V → Type 0) (text : List A) (at : ℕ) : Type 0 where
  pub refused : (v : V) → Spells text v → ⊥
  pub within : at ≤ length text
  pub begins : Begins Spells (take at text)
  pub longest : (n : ℕ) → at < n → n ≤ length text → Begins Spells (take n text) → ⊥

-- the answer is the text's only value; or the text has none, and the answer is its first wrong place
abbrev pub IsAnswer : {A V : Type 0} → (List A → V → Type 0) → List A → Result V ℕ → Type 0
IsAnswer {V = V} Spells text (Ok v) = Spells text v × ((u : V) → Spells text u → u ≡ v)
IsAnswer Spells text (Err at) = IsFirstWrong Spells text at

-- the answer is a value exactly where the text spells it, and a place exactly where that is the first wrong
pub record IsReading {A V : Type 0} (Spells : List A → V → Type 0) (text : List A)
    (answer : Result V ℕ) : Type 0 where
  pub value : (v : V) → (answer ≡ Ok v) ↔ Spells text v
  pub place : (at : ℕ) → (answer ≡ Err at) ↔ IsFirstWrong Spells text at

-- `Rest s w v`: behind the state s the tokens w complete a text of the value v. A machine reads that if
-- this holds of one token, and of the end, and if behind each state some text can be completed.
pub record Reads {S A V : Type 0} (m : Machine S A V) (Rest : S → List A → V → Type 0) : Type 0 where
  pub step : (s : S) (a : A) (w : List A) (v : V)
      → Rest s (a ∷ w) v ↔ IsSomeAnd (m.step s a) (λ t. Rest t w v)
  pub ends : (s : S) (v : V) → Rest s [] v ↔ (m.ends s ≡ Some v)
  pub live : (s : S) → (w : List A) × (v : V) × Rest s w v
