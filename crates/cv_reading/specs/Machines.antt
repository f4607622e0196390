-- Machines that read a list of tokens, one at a time.
use Rattle.std.specs.Prelude.{◌≡◌, ℕ, suc, ◌+◌, ◌<◌, ◌≤◌, List, [], ◌∷◌, Option, Some, None, Result, Ok, Err}
use Rattle.std.specs.Prelude.{option_and_then}

-- states S, tokens A, values V
pub record Machine (S A V : Type 0) : Type 0 where
  -- the state behind a token; None where the token can't stand
  pub step : S → A → Option S
  -- the value of a text that ends here; None where none ends here
  pub ends : S → Option V

-- the answer at the end of the tokens
abbrev pub ended : {V : Type 0} → Option V → Result V ℕ
ended None = Err 0
ended (Some v) = Ok v

-- an answer, with one token more before it
abbrev pub one_further : {V : Type 0} → Result V ℕ → Result V ℕ
one_further (Ok v) = Ok v
one_further (Err at) = Err (suc at)

-- an answer, with n tokens more before it
abbrev pub further_by : {V : Type 0} → ℕ → Result V ℕ → Result V ℕ
further_by n (Ok v) = Ok v
further_by n (Err at) = Err (n + at)

-- the answer at a step, where `answer` is that to the tokens behind it
abbrev pub from_there : {S V : Type 0} → (S → Result V ℕ) → Option S → Result V ℕ
from_there answer None = Err 0
from_there answer (Some s) = one_further (answer s)

-- the value that a machine reads, or how many tokens stand before the first that can't
abbrev pub run : {S A V : Type 0} → Machine S A V → List A → S → Result V ℕ
run m [] s = ended (m.ends s)
run m (a ∷ w) s = from_there (run m w) (m.step s a)

-- the state behind some tokens; None where one of them can't stand
abbrev pub after : {S A V : Type 0} → Machine S A V → List A → S → Option S
after m [] s = Some s
after m (a ∷ w) s = option_and_then (after m w) (m.step s a)

-- the next of the tokens can't stand, or they can't end here
abbrev pub IsStuck : {S A V : Type 0} → Machine S A V → S → List A → Type 0
IsStuck m s [] = m.ends s ≡ None
IsStuck m s (a ∷ w) = m.step s a ≡ None

-- two steps fail together, or lead to states that R relates
abbrev pub StepsAlike : {S T : Type 0} → (S → T → Type 0) → Option S → Option T → Type 0
StepsAlike R None None = Unit {0}
StepsAlike R (Some s) (Some t) = R s t
StepsAlike R _ _ = ⊥

-- R relates the states of two machines behind the same tokens; its number is how many they are, at most n
pub record GoAlike {S T A V : Type 0} (n : ℕ) (R : ℕ → S → T → Type 0) (m : Machine S A V)
    (k : Machine T A V) : Type 0 where
  pub step : (i : ℕ) (s : S) (t : T) (a : A) → i < n → R i s t
      → StepsAlike (R (suc i)) (m.step s a) (k.step t a)
  pub ends : (i : ℕ) (s : S) (t : T) → i ≤ n → R i s t → m.ends s ≡ k.ends t
