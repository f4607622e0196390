-- Machines whose refusals have names, and which stop at limits that the grammar doesn't have.
use Rattle.std.specs.Prelude.{◌≡◌, ℕ, suc, ◌+◌, ◌≤◌, List, [], ◌∷◌, length, take, drop, Option, Some, None}
use Rattle.std.specs.Prelude.{Result, Ok, Err, IfSome}
use Rattle.cv_reading.specs.Machines.{Machine, run, after}

-- causes C
pub record Watch (S A C : Type 0) : Type 0 where
  -- why the token can't stand, where it can't
  pub cause : S → A → C
  -- why the text can't end here, where it can't
  pub early : S → C
  -- why a token is refused that can stand; None where it isn't
  pub limit : S → A → Option C

-- a refusal: how many tokens stand before it, and its cause
pub data Stop (C : Type 0) : Type 0 where
  StopAt : (at : ℕ) (cause : C) → Stop C

-- an answer, with one token more before it
abbrev pub stop_one_further : {V C : Type 0} → Result V (Stop C) → Result V (Stop C)
stop_one_further (Ok v) = Ok v
stop_one_further (Err (StopAt at c)) = Err (StopAt (suc at) c)

-- an answer, with n tokens more before it
abbrev pub stop_further_by : {V C : Type 0} → ℕ → Result V (Stop C) → Result V (Stop C)
stop_further_by n (Ok v) = Ok v
stop_further_by n (Err (StopAt at c)) = Err (StopAt (n + at) c)

-- the answer at the end of the tokens
abbrev pub watched_end : {V C : Type 0} → C → Option V → Result V (Stop C)
watched_end early None = Err (StopAt 0 early)
watched_end early (Some v) = Ok v

-- the answer at a token: the grammar's refusal before the limit's, and both before those of further tokens
abbrev pub watched_step : {S V C : Type 0} → (S → Result V (Stop C)) → C → Option C → Option S
    → Result V (Stop C)
watched_step answer cause limit None = Err (StopAt 0 cause)
watched_step answer cause (Some c) (Some s) = Err (StopAt 0 c)
watched_step answer cause None (Some s) = stop_one_further (answer s)

-- the value that a machine reads, or its first refusal
abbrev pub watched : {S A V C : Type 0} → Machine S A V → Watch S A C → List A → S → Result V (Stop C)
watched m k [] s = watched_end (k.early s) (m.ends s)
watched m k (a ∷ w) s = watched_step (watched m k w) (k.cause s a) (k.limit s a) (m.step s a)

-- no limit is met on the way through the tokens
abbrev pub IsUnlimited : {S A V C : Type 0} → Machine S A V → Watch S A C → List A → S → Type 0
IsUnlimited m k [] s = Unit {0}
IsUnlimited m k (a ∷ w) s = IfSome (m.step s a) (λ t. (k.limit s a ≡ None) × IsUnlimited m k w t)

-- the cause for which a token is refused: it can't stand; or it can, and a limit is met
abbrev pub RefusesFor : {S C : Type 0} → C → Option C → Option S → C → Type 0
RefusesFor cause limit None c = c ≡ cause
RefusesFor cause limit (Some _) c = limit ≡ Some c

-- the cause for which the next of the tokens is refused, or their end
abbrev pub StopsFor : {S A V C : Type 0} → Machine S A V → Watch S A C → S → List A → C → Type 0
StopsFor m k s [] c = (m.ends s ≡ None) × (c ≡ k.early s)
StopsFor m k s (a ∷ w) c = RefusesFor (k.cause s a) (k.limit s a) (m.step s a) c

-- the tokens before `at` can stand and meet no limit, and what is next is refused for the cause
pub record IsFirstStop {S A V C : Type 0} (m : Machine S A V) (k : Watch S A C) (text : List A) (s : S)
    (at : ℕ) (c : C) : Type 0 where
  pub within : at ≤ length text
  pub state : S
  pub reached : after m (take at text) s ≡ Some state
  pub unlimited : IsUnlimited m k (take at text) s
  pub stops : StopsFor m k state (drop at text) c

-- what an answer says of the text
abbrev pub IsWatched : {S A V C : Type 0} → Machine S A V → Watch S A C → List A → S → Result V (Stop C)
    → Type 0
IsWatched m k text s (Ok v) = (run m text s ≡ Ok v) × IsUnlimited m k text s
IsWatched m k text s (Err (StopAt at c)) = IsFirstStop m k text s at c
