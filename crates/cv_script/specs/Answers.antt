-- What the reader of a part answers: a value, or that there is none.
use Rattle.std.specs.Prelude.{◌≡◌, ◌≢◌, Bool, if◌then◌else◌, Option, Some, None, Result, Ok, Err}
use Rattle.cv_script.specs.declared.error.Refusal.{Refusal}
use Rattle.cv_script.specs.declared.error.Refusal.TheVariants.{NoMemory}

-- one step and then another with its value
infixl 10 ◌>>=◌
abbrev pub ◌>>=◌ : {A B : Type 0} → Option A → (A → Option B) → Option B
Some x >>= next = next x
None >>= next = None

-- a value that passes a test
abbrev pub tested : {A : Type 0} → Bool → A → Option A
tested test x = if test then Some x else None

-- a call answers what is defined, unless it has got no memory
abbrev pub Answers : {A : Type 0} → Result A Refusal → Option A → Type 0
Answers (Ok x) defined = defined ≡ Some x
Answers (Err e) defined = (e ≢ NoMemory) → defined ≡ None
