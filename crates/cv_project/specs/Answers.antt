-- What a reader answers: a value, or the refusal that decides.
use Rattle.std.specs.Prelude.{◌≡◌, ◌≢◌, Result, Ok, Err}
use Rattle.cv_project.specs.declared.refusal.Refusal.{Refusal}
use Rattle.cv_project.specs.declared.refusal.Refusal.TheVariants.{NoMemory}

-- one step and then another with its value; the first refusal decides
infixl 10 ◌>>=◌
abbrev pub ◌>>=◌ : {A B : Type 0} → Result A Refusal → (A → Result B Refusal) → Result B Refusal
Ok x >>= next = next x
Err e >>= next = Err e

-- a call answers what is defined, unless it has got no memory
abbrev pub Answers : {A : Type 0} → Result A Refusal → Result A Refusal → Type 0
Answers (Ok x) defined = defined ≡ Ok x
Answers (Err e) defined = (e ≢ NoMemory) → defined ≡ Err e
