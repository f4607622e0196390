-- What a write to a tray may answer, and what the tray then keeps.
use Rattle.std.specs.Prelude.{◌≡◌, ◌≢◌, ℕ, List, Option, Some}
use Rattle.cv_outside.specs.declared.ends.TrayEnd.{TrayEnd}
use Rattle.cv_outside.specs.declared.ends.TrayEnd.TheVariants.{Kept, Failed, NoMemory}

-- the answer that has a cause outside: a fault that rose
abbrev pub TrayCause : TrayEnd → Type 0 → Type 0
TrayCause Kept fault = Unit {0}
TrayCause Failed fault = fault
TrayCause NoMemory fault = Unit {0}

-- each other name has the file that it had
abbrev pub OthersStay : (old new : List ℕ → Option (List ℕ)) → List ℕ → Type 0
OthersStay old new name = (q : List ℕ) → q ≢ name → new q ≡ old q

-- the files after a write: under the name stand the bytes, or after a fault whatever it is; no other file
-- changes
abbrev pub Writes : TrayEnd → (old new : List ℕ → Option (List ℕ)) → (name bytes : List ℕ) → Type 0
Writes Kept old new name bytes = (new name ≡ Some bytes) × OthersStay old new name
Writes Failed old new name bytes = OthersStay old new name
Writes NoMemory old new name bytes = (q : List ℕ) → new q ≡ old q
