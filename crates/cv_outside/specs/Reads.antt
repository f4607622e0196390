-- What a read of a shelf may answer, and what it then leaves.
use Rattle.std.specs.Prelude.{◌≡◌, ℕ, ◌+◌, ◌≤◌, option_map, Option, Some, None}
use Rattle.std.specs.Prelude.{List, [], ◌∷◌, ◌++◌, length, take}
use Rattle.cv_outside.specs.declared.ends.ReadEnd.{ReadEnd}
use Rattle.cv_outside.specs.declared.ends.ReadEnd.TheVariants.{Found, Absent, Failed, NoMemory}

-- the answers that have a cause outside: a fault that rose, a miss that rose
abbrev pub ReadCause : ReadEnd → Type 0 → Type 0 → Type 0
ReadCause Found fault miss = Unit {0}
ReadCause Absent fault miss = miss
ReadCause Failed fault miss = fault
ReadCause NoMemory fault miss = Unit {0}

-- how much was read: one byte above the limit at most, and nothing where nothing was found
abbrev pub ReadsAtMost : ReadEnd → ℕ → List ℕ → Type 0
ReadsAtMost Found max got = length got ≤ max + 1
ReadsAtMost Absent max got = got ≡ []
ReadsAtMost Failed max got = got ≡ []
ReadsAtMost NoMemory max got = got ≡ []

-- what was read of the file under the name: its first bytes, one above the limit; Absent only where there
-- is no file
abbrev pub Reads : ReadEnd → Option (List ℕ) → ℕ → List ℕ → Type 0
Reads Found file max got = option_map (take (max + 1)) file ≡ Some got
Reads Absent file max got = file ≡ None
Reads Failed file max got = Unit {0}
Reads NoMemory file max got = Unit {0}

-- the names asked: this one more, but for want of memory
abbrev pub Asks : ReadEnd → List (List ℕ) → List (List ℕ) → List ℕ → Type 0
Asks Found old new name = new ≡ old ++ name ∷ []
Asks Absent old new name = new ≡ old ++ name ∷ []
Asks Failed old new name = new ≡ old ++ name ∷ []
Asks NoMemory old new name = new ≡ old

-- each name has the file that it had
abbrev pub SameFiles : (List ℕ → Option (List ℕ)) → (List ℕ → Option (List ℕ)) → Type 0
SameFiles old new = (q : List ℕ) → new q ≡ old q
