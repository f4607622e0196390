-- What a write to a sink may answer, and what the sink has then taken.
use Rattle.std.specs.Prelude.{◌≡◌, ℕ, ◌<◌, ◌≤◌, List, ◌++◌, length, take}
use Rattle.cv_outside.specs.declared.ends.SinkEnd.{SinkEnd}
use Rattle.cv_outside.specs.declared.ends.SinkEnd.TheVariants.{Took, Failed, NoMemory}

-- the answer that has a cause outside: a fault that rose
abbrev pub SinkCause : SinkEnd → Type 0 → Type 0
SinkCause (Took n) fault = Unit {0}
SinkCause Failed fault = fault
SinkCause NoMemory fault = Unit {0}

-- how much was taken: no more than the piece, and something of a piece that isn't empty
abbrev pub TakesSome : SinkEnd → List ℕ → Type 0
TakesSome (Took n) piece = (n ≤ length piece) × (0 < length piece → 0 < n)
TakesSome Failed piece = Unit {0}
TakesSome NoMemory piece = Unit {0}

-- the bytes taken: the first ones of the piece more, as many as the answer says
abbrev pub Takes : SinkEnd → List ℕ → List ℕ → List ℕ → Type 0
Takes (Took n) old new piece = new ≡ old ++ take n piece
Takes Failed old new piece = new ≡ old
Takes NoMemory old new piece = new ≡ old
