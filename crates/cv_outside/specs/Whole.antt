-- A whole file that is read, and a whole text that is written.
use Rattle.std.specs.Prelude.{◌≡◌, ℕ, ◌<◌, List, ◌∷◌, [], ◌++◌, length, take, Option, None, IsSomeAnd}
use Rattle.cv_outside.specs.declared.ends.Unread.{Unread}
use Rattle.cv_outside.specs.declared.ends.Unread.TheVariants.{TooLong, Absent, Failed, NoMemory}
use Rattle.cv_outside.specs.declared.ends.Unwritten.{Unwritten}
use Rattle.cv_outside.specs.declared.ends.Unwritten.TheVariants as unwritten

-- the answers that have a cause outside: a fault that rose, a miss that rose
abbrev pub UnreadCause : Unread → Type 0 → Type 0 → Type 0
UnreadCause TooLong fault miss = Unit {0}
UnreadCause Absent fault miss = miss
UnreadCause Failed fault miss = fault
UnreadCause NoMemory fault miss = Unit {0}

-- what the file under the name is where it was not read: longer than the limit, or not there
abbrev pub IsUnread : Unread → Option (List ℕ) → ℕ → Type 0
IsUnread TooLong file max = IsSomeAnd file (λ bytes. max < length bytes)
IsUnread Absent file max = file ≡ None
IsUnread Failed file max = Unit {0}
IsUnread NoMemory file max = Unit {0}

-- the names asked: this one more, but for want of memory
abbrev pub UnreadAsks : Unread → List (List ℕ) → List (List ℕ) → List ℕ → Type 0
UnreadAsks TooLong old new name = new ≡ old ++ name ∷ []
UnreadAsks Absent old new name = new ≡ old ++ name ∷ []
UnreadAsks Failed old new name = new ≡ old ++ name ∷ []
UnreadAsks NoMemory old new name = new ≡ old

-- the answer that has a cause outside: a fault that rose
abbrev pub UnwrittenCause : Unwritten → Type 0 → Type 0
UnwrittenCause unwritten.Failed fault = fault
UnwrittenCause unwritten.NoMemory fault = Unit {0}

-- the text comes behind the old bytes, but for some bytes of its end
abbrev pub TakesPart : List ℕ → List ℕ → List ℕ → Type 0
TakesPart old new text = (k : ℕ) × (k < length text) × (new ≡ old ++ take k text)
