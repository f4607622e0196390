-- Files that are read one after another: the names asked, and what comes of them.
use Rattle.std.specs.Prelude.{◌≡◌, ℕ, suc, ◌≤◌, ◌<◌, List, [], ◌∷◌, ◌++◌, map, length, Option, Some, None}
use Rattle.std.specs.Prelude.{Result, Ok, Err, IsTrue, Vec}
use Rattle.cv_outside.specs.Counts.{Rose}
use Rattle.cv_outside.specs.Seen.{ShelfSeen}
use Rattle.cv_open.specs.declared.ends.End.{End}
use Rattle.cv_open.specs.declared.ends.End.TheVariants.{Done, NoMemory, Usage, BadProject, BadData, Missing}
use Rattle.cv_open.specs.declared.ends.End.TheVariants.{BadScript, ReadFault, WriteFault}
use Rattle.cv_open.specs.declared.ends.Which.{Which}

-- ---- what is asked, and what comes of it

-- a name that is asked of the shelf, and whose file that is
pub record Asked : Type 0 where
  pub which : Which
  pub name : List ℕ

-- the bytes under a name, as each read finds them, counted from 0
abbrev pub FilesFound : Type 0
FilesFound = ℕ → List ℕ → Option (List ℕ)

-- what comes of some reads: the names asked, first to last, a value or a refusal, and what later reads find
pub record Reading (X : Type 0) : Type 0 where
  pub asked : List Asked
  pub given : Result X End
  pub later : FilesFound

-- some reads, over what they find
abbrev pub Reads : Type 0 → Type 0
Reads X = FilesFound → Reading X

-- nothing is read, and this is given
abbrev pub only : {X : Type 0} → Result X End → Reads X
only given = λ later. record { asked = []; given = given; later = later }

-- names that were asked before
abbrev pub behind : {X : Type 0} → List Asked → Reading X → Reading X
behind names r = record { asked = names ++ r.asked; given = r.given; later = r.later }

-- a file that is there gives its bytes
abbrev pub present : Which → Option (List ℕ) → Result (List ℕ) End
present which None = Err (Missing which)
present which (Some bytes) = Ok bytes

-- one name is asked
abbrev pub file_of : Asked → Reads (List ℕ)
file_of a = λ reads.
    record { asked = a ∷ []; given = present a.which (reads 0 a.name); later = λ n. reads (suc n) }

-- with a value further reads go on, and a refusal ends them
abbrev pub going_on : {X Y : Type 0} → (X → Reads Y) → Result X End → Reads Y
going_on next (Ok x) = next x
going_on next (Err end) = only (Err end)

-- some reads, and then others with what they gave
infixl 10 ◌>>=◌
abbrev pub ◌>>=◌ : {X Y : Type 0} → Reads X → (X → Reads Y) → Reads Y
first >>= next = λ reads.
    behind (first reads).asked (going_on next (first reads).given (first reads).later)

-- ---- what a call on a shelf did of it

-- these are the shelf's own files, where it tells them
abbrev pub AreOf : ShelfSeen → FilesFound → Type 0
AreOf shelf found = IsTrue shelf.tells → (n : ℕ) (name : List ℕ) → found n name ≡ shelf.files name

-- of all reads some were made, and the rest are left: whatever these find, all give what they give, behind
-- the names that were asked
pub record LeadsTo {X : Type 0} (all rest : Reads X) (old new : ShelfSeen) : Type 0 where
  pub names : List Asked
  pub gives :
      (later : FilesFound) → AreOf new later
      → (found : FilesFound) × AreOf old found × (all found ≡ behind names (rest later))
  pub asked : IsTrue old.tells → new.asked ≡ old.asked ++ map (λ a. a.name) names

-- some reads were made, whatever is left
abbrev pub Begins : {X : Type 0} → Reads X → (old new : ShelfSeen) → Type 0
Begins all old new = (rest : Reads _) × LeadsTo all rest old new

-- some reads were made, of which the last, of this file, failed
pub record BreaksAt {X : Type 0} (which : Which) (all : Reads X) (old new : ShelfSeen) : Type 0 where
  pub rest : Reads X
  pub front : List Asked
  pub name : List ℕ
  pub leads : LeadsTo all rest old new
  pub last : leads.names ≡ front ++ record { which = which; name = name } ∷ []

-- what a call that makes these reads answers: all were made and gave this, or they broke off; a missing file
-- and a failed read raised their counts
abbrev pub IsReadAs : {X : Type 0} → Reads X → Result X End → (old new : ShelfSeen) → Type 0
IsReadAs all (Ok x) old new = LeadsTo all (only (Ok x)) old new
IsReadAs all (Err NoMemory) old new = Begins all old new
IsReadAs all (Err (ReadFault which)) old new = BreaksAt which all old new × Rose old.faults new.faults
IsReadAs all (Err (Missing which)) old new =
    LeadsTo all (only (Err (Missing which))) old new × Rose old.misses new.misses
IsReadAs all (Err (BadProject error)) old new = LeadsTo all (only (Err (BadProject error))) old new
IsReadAs all (Err (BadData place error)) old new = LeadsTo all (only (Err (BadData place error))) old new
IsReadAs all (Err (BadScript line)) old new = LeadsTo all (only (Err (BadScript line))) old new
IsReadAs all (Err Done) old new = ⊥
IsReadAs all (Err Usage) old new = ⊥
IsReadAs all (Err (WriteFault which)) old new = ⊥

module _ {Z : Type 0} where
  -- what a call hands out of a file: its bytes, where they are at most so many, or nothing
  abbrev pub StandsFor : ℕ → Option (Vec ℕ Z) → List ℕ → Type 0
  StandsFor max (Some got) bytes = (got.items ≡ bytes) × (length bytes ≤ max)
  StandsFor max None bytes = max < length bytes

  -- what a call answers that reads one file
  abbrev pub IsFetched : Asked → ℕ → Result (Option (Vec ℕ Z)) End → (old new : ShelfSeen) → Type 0
  IsFetched a max (Ok got) old new =
      (bytes : List ℕ) × StandsFor max got bytes × LeadsTo (file_of a) (only (Ok bytes)) old new
  IsFetched a max (Err end) old new = IsReadAs (file_of a) (Err end) old new

-- what a call answers of bytes that were read: this value or refusal, or want of memory
abbrev pub IsSaid : {X : Type 0} → Result X End → Result X End → Type 0
IsSaid given result = (shelf : ShelfSeen) → IsReadAs (only given) result shelf shelf
