-- Files that are put into a tray, one after the other, and those that a script leaves alone.
--
-- Source: this project's own.
use Rattle.std.specs.Prelude.{◌≡◌, ℕ, List, [], ◌∷◌, take, slice_get, Some}
use Rattle.std.specs.List.{AllByRecursion}
use Rattle.cv_outside.specs.declared.ends.TrayEnd.TheVariants.{Kept}
use Rattle.cv_outside.specs.Reads.{SameFiles}
use Rattle.cv_outside.specs.Seen.{NamedFiles}
use Rattle.cv_outside.specs.Writes.{OthersStay, Writes}
use Rattle.cv_script.specs.declared.script.Command.{Command}
use Rattle.cv_script.specs.declared.script.Numbered.{Numbered}
use Rattle.cv_session.specs.Plays.{Written, file_of}

-- the files behind these writes, one after the other
abbrev pub Puts : List Written → (old new : NamedFiles) → Type 0
Puts [] old new = SameFiles old new
Puts (w ∷ ws) old new = (mid : NamedFiles) × Writes Kept old mid w.name w.bytes × Puts ws mid new

-- the files behind the write at this place, counted from 0, that failed: those before it are put, and under
-- its name stands whatever it is
pub record Breaks (place : ℕ) (files : List Written) (old new : NamedFiles) : Type 0 where
  pub mid : NamedFiles
  pub before : Puts (take place files) old mid
  pub failed : Written
  pub is : slice_get files place ≡ Some failed
  pub others : OthersStay mid new failed.name

-- a command doesn't write a file of this name
abbrev pub IsOther : List ℕ → Command → Type 0
IsOther name c = file_of c ≡ Some name → ⊥

-- the files that no command of a script writes are as before
abbrev pub Spares : List Numbered → (old new : NamedFiles) → Type 0
Spares script old new =
    (name : List ℕ) → AllByRecursion (λ (n : Numbered). IsOther name n.command) script → new name ≡ old name

-- the files that this command doesn't write are as before
abbrev pub SparesOne : Command → (old new : NamedFiles) → Type 0
SparesOne c old new = (name : List ℕ) → IsOther name c → new name ≡ old name
