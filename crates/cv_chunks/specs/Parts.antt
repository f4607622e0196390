-- A list in parts: its elements are `flat_map items parts`, those of one part after those of another.
use Rattle.std.specs.Prelude.{◌≡◌, ℕ, ◌+◌, ◌<◌, ◌≤◌, Bool, false, List, length, take, drop, slice_get}
use Rattle.std.specs.Prelude.{slice_set, insert, ◌++◌, Some}
use Rattle.std.specs.List.{flat_map}

-- the element at a place of the whole stands in this part, behind so many of the part's own
pub record IsWithin {P T : Type 0} (items : P → List T) (parts : List P) (place number within : ℕ) (part :
    P) : Type 0 where
  pub found : slice_get parts number ≡ Some part
  pub behind : place ≡ length (flat_map items (take number parts)) + within
  pub before_end : within < length (items part)

-- a further element may be put into this part, which isn't full, and then stands at this place of the whole
pub record IsSpot {P T : Type 0} (items : P → List T) (full : P
    → Bool) (parts : List P) (place number within : ℕ) (part : P) : Type 0 where
  pub found : slice_get parts number ≡ Some part
  pub behind : place ≡ length (flat_map items (take number parts)) + within
  pub up_to_end : within ≤ length (items part)
  pub not_full : full part ≡ false

-- one part was cut into two that aren't full, the first of them so long
pub record IsSplit {P T : Type 0} (items : P → List T) (full : P
    → Bool) (old new : List P) (number long : ℕ) (part front back : P) : Type 0 where
  pub found : slice_get old number ≡ Some part
  pub parts : new ≡ insert (slice_set old number front) (number + 1) back
  pub same : items front ++ items back ≡ items part
  pub front_long : long ≡ length (items front)
  pub front_not_full : full front ≡ false
  pub back_not_full : full back ≡ false

-- this run stands in the list from a place on, and isn't empty
pub record IsRunFrom {T : Type 0} (list : List T) (place : ℕ) (run : List T) : Type 0 where
  pub some : 0 < length run
  pub same : take (length run) (drop place list) ≡ run

-- one part of the old list was cut into two, so that the new one has a part more
abbrev pub CutsPart : {P T : Type 0} → (P → List T) → (P → Bool) → List P → List P → ℕ → ℕ → Type 0
CutsPart {P} items full old new number long = (part : P) × (front : P) × (back : P) × IsSplit items full
    old new number long part front back
