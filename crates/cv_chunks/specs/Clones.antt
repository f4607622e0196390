-- When a clone stands for its source, and what a chunk keeps.
use Rattle.std.specs.Prelude.{◌≡◌, ◌≤◌, ℕ, List, length}
use Rattle.std.specs.List.{flat_map}

-- a clone of a value is that value
abbrev pub ClonesAreEqual : {T : Type 0} → (T → T → Type 0) → Type 0
ClonesAreEqual {T} is_clone = (source clone : T) → is_clone source clone → clone ≡ source

-- so many elements are in the list, which is no longer than a chunk may be
pub record IsCountOf {T : Type 0} (count : ℕ) (list : List T) : Type 0 where
  pub counts : count ≡ length list
  pub short : length list ≤ 128

-- so many elements are in the lists together, of which there are no more than a group may have
pub record IsCountOfAll {T : Type 0} (count : ℕ) (lists : List (List T)) : Type 0 where
  pub counts : count ≡ length (flat_map (λ list. list) lists)
  pub short : length lists ≤ 128
