-- Stretches: where the ids of features ascend, by which a table finds one of them. (Source: this project's own
-- choice; a search by halves needs an order.)
use Rattle.std.specs.Prelude.{◌≡◌, ℕ, ◌<◌, ◌≤◌, List, [], ◌∷◌, length, take, drop}
use Rattle.std.specs.List.{AllByRecursion}
use Rattle.cv_layer.specs.declared.stretches.Stretch.{Stretch}

-- each number is less than those behind it
abbrev pub Ascend : List ℕ → Type 0
Ascend [] = Unit {0}
Ascend (x ∷ xs) = AllByRecursion (λ y. x < y) xs × Ascend xs

-- a stretch has so many ids, which ascend, and none of them is beyond its bounds
pub record IsStretch (s : Stretch) (ids : List ℕ) : Type 0 where
  pub counted : s.count ≡ length ids
  pub ascend : Ascend ids
  pub order : s.least ≤ s.greatest
  pub above : AllByRecursion (λ id. s.least ≤ id) ids
  pub below : AllByRecursion (λ id. id ≤ s.greatest) ids

-- stretches have all the ids, one behind the other
abbrev pub AreStretches : List Stretch → List ℕ → Type 0
AreStretches [] ids = ids ≡ []
AreStretches (s ∷ ss) ids = IsStretch s (take s.count ids) × AreStretches ss (drop s.count ids)
