-- Scripts that can be played.
use Rattle.std.specs.Prelude.{ℕ, ◌+◌, ◌≤◌, List, [], ◌∷◌, length}
use Rattle.std.specs.List.{All}
use Rattle.cv_script.specs.declared.script.Numbered.{Numbered}
use Rattle.cv_script.specs.Scripts.{HasFactors}

-- the lines of commands ascend strictly, from this one on
abbrev pub Ascends : ℕ → List Numbered → Type 0
Ascends n [] = Unit {0}
Ascends n (c ∷ rest) = (n ≤ c.line) × Ascends (c.line + 1) rest

-- a script has at most 100,000 commands, whose lines, counted from 1, ascend strictly, and the numbers of its
-- zooms are in range
pub record IsPlayable (script : List Numbered) : Type 0 where
  pub few : length script ≤ 100000
  pub ascend : Ascends 1 script
  pub factors : All (λ c. HasFactors c.command) script
