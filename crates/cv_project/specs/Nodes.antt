-- Nodes of the JSON tree, and the paths that lead to them.
use Rattle.std.specs.Prelude.{ℕ, List, [], ◌∷◌, ◌++◌, decimal}
use Rattle.serde_json.specs.Data.{Data}

-- a node: its path, and the value that stands there
pub record TreeNode : Type 0 where
  pub path : List ℕ
  pub value : Data

-- the path of an object's field: its name, behind a point below the top
abbrev pub field_path : List ℕ → List ℕ → List ℕ
field_path [] name = name
field_path (b ∷ bs) name = (b ∷ bs) ++ 46 ∷ name

-- the path of a list's member: its number from 0, in brackets
abbrev pub member_path : List ℕ → ℕ → List ℕ
member_path path at = path ++ 91 ∷ (decimal at ++ 93 ∷ [])
