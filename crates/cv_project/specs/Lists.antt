-- Lists: how many members they have, and their members in order.
use Rattle.std.specs.Prelude.{ℕ, ◌&&◌, nat_le, List, [], ◌∷◌, ◌++◌, length, Result, Ok}
use Rattle.serde_json.specs.Data.{Items, no_items, item}
use Rattle.serde_json.specs.Events.{items_len}
use Rattle.serde_json.specs.Find.{as_array}
use Rattle.cv_project.specs.declared.refusal.Refusal.{Refusal}
use Rattle.cv_project.specs.Answers.{◌>>=◌}
use Rattle.cv_project.specs.Nodes.{TreeNode, member_path}
use Rattle.cv_project.specs.Kinds.{spelled, within}

-- the members from one on, behind those that are read; a member may be judged by those before it
abbrev pub members_from : {X : Type 0} → (List X → TreeNode → Result X Refusal) → List ℕ → List X
    → Items → Result (List X) Refusal
members_from member path before no_items = Ok before
members_from member path before (item d rest) = do
  x ← member before (record { path = member_path path (length before); value = d })
  members_from member path (before ++ x ∷ []) rest

-- a list of so many members
unfoldable pub list_of : {X : Type 0} → ℕ → ℕ → (List X → TreeNode → Result X Refusal) → TreeNode
    → Result (List X) Refusal
list_of least most member node = do
  items ← spelled node (as_array node.value)
  few ← within node (nat_le least (items_len items) && nat_le (items_len items) most) items
  members_from member node.path [] few

-- members that aren't judged by those before them
abbrev pub each : {X : Type 0} → (TreeNode → Result X Refusal) → List X → TreeNode → Result X Refusal
each kind before node = kind node
