-- Lists of the tree, and their members read in order.
use Rattle.std.proofs.Common.{◌≡◌, ℕ, ◌+◌, ◌≤◌, ◌<◌, ◌&&◌, List, [], ◌∷◌, ◌++◌, length, drop, Bool, true}
use Rattle.std.proofs.Common.{false, Option, Some, None, Result, Ok, Err, refl, sym, ap, ◌∙◌, arith}
use Rattle.std.specs.Prelude.{nat_le}
use Rattle.serde_json.specs.Data.{Items}
use Rattle.serde_json.specs.Events.{items_len}
use Rattle.serde_json.specs.Find.{as_array}
use Rattle.serde_json.specs.View.{view, items_view}
use Rattle.serde_json.specs.declared.value.Value.{Value}
use Rattle.serde_json.proofs.Views.{items_len-items_view}
use Rattle.cv_project.specs.declared.refusal.Refusal.{Refusal}
use Rattle.cv_project.specs.declared.refusal.Refusal.TheVariants.{Limit}
use Rattle.cv_project.specs.Lists.{members_from, list_of}
use Rattle.cv_project.specs.Nodes.{TreeNode, member_path}

-- one more member, read behind those before it
pub members_from-more : {X : Type 0} (member : List X → TreeNode
    → Result X Refusal) (path : List ℕ) (before : List X) (left : List Value)
    (value : Value) (rest : List Value) (at : ℕ) (x : X) → left ≡ value ∷ rest → length before ≡ at
    → member before (record { path = member_path path at; value = view value }) ≡ Ok x
    → members_from member path before (items_view left) ≡ members_from member path (before ++ x
    ∷ []) (items_view rest)
members_from-more member path before left value rest at x here count read = rw (here, count, read) refl

-- the refusal of a member is that of the list
pub members_from-refused : {X : Type 0} (member : List X → TreeNode
    → Result X Refusal) (path : List ℕ) (before : List X) (left : List Value)
    (value : Value) (rest : List Value) (at : ℕ) (e : Refusal) → left ≡ value ∷ rest → length before ≡ at
    → member before (record { path = member_path path at; value = view value }) ≡ Err e
    → members_from member path before (items_view left) ≡ Err e
members_from-refused member path before left value rest at e here count read = rw (here, count, read) refl

-- a list of a right number of members is read by its members
pub list_of-members : {X : Type 0} (least most : ℕ) (member : List X → TreeNode
    → Result X Refusal) (node : TreeNode) (vs : List Value)
    → as_array node.value ≡ Some (items_view vs)
    → (nat_le least (length vs) && nat_le (length vs) most) ≡ true
    → list_of least most member node ≡ members_from member node.path [] (items_view vs)
unfolding list_of
list_of-members least most member node vs found few = rw (found, items_len-items_view vs, few) refl

-- and any other is refused
pub list_of-limit : {X : Type 0} (least most : ℕ) (member : List X → TreeNode
    → Result X Refusal) (node : TreeNode) (vs : List Value)
    → as_array node.value ≡ Some (items_view vs)
    → (nat_le least (length vs) && nat_le (length vs) most) ≡ false
    → list_of least most member node ≡ Err (Limit node.path)
unfolding list_of
list_of-limit least most member node vs found few = rw (found, items_len-items_view vs, few) refl
