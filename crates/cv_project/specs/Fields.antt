-- Objects: their fields, and the keys that are no field's.
use Rattle.std.specs.Prelude.{ℕ, Bool, if◌then◌else◌, List, Option, Some, None, is_some, option_map}
use Rattle.std.specs.Prelude.{option_and_then, bytes_eq, Result, Ok, Err}
use Rattle.std.specs.List.{list_any}
use Rattle.std.specs.Option.{option_map_or}
use Rattle.serde_json.specs.Data.{Data, null, boolean, number, string, array, object, Members, no_members}
use Rattle.serde_json.specs.Data.{member}
use Rattle.serde_json.specs.Find.{get, as_object}
use Rattle.cv_project.specs.declared.refusal.Refusal.{Refusal}
use Rattle.cv_project.specs.declared.refusal.Refusal.TheVariants.{Missing, WrongKind, Unknown, Limit}
use Rattle.cv_project.specs.Answers.{◌>>=◌}
use Rattle.cv_project.specs.Nodes.{TreeNode, field_path}

-- a node is an object
unfoldable pub is_object : TreeNode → Result (Unit {0}) Refusal
is_object node = if is_some (as_object node.value) then Ok tt else Err (WrongKind node.path)

-- a value that isn't null
abbrev pub not_null : Data → Option Data
not_null null = None
not_null (boolean b) = Some (boolean b)
not_null (number n) = Some (number n)
not_null (string s) = Some (string s)
not_null (array ds) = Some (array ds)
not_null (object ms) = Some (object ms)

-- the node of an object's field; none where the field is absent or null
abbrev pub field : List ℕ → TreeNode → Option TreeNode
field name node =
    option_map (λ d. record { path = field_path node.path name; value = d }) (option_and_then not_null
    (get name node.value))

-- a field of this kind that must be there
unfoldable pub required : {X : Type 0} → (TreeNode → Result X Refusal) → List ℕ → TreeNode → Result X Refusal
required kind name node = option_map_or kind (field name node) (Err (Missing (field_path node.path name)))

-- a field of this kind that may be absent
unfoldable pub optional : {X : Type 0} → (TreeNode → Result X Refusal) → List ℕ → TreeNode
    → Result (Option X) Refusal
optional kind name node = option_map_or (λ found. kind found >>= λ x. Ok (Some x)) (field name node) (Ok None)

-- a field of this kind with a default
unfoldable pub with_default : {X : Type 0} → X → (TreeNode → Result X Refusal) → List ℕ → TreeNode
    → Result X Refusal
with_default default kind name node = option_map_or kind (field name node) (Ok default)

-- a further test of the field of this name, whose value is read already
unfoldable pub tested : Bool → List ℕ → TreeNode → Result (Unit {0}) Refusal
tested test name node = if test then Ok tt else Err (Limit (field_path node.path name))

-- the first key that isn't among these names, in the order of the members, which is byte order in a tree
-- that was read
abbrev pub first_other : List (List ℕ) → Members → Option (List ℕ)
first_other names no_members = None
first_other names (member key d rest) = if list_any (λ name. bytes_eq name key) names
    then first_other names rest else Some key

-- an object has no other keys than these
unfoldable pub no_others : List (List ℕ) → TreeNode → Result (Unit {0}) Refusal
no_others names node =
    option_map_or (λ key. Err (Unknown (field_path node.path key))) (option_and_then (first_other names)
    (as_object node.value)) (Ok tt)
