-- What stands in an object's fields.
use Rattle.std.proofs.Common.{◌≡◌, ℕ, List, [], Option, Some, None, option_map, is_some, map, ◌||◌, ◌∷◌}
use Rattle.std.proofs.Common.{bytes_eq, Bool, true, false, Bor, refl, sym, ap, ◌∙◌, rules}
use Rattle.std.specs.Option.{option_and_then}
use Rattle.std.specs.List.{list_any}
use Rattle.serde_json.specs.Data.{Data, null, boolean, number, string, array, object, Members, member}
use Rattle.serde_json.specs.Find.{get, as_null}
use Rattle.cv_project.specs.Nodes.{TreeNode, field_path}
use Rattle.cv_project.specs.Fields.{field, not_null, first_other}

-- null is no value
pub not_null-null : (d : Data) → is_some (as_null d) ≡ true → not_null d ≡ None
not_null-null null h = refl
not_null-null (boolean b) h = cc
not_null-null (number n) h = cc
not_null-null (string s) h = cc
not_null-null (array ds) h = cc
not_null-null (object ms) h = cc

-- any other value stays
pub not_null-other : (d : Data) → is_some (as_null d) ≡ false → not_null d ≡ Some d
not_null-other null h = cc
not_null-other (boolean b) h = refl
not_null-other (number n) h = refl
not_null-other (string s) h = refl
not_null-other (array ds) h = refl
not_null-other (object ms) h = refl

-- a field that is there
pub field-some : (name : List ℕ) (node : TreeNode) (d : Data) → Some d ≡ get name node.value
    → is_some (as_null d) ≡ false
    → field name node ≡ Some (record { path = field_path node.path name; value = d })
field-some name node d found other = rw (← found, not_null-other d other) refl

-- a test of some element, made of what each is seen as
pub list_any_map : {A B : Type 0} (p : B → Bool) (f : A → B) (xs : List A)
    → list_any p (map f xs) ≡ list_any (λ x. p (f x)) xs
list_any_map p f [] = refl
list_any_map p f (x ∷ xs) = ap (λ b. p (f x) || b) (list_any_map p f xs)

-- a key among the names is passed by
pub first_other-among : (names : List (List ℕ)) (key : List ℕ) (d : Data) (rest : Members)
    → list_any (λ name. bytes_eq name key) names ≡ true
    → first_other names (member key d rest) ≡ first_other names rest
first_other-among names key d rest among = rw among refl

-- a key that isn't among them is the first
pub first_other-here : (names : List (List ℕ)) (key : List ℕ) (d : Data) (rest : Members)
    → list_any (λ name. bytes_eq name key) names ≡ false
    → first_other names (member key d rest) ≡ Some key
first_other-here names key d rest among = rw among refl
