-- Objects and lists as trees: what is found in them, how deep they nest, and that they have no float.
use Rattle.std.proofs.Common.{◌≡◌, ℕ, ◌+◌, ◌≤◌, max, ◌&&◌, ◌||◌, not, Bool, true, false, List, [], ◌∷◌, map}
use Rattle.std.proofs.Common.{length, Option, Some, None, bytes_eq, if◌then◌else◌, refl, sym, ap, ◌∙◌, arith}
use Rattle.std.proofs.Common.{Result, Ok, option_map, suc, true≢false, Ordering, Less, Equal, Greater}
use Rattle.std.specs.Prelude.{IfSome}
use Rattle.std.specs.Cmp.Lexicographic.{slice_cmp}
use Rattle.std.specs.List.{list_any}
use Rattle.std.specs.Ordering.{nat_cmp, match_ordering}
use Rattle.std.proofs.lemmas.Bool.{and_parts}
use Rattle.std.proofs.lemmas.Slice.Eq.{bytes_eq-Decides}
use Rattle.serde_json.specs.Data.{Data, array, object, Items, no_items, item, Members, no_members, member, put}
use Rattle.serde_json.specs.Data.{depth, items_depth, members_depth}
use Rattle.serde_json.specs.Events.{items_len}
use Rattle.serde_json.specs.Find.{get_member}
use Rattle.serde_json.specs.View.{items_of}
use Rattle.serde_json.specs.Written.{has_float, items_have_float, members_have_float}
use Rattle.serde_json.proofs.Views.{get_member-put, get_member-put_other}
use Rattle.cv_project.specs.Fields.{first_other}
use Rattle.cv_project.specs.Trees.{Fields, with_field, with_fields, object_of, list_tree}

-- ---- what stands under a name

-- the value of the first field of this name
abbrev pub found : List ℕ → Fields → Option Data
found name [] = None
found name (f ∷ rest) = if bytes_eq name f.0 then f.1 else found name rest

-- no field has this name
abbrev pub lacks : List ℕ → Fields → Bool
lacks name [] = true
lacks name (f ∷ rest) = not (bytes_eq name f.0) && lacks name rest

-- no name comes twice
abbrev pub differ : Fields → Bool
differ [] = true
differ (f ∷ rest) = lacks f.0 rest && differ rest

-- names that are told apart differ
apart : (a b : List ℕ) → bytes_eq a b ≡ false → a ≡ b → ⊥
apart a b told same = true≢false (sym ((bytes_eq-Decides a b).1 same) ∙ told)

get-other : (q k : List ℕ) (o : Option Data) (ms : Members) → bytes_eq q k ≡ false
    → get_member q (with_field k o ms) ≡ get_member q ms
get-other q k None ms told = refl
get-other q k (Some d) ms told = get_member-put_other q k d ms (apart q k told)

get-here : (k : List ℕ) (o : Option Data) (ms : Members) → get_member k ms ≡ None
    → get_member k (with_field k o ms) ≡ o
get-here k None ms none = none
get-here k (Some d) ms none = get_member-put k d ms

is_false : (b : Bool) → not b ≡ true → b ≡ false
is_false true h = cc
is_false false h = refl

-- fields of other names don't change what stands under a name
get-lacking : (name : List ℕ) (fs : Fields) (ms : Members) → lacks name fs ≡ true
    → get_member name (with_fields fs ms) ≡ get_member name ms
get-lacking name [] ms h = refl
get-lacking name (f ∷ rest) ms h =
    let parts = and_parts (not (bytes_eq name f.0)) (lacks name rest) h in
    get-lacking name rest (with_field f.0 f.1 ms) parts.1
    ∙ get-other name f.0 f.1 ms (is_false (bytes_eq name f.0) parts.0)

get-found_at : (b : Bool) (name : List ℕ) (f : List ℕ × Option Data) (rest : Fields)
    (ms : Members) → bytes_eq name f.0 ≡ b → lacks f.0 rest ≡ true → get_member name ms ≡ None
    → (get_member name (with_field f.0 f.1 ms) ≡ None
    → get_member name (with_fields rest (with_field f.0 f.1 ms)) ≡ found name rest)
    → get_member name (with_fields rest (with_field f.0 f.1 ms)) ≡ (if b then f.1 else found name rest)
get-found_at true name f rest ms told alone none later =
    let same : name ≡ f.0 = (bytes_eq-Decides name f.0).0 told in
    rw same (get-lacking f.0 rest (with_field f.0 f.1 ms) alone ∙ get-here f.0 f.1 ms (rw same at none))
get-found_at false name f rest ms told alone none later = later (get-other name f.0 f.1 ms told ∙ none)

-- behind others that lack the name, the fields give what is found in them
get-found : (name : List ℕ) (fs : Fields) (ms : Members) → differ fs ≡ true
    → get_member name ms ≡ None → get_member name (with_fields fs ms) ≡ found name fs
get-found name [] ms h none = none
get-found name (f ∷ rest) ms h none =
    let parts = and_parts (lacks f.0 rest) (differ rest) h in
    get-found_at (bytes_eq name f.0) name f rest ms refl parts.0 none
    (λ still. get-found name rest (with_field f.0 f.1 ms) parts.1 still)

-- an object has under each name what is found in its fields
pub get-fields : (name : List ℕ) (fs : Fields) → differ fs ≡ true
    → get_member name (with_fields fs no_members) ≡ found name fs
get-fields name fs h = get-found name fs no_members h refl

-- ---- the names

-- each field's name is among these
abbrev pub covers : List (List ℕ) → Fields → Bool
covers names [] = true
covers names (f ∷ rest) = list_any (λ name. bytes_eq name f.0) names && covers names rest

-- what stands behind a known key decides
first_other-put_at : (o : Ordering) (names : List (List ℕ)) (k l : List ℕ) (d e : Data) (ms : Members)
    → list_any (λ name. bytes_eq name k) names ≡ true → first_other names (member l e ms) ≡ None
    → (first_other names ms ≡ None → first_other names (put k d ms) ≡ None)
    → first_other names (match_ordering o (member k d (member l e ms)) (member l d ms)
    (member l e (put k d ms))) ≡ None
first_other-put_at Less names k l d e ms known none later = rw known none
first_other-put_at Equal names k l d e ms known none later = none
first_other-put_at Greater names k l d e ms known none later =
    kept (list_any (λ name. bytes_eq name l) names) none
  where
    kept : (b : Bool) → (if b then first_other names ms else Some l) ≡ None
        → (if b then first_other names (put k d ms) else Some l) ≡ None
    kept true h = later h
    kept false h = cc

first_other-put : (names : List (List ℕ)) (k : List ℕ) (d : Data) (ms : Members)
    → list_any (λ name. bytes_eq name k) names ≡ true → first_other names ms ≡ None
    → first_other names (put k d ms) ≡ None
first_other-put names k d no_members known none = rw known refl
first_other-put names k d (member l e ms) known none =
    first_other-put_at (slice_cmp nat_cmp k l) names k l d e ms known none (first_other-put names k d ms known)

first_other-field : (names : List (List ℕ)) (k : List ℕ) (o : Option Data) (ms : Members)
    → list_any (λ name. bytes_eq name k) names ≡ true → first_other names ms ≡ None
    → first_other names (with_field k o ms) ≡ None
first_other-field names k None ms known none = none
first_other-field names k (Some d) ms known none = first_other-put names k d ms known none

-- fields of known names, behind others, give no other name
pub first_other-fields : (names : List (List ℕ)) (fs : Fields) (ms : Members)
    → covers names fs ≡ true → first_other names ms ≡ None
    → first_other names (with_fields fs ms) ≡ None
first_other-fields names [] ms h none = none
first_other-fields names (f ∷ rest) ms h none =
    let parts = and_parts (list_any (λ name. bytes_eq name f.0) names) (covers names rest) h in
    first_other-fields names rest (with_field f.0 f.1 ms) parts.1
    (first_other-field names f.0 f.1 ms parts.0 none)

-- ---- no float, and so deep at most

-- a tree without floats that nests at most so deep
pub record IsPlain (deep : ℕ) (d : Data) : Type 0 where
  pub no_float : has_float d ≡ false
  pub shallow : depth d ≤ deep

-- members of an object, each of them so
pub record ArePlain (deep : ℕ) (ms : Members) : Type 0 where
  pub no_float : members_have_float ms ≡ false
  pub shallow : members_depth ms ≤ deep

neither : (a b : Bool) → a ≡ false → b ≡ false → (a || b) ≡ false
neither a b ha hb = rw (ha, hb) refl

or_parts : (a b : Bool) → (a || b) ≡ false → (a ≡ false) × (b ≡ false)
or_parts false false h = (refl, refl)
or_parts false true h = cc
or_parts true b h = cc

max_in : (a b n : ℕ) → a ≤ n → b ≤ n → max a b ≤ n
max_in a b n ha hb = omega arith

left_in : (a b n : ℕ) → max a b ≤ n → a ≤ n
left_in a b n h = omega arith

right_in : (a b n : ℕ) → max a b ≤ n → b ≤ n
right_in a b n h = omega arith

plain_more : (deep : ℕ) (k : List ℕ) (d : Data) (ms : Members) → IsPlain deep d → ArePlain deep ms
    → ArePlain deep (member k d ms)
plain_more deep k d ms one more = record {
  no_float = neither (has_float d) (members_have_float ms) one.no_float more.no_float;
  shallow = max_in (depth d) (members_depth ms) deep one.shallow more.shallow;
}

plain_rest : (deep : ℕ) (k : List ℕ) (d : Data) (ms : Members) → ArePlain deep (member k d ms)
    → ArePlain deep ms
plain_rest deep k d ms all = record {
  no_float = (or_parts (has_float d) (members_have_float ms) all.no_float).1;
  shallow = right_in (depth d) (members_depth ms) deep all.shallow;
}

plain_first : (deep : ℕ) (k : List ℕ) (d : Data) (ms : Members) → ArePlain deep (member k d ms)
    → IsPlain deep d
plain_first deep k d ms all = record {
  no_float = (or_parts (has_float d) (members_have_float ms) all.no_float).0;
  shallow = left_in (depth d) (members_depth ms) deep all.shallow;
}

plain-put_at : (o : Ordering) (deep : ℕ) (k l : List ℕ) (d e : Data) (ms : Members) → IsPlain deep d
    → ArePlain deep (member l e ms) → (ArePlain deep ms → ArePlain deep (put k d ms))
    → ArePlain deep (match_ordering o (member k d (member l e ms)) (member l d ms) (member l e (put k d ms)))
plain-put_at Less deep k l d e ms one all later = plain_more deep k d (member l e ms) one all
plain-put_at Equal deep k l d e ms one all later =
    plain_more deep l d ms one (plain_rest deep l e ms all)
plain-put_at Greater deep k l d e ms one all later =
    plain_more deep l e (put k d ms) (plain_first deep l e ms all) (later (plain_rest deep l e ms all))

plain-none : (deep : ℕ) → ArePlain deep no_members
plain-none deep = record { no_float = refl; shallow = omega arith }

plain-put : (deep : ℕ) (k : List ℕ) (d : Data) (ms : Members) → IsPlain deep d → ArePlain deep ms
    → ArePlain deep (put k d ms)
plain-put deep k d no_members one all = plain_more deep k d no_members one all
plain-put deep k d (member l e ms) one all =
    plain-put_at (slice_cmp nat_cmp k l) deep k l d e ms one all (plain-put deep k d ms one)

plain-field : (deep : ℕ) (k : List ℕ) (o : Option Data) (ms : Members) → IfSome o (IsPlain deep)
    → ArePlain deep ms → ArePlain deep (with_field k o ms)
plain-field deep k None ms one all = all
plain-field deep k (Some d) ms one all = plain-put deep k d ms one all

-- each field that is there is plain
abbrev pub AllPlain : ℕ → Fields → Type 0
AllPlain deep [] = Unit {0}
AllPlain deep (f ∷ rest) = IfSome f.1 (IsPlain deep) × AllPlain deep rest

plain-fields : (deep : ℕ) (fs : Fields) (ms : Members) → AllPlain deep fs
    → ArePlain deep ms → ArePlain deep (with_fields fs ms)
plain-fields deep [] ms each all = all
plain-fields deep (f ∷ rest) ms each all =
    plain-fields deep rest (with_field f.0 f.1 ms) each.1 (plain-field deep f.0 f.1 ms each.0 all)

-- an object of plain fields is plain, one level deeper
pub plain-object : (deep : ℕ) (fs : Fields) → AllPlain deep fs
    → IsPlain (deep + 1) (object_of fs)
plain-object deep fs each =
    let all = plain-fields deep fs no_members each (plain-none deep) in
    record { no_float = all.no_float; shallow = omega (arith, all.shallow) }

-- ---- lists

pub items_len-map : {X : Type 0} (tree : X → Data) (xs : List X) → items_len (items_of (map tree xs)) ≡ length xs
items_len-map tree [] = refl
items_len-map tree (x ∷ xs) = ap suc (items_len-map tree xs)

-- each tree of a list is plain
abbrev pub EachPlain : {X : Type 0} → ℕ → (X → Data) → List X → Type 0
EachPlain deep tree [] = Unit {0}
EachPlain deep tree (x ∷ xs) = IsPlain deep (tree x) × EachPlain deep tree xs

items_plain : {X : Type 0} (deep : ℕ) (tree : X → Data) (xs : List X) → EachPlain deep tree xs
    → items_have_float (items_of (map tree xs)) ≡ false
items_plain deep tree [] each = refl
items_plain deep tree (x ∷ xs) each =
    neither (has_float (tree x)) (items_have_float (items_of (map tree xs))) each.0.no_float
    (items_plain deep tree xs each.1)

items_shallow : {X : Type 0} (deep : ℕ) (tree : X → Data) (xs : List X) → EachPlain deep tree xs
    → items_depth (items_of (map tree xs)) ≤ deep
items_shallow deep tree [] each = omega arith
items_shallow deep tree (x ∷ xs) each =
    max_in (depth (tree x)) (items_depth (items_of (map tree xs))) deep each.0.shallow
    (items_shallow deep tree xs each.1)

-- a list of plain trees is plain, one level deeper
pub plain-list : {X : Type 0} (deep : ℕ) (tree : X → Data) (xs : List X) → EachPlain deep tree xs
    → IsPlain (deep + 1) (list_tree tree xs)
plain-list deep tree xs each =
    let shallow = items_shallow deep tree xs each in
    record { no_float = items_plain deep tree xs each; shallow = omega (arith, shallow) }
