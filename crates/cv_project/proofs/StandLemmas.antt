-- Trees that stand for what a kind reads: plain values, fields of objects, and lists.
use Rattle.std.proofs.Common.{◌≡◌, ℕ, ◌+◌, ◌*◌, ◌/◌, ◌%◌, ◌≤◌, ◌<◌, ◌&&◌, Bool, true, false, List, [], ◌∷◌, ◌++◌}
use Rattle.std.proofs.Common.{length, slice_index, map, Option, Some, None, option_map, Result, Ok, Err, refl, sym}
use Rattle.std.proofs.Common.{ap, ◌∙◌, arith, ℤ, pos, suc, zero, find, bytes_eq, codes}
use Rattle.std.specs.Prelude.{IfSome, All, nat_le, int_le, ◌≤ℤ◌}
use Rattle.std.proofs.lemmas.Bool.Decides.{nat_tests}
use Rattle.std.proofs.lemmas.Int.{ints}
use Rattle.std.proofs.lemmas.List.{append_assoc, append-nil}
use Rattle.std.proofs.lemmas.List.Elements.{All-head, All-tail}
use Rattle.hex.specs.Hex.{IsBytes, encode_lower, decode_sized, lower_digits}
use Rattle.hex.specs.declared.error.FromHexError.TheVariants.{InvalidStringLength}
use Rattle.hex.proofs.HexLemmas.{length-encode_with, decode_sized-encode_lower, decode_sized-other}
use Rattle.serde_json.specs.Data.{Data, string, boolean}
use Rattle.serde_json.specs.View.{items_of}
use Rattle.cv_number.specs.Reader.{decimal_of}
use Rattle.cv_number.specs.declared.fixed.Fixed.TheVariants.{Value}
use Rattle.cv_decimal.specs.Written.{written}
use Rattle.cv_decimal.proofs.ValueLemmas.{decimal_of_spelt}
use Rattle.cv_decimal.proofs.WrittenLemmas.{written_spelt}
use Rattle.cv_model.specs.Positions.{IsCoordinate}
use Rattle.cv_model.specs.ProjectFiles.{IsName}
use Rattle.cv_model.specs.declared.colour.Rgb.{Rgb}
use Rattle.cv_model.specs.declared.colour.Rgba.{Rgba}
use Rattle.cv_project.specs.declared.refusal.Refusal.{Refusal}
use Rattle.cv_project.specs.Answers.{◌>>=◌}
use Rattle.cv_project.specs.Fields.{is_object, not_null, required, optional, with_default, tested, no_others}
use Rattle.cv_project.specs.Kept.{KeptBackground, KeptColour}
use Rattle.cv_project.specs.Kinds.{whole_of, whole_in, text_of, name_of, flag_of, word_in, decimal_in}
use Rattle.cv_project.specs.Kinds.{background_of, colour_of, coordinate_of}
use Rattle.cv_project.specs.Lists.{members_from, list_of, each}
use Rattle.cv_project.specs.Nodes.{TreeNode, field_path, member_path}
use Rattle.cv_project.specs.Trees.{Fields, object_of, list_tree, whole_tree, decimal_tree, background_tree}
use Rattle.cv_project.specs.Trees.{colour_tree}
use Rattle.cv_project.proofs.TreeLemmas.{IsPlain, EachPlain, found, differ, covers, get-fields}
use Rattle.cv_project.proofs.TreeLemmas.{first_other-fields, plain-list, items_len-map}

-- a node of the tree
abbrev pub node_at : List ℕ → Data → TreeNode
node_at path d = record { path = path; value = d }

-- a tree isn't null, a kind reads it as x wherever it stands, and it is plain
pub record Stands {X : Type 0} (kind : TreeNode → Result X Refusal) (deep : ℕ) (d : Data) (x : X) : Type 0 where
  pub there : not_null d ≡ Some d
  pub reads : (path : List ℕ) → kind (node_at path d) ≡ Ok x
  pub plain : IsPlain deep d

-- ---- fields

pub object-reads : (path : List ℕ) (fs : Fields)
    → is_object (node_at path (object_of fs)) ≡ Ok tt
unfolding is_object
object-reads path fs = refl

pub required-reads : {X : Type 0} (kind : TreeNode → Result X Refusal) (deep : ℕ) (name path : List ℕ)
    (fs : Fields) (d : Data) (x : X) → differ fs ≡ true → found name fs ≡ Some d
    → Stands kind deep d x → required kind name (node_at path (object_of fs)) ≡ Ok x
unfolding required
required-reads kind deep name path fs d x apart here stands =
    rw (get-fields name fs apart, here, stands.there) (stands.reads (field_path path name))

pub default-reads : {X : Type 0} (kind : TreeNode → Result X Refusal) (deep : ℕ) (name path : List ℕ)
    (fs : Fields) (d : Data) (x usual : X) → differ fs ≡ true → found name fs ≡ Some d
    → Stands kind deep d x → with_default usual kind name (node_at path (object_of fs)) ≡ Ok x
unfolding with_default
default-reads kind deep name path fs d x usual apart here stands =
    rw (get-fields name fs apart, here, stands.there) (stands.reads (field_path path name))

pub optional-reads : {X : Type 0} (kind : TreeNode → Result X Refusal) (deep : ℕ) (name path : List ℕ)
    (fs : Fields) (tree : X → Data) (o : Option X) → differ fs ≡ true
    → found name fs ≡ option_map tree o → IfSome o (λ x. Stands kind deep (tree x) x)
    → optional kind name (node_at path (object_of fs)) ≡ Ok o
unfolding optional
optional-reads kind deep name path fs tree None apart here stands = rw (get-fields name fs apart, here) refl
optional-reads kind deep name path fs tree (Some x) apart here stands =
    rw (get-fields name fs apart, here, stands.there, stands.reads (field_path path name)) refl

-- a field with a default that is absent
pub default-absent : {X : Type 0} (kind : TreeNode → Result X Refusal) (name path : List ℕ)
    (fs : Fields) (usual : X) → differ fs ≡ true → found name fs ≡ None
    → with_default usual kind name (node_at path (object_of fs)) ≡ Ok usual
unfolding with_default
default-absent kind name path fs usual apart here = rw (get-fields name fs apart, here) refl

pub others-read : (names : List (List ℕ)) (path : List ℕ) (fs : Fields)
    → covers names fs ≡ true → no_others names (node_at path (object_of fs)) ≡ Ok tt
unfolding no_others
others-read names path fs known =
    rw (first_other-fields names fs _ known refl) refl

-- a further test that passes
pub tested-passes : (test : Bool) (name : List ℕ) (node : TreeNode) → test ≡ true → tested test name node ≡ Ok tt
unfolding tested
tested-passes test name node passes = rw passes refl

-- an optional field is plain
pub plain-any : {X : Type 0} (kind : TreeNode → Result X Refusal) (deep : ℕ) (tree : X → Data) (o : Option X)
    → IfSome o (λ x. Stands kind deep (tree x) x) → IfSome (option_map tree o) (IsPlain deep)
plain-any kind deep tree None stands = tt
plain-any kind deep tree (Some x) stands = stands.plain

-- what holds of a value that may be absent, from what else does
pub if_some : {X : Type 0} {P Q : X → Type 0} (o : Option X) → ((x : X) → P x → Q x) → IfSome o P → IfSome o Q
if_some None f h = tt
if_some (Some x) f h = f x h

pub if_both : {X : Type 0} {P Q R : X → Type 0} (o : Option X) → ((x : X) → P x → Q x → R x) → IfSome o P
    → IfSome o Q → IfSome o R
if_both None f p q = tt
if_both (Some x) f p q = f x p q

-- ---- plain values

leaf : (deep : ℕ) (s : List ℕ) → IsPlain deep (string s)
leaf deep s = record { no_float = refl; shallow = omega arith }

leaf_whole : (deep n : ℕ) → IsPlain deep (whole_tree n)
leaf_whole deep n = record { no_float = refl; shallow = omega arith }

pub whole-stands : (deep n : ℕ) → Stands whole_of deep (whole_tree n) n
unfolding whole_of
whole-stands deep n = record { there = refl; reads = λ path. refl; plain = leaf_whole deep n }

between : (least n most : ℕ) → least ≤ n → n ≤ most → (nat_le least n && nat_le n most) ≡ true
between least n most low high = grind (arith, nat_tests)

pub whole_in-stands : (deep least most n : ℕ) → least ≤ n → n ≤ most
    → Stands (whole_in least most) deep (whole_tree n) n
unfolding whole_in
whole_in-stands deep least most n low high = record {
  there = refl;
  reads = λ path. rw (between least n most low high) refl;
  plain = leaf_whole deep n;
}

pub text-stands : (deep : ℕ) (s : List ℕ) → Stands text_of deep (string s) s
unfolding text_of
text-stands deep s = record { there = refl; reads = λ path. refl; plain = leaf deep s }

few : (n : ℕ) → n ≤ 256 → nat_le n 256 ≡ true
few n h = grind (arith, nat_tests)

pub name-stands : (deep : ℕ) (s : List ℕ) → IsName s → Stands name_of deep (string s) s
unfolding name_of
name-stands deep s short = record {
  there = refl;
  reads = λ path. rw (few (length s) short) refl;
  plain = leaf deep s;
}

pub flag-stands : (deep : ℕ) (b : Bool) → Stands flag_of deep (boolean b) b
unfolding flag_of
flag-stands deep b = record {
  there = refl;
  reads = λ path. refl;
  plain = record { no_float = refl; shallow = omega arith };
}

-- a word stands for its value where it is found first
pub word-stands : {X : Type 0} (deep : ℕ) (spelling : X → List ℕ) (all : List X) (w : X)
    → find (λ x. bytes_eq (spelling x) (spelling w)) all ≡ Some w
    → Stands (word_in spelling all) deep (string (spelling w)) w
unfolding word_in
word-stands deep spelling all w first = record {
  there = refl;
  reads = λ path. rw first refl;
  plain = leaf deep (spelling w);
}

within_both : (least z most : ℤ) → least ≤ℤ z → z ≤ℤ most → (int_le least z && int_le z most) ≡ true
within_both least z most low high = grind (arith, ints)

pub decimal-stands : (deep : ℕ) (least most z : ℤ) → IsCoordinate z → least ≤ℤ z → z ≤ℤ most
    → Stands (decimal_in least most) deep (decimal_tree z) z
unfolding decimal_in
decimal-stands deep least most z coordinate low high =
    let spelt : decimal_of (written z) ≡ Some (Value z) =
    (decimal_of_spelt (written z) (Value z)).1 (written_spelt z coordinate) in
    record {
      there = refl;
      reads = λ path. rw (spelt, within_both least z most low high) refl;
      plain = leaf deep (written z);
    }

pub coordinate-stands : (deep : ℕ) (z : ℤ) → IsCoordinate z → Stands coordinate_of deep (decimal_tree z) z
coordinate-stands deep z is = decimal-stands deep _ _ z is is.0 is.1

bytes_three : (c : Rgb) → KeptBackground c → IsBytes (c.r ∷ c.g ∷ c.b ∷ [])
bytes_three c kept zero = omega (arith, kept.red)
bytes_three c kept (suc zero) = omega (arith, kept.green)
bytes_three c kept (suc (suc zero)) = omega (arith, kept.blue)
bytes_three c kept (suc (suc (suc i))) = omega arith

bytes_four : (c : Rgba) → KeptColour c → IsBytes (c.r ∷ c.g ∷ c.b ∷ c.a ∷ [])
bytes_four c kept zero = omega (arith, kept.red)
bytes_four c kept (suc zero) = omega (arith, kept.green)
bytes_four c kept (suc (suc zero)) = omega (arith, kept.blue)
bytes_four c kept (suc (suc (suc zero))) = omega (arith, kept.alpha)
bytes_four c kept (suc (suc (suc (suc i)))) = omega arith

pub background-stands : (deep : ℕ) (c : Rgb) → KeptBackground c
    → Stands background_of deep (background_tree c) c
unfolding background_of
background-stands deep c kept =
    let bytes = c.r ∷ c.g ∷ c.b ∷ [] in
    let back = decode_sized-encode_lower bytes 3 refl (bytes_three c kept) in
    record { there = refl; reads = λ path. rw back refl; plain = leaf deep (encode_lower bytes) }

pub colour-stands : (deep : ℕ) (c : Rgba) → KeptColour c → Stands colour_of deep (colour_tree c) c
unfolding colour_of
colour-stands deep c kept =
    let bytes = c.r ∷ c.g ∷ c.b ∷ c.a ∷ [] in
    let long : length (encode_lower bytes) ≡ 8 = length-encode_with lower_digits bytes in
    let even : length (encode_lower bytes) % 2 ≡ 0 = omega (arith, long) in
    let not_six = decode_sized-other (encode_lower bytes) 3 even (λ six. omega (arith, long)) in
    let back = decode_sized-encode_lower bytes 4 refl (bytes_four c kept) in
    record { there = refl; reads = λ path. rw (not_six, back) refl; plain = leaf deep (encode_lower bytes) }

-- ---- lists

-- each member stands for what is read behind those before it
abbrev pub AllStand : {X : Type 0} → (List X → TreeNode → Result X Refusal) → ℕ → (X → Data) → List X
    → List X → Type 0
AllStand member deep tree before [] = Unit {0}
AllStand member deep tree before (x ∷ xs) =
    Stands (member before) deep (tree x) x × AllStand member deep tree (before ++ x ∷ []) xs

-- the trees of a list are read in order
pub members-read : {X : Type 0} (member : List X → TreeNode → Result X Refusal) (deep : ℕ) (tree : X → Data)
    (path : List ℕ) (before xs : List X) → AllStand member deep tree before xs
    → members_from member path before (items_of (map tree xs)) ≡ Ok (before ++ xs)
members-read member deep tree path before [] stand = ap Ok (sym (append-nil before))
members-read member deep tree path before (x ∷ xs) stand =
    rw (stand.0.reads (member_path path (length before)))
    (members-read member deep tree path (before ++ x ∷ []) xs stand.1
    ∙ ap Ok (append_assoc before (x ∷ []) xs))

pub each-plain : {X : Type 0} (member : List X → TreeNode → Result X Refusal) (deep : ℕ) (tree : X → Data)
    (before xs : List X) → AllStand member deep tree before xs → EachPlain deep tree xs
each-plain member deep tree before [] stand = tt
each-plain member deep tree before (x ∷ xs) stand =
    (stand.0.plain, each-plain member deep tree (before ++ x ∷ []) xs stand.1)

-- members that aren't judged by those before them
pub each-stand : {X : Type 0} (kind : TreeNode → Result X Refusal) (deep : ℕ) (tree : X → Data)
    (before xs : List X) → All (λ x. Stands kind deep (tree x) x) xs
    → AllStand (each kind) deep tree before xs
each-stand kind deep tree before [] all = tt
each-stand kind deep tree before (x ∷ xs) all =
    (all 0 x (omega arith), each-stand kind deep tree (before ++ x ∷ []) xs (λ k d below. all (suc k) d (omega arith)))

-- a list of a right number of members
pub list-stands : {X : Type 0} (least most : ℕ) (member : List X → TreeNode → Result X Refusal) (deep : ℕ)
    (tree : X → Data) (xs : List X) → least ≤ length xs → length xs ≤ most
    → AllStand member deep tree [] xs → Stands (list_of least most member) (deep + 1) (list_tree tree xs) xs
unfolding list_of
list-stands least most member deep tree xs low high stand = record {
  there = refl;
  reads = λ path. rw (items_len-map tree xs, between least (length xs) most low high)
      (members-read member deep tree path [] xs stand);
  plain = plain-list deep tree xs (each-plain member deep tree [] xs stand);
}
