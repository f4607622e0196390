-- Canvases: their extents, read and shown.
use Rattle.std.proofs.Common.{◌≡◌, ℕ, Bool, true, false, List, Option, Some, Result, Ok, Err, [], length}
use Rattle.std.proofs.Common.{refl, sym, ap, ◌∙◌, nat_eq, None, ℤ, w64, rules, IfSome, is_ok, if◌then◌else◌}
use Rattle.std.proofs.Common.{arith}
use Rattle.std.proofs.lemmas.Bool.Decides.{nat_tests}
use Rattle.std.proofs.lemmas.Int.{ints, to_z-of_z}
use mir.Val.{to_z, of_z}
use Rattle.serde_json.specs.Find.{as_array}
use Rattle.serde_json.specs.View.{items_view}
use Rattle.serde_json.specs.declared.value.Value.{Value}
use Rattle.serde_json.proofs.Views.{items_len-items_view}
use Rattle.cv_geom.specs.Views.{is_size, is_spread, is_in_range, view_of}
use Rattle.cv_geom.specs.declared.views.ViewError.{ViewError}
use Rattle.cv_geom.specs.declared.views.ViewError.TheVariants.{Size, Empty, Range}
use Rattle.cv_geom.proofs.CauseLemmas.{view_in_range}
use Rattle.cv_model.specs.Positions.{Rectangle, IsCoordinate}
use Rattle.cv_model.specs.ProjectFiles.{IsSize, IsShown}
use Rattle.cv_model.specs.Views.{PixelGrid, grid_of}
use Rattle.cv_project.specs.declared.refusal.Refusal.{Refusal}
use Rattle.cv_project.specs.declared.refusal.Refusal.TheVariants.{WrongKind}
use Rattle.cv_project.specs.Answers.{◌>>=◌}
use Rattle.cv_project.specs.Canvases.{extent_of, rectangle_of, can_show}
use Rattle.cv_project.specs.Kinds.{coordinate_of}
use Rattle.cv_project.specs.Lists.{members_from, each}
use Rattle.cv_project.specs.Nodes.{TreeNode}
use Rattle.cv_project.proofs.LayerLemmas.{not_equal}

-- four members are read as numbers
pub extent_of-four : (node : TreeNode) (vs : List Value) → as_array node.value ≡ Some (items_view vs)
    → length vs ≡ 4
    → extent_of node ≡ (members_from (each coordinate_of) node.path [] (items_view vs) >>= λ zs. Ok
    (rectangle_of zs))
unfolding extent_of
extent_of-four node vs found four = rw (found, items_len-items_view vs, four) refl

-- any other number of them is another kind of value
pub extent_of-other : (node : TreeNode) (vs : List Value) → as_array node.value ≡ Some (items_view vs)
    → (length vs ≡ 4 → ⊥)
    → extent_of node ≡ Err (WrongKind node.path)
unfolding extent_of
extent_of-other node vs found other = rw (found, items_len-items_view vs, not_equal (length vs) 4 other) refl

-- a coordinate is a number of 64 bits
pub to_z-coordinate : (z : ℤ) → IsCoordinate z → to_z w64 (of_z w64 z) ≡ z
to_z-coordinate z within = to_z-of_z w64 z (search (rules, arith, ints))

-- a size that passes the test is one
pub is_size-holds : (w h : ℕ) → is_size w h ≡ true → IsSize w h
is_size-holds w h passes = record {
  wide = grind (arith, nat_tests);
  high = grind (arith, nat_tests);
  most_wide = grind (arith, nat_tests);
  most_high = grind (arith, nat_tests);
  most = grind (arith, nat_tests);
}

-- a view is there only where all tests are passed
all_passed : (size spread range : Bool) (v : PixelGrid)
    → is_ok (if size then (if spread then (if range
    then Ok v else Err Range) else Err Empty) else Err Size) ≡ true
    → (size ≡ true) × (spread ≡ true) × (range ≡ true)
all_passed true true true v passes = (refl, refl, refl)
all_passed true true false v passes = cc
all_passed true false range v passes = cc
all_passed false spread range v passes = cc

-- an extent with a view is one that can be shown
pub view_of-shown : (w h : ℕ) (e : Rectangle) → is_ok (view_of e w h) ≡ true → IsShown w h e
view_of-shown w h e passes =
    let passed = all_passed (is_size w h) (is_spread e) (is_in_range (grid_of e w h))
    (grid_of e w h) passes in
    let size = is_size-holds w h passed.0 in
    let spread = passed.1 in
    record {
      wide = grind (arith, ints);
      high = grind (arith, ints);
      view = view_in_range (grid_of e w h) (omega (arith, ints)) size.wide size.high passed.2;
    }

-- a canvas that passes the test shows its extent
pub can_show-shown : (w h : ℕ) (extent : Option Rectangle) → can_show w h extent ≡ true
    → IfSome extent (IsShown w h)
can_show-shown w h None passes = tt
can_show-shown w h (Some e) passes = view_of-shown w h e passes
