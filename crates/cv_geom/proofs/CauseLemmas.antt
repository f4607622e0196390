-- Why there is no view: what each of the tests decides, and the first that fails.
use Rattle.std.proofs.Common.{◌≡◌, ℕ, ◌≤◌, ◌&&◌, ◌↔◌, ◌⊎◌, inl, inr, Bool, true, false, MatchBool, if◌then◌else◌, Result, Ok, Err, ℤ, pos, ◌≤ℤ◌, refl, arith}
use Rattle.std.proofs.lemmas.Int.{ints}
use Rattle.std.proofs.lemmas.Bool.Decides.{nat_tests, when_true}
use Rattle.cv_model.specs.Positions.{Rectangle, IsDoubled}
use Rattle.cv_model.specs.Views.{PixelGrid, IsView, grid_of}
use Rattle.cv_geom.specs.declared.views.ViewError.{ViewError}
use Rattle.cv_geom.specs.declared.views.ViewError.TheVariants.{Size, Empty, Range}
use Rattle.cv_geom.specs.Views.{is_size, is_spread, is_doubled, is_in_range, right_of, bottom_of, kept, view_of, IsSize, IsNoSize, IsSpread, IsEmpty, IsFar, LeavesRange}

-- a test is true where P holds and false where Q does, and these exclude each other
pub record Decided (test : Bool) (P Q : Type 0) : Type 0 where
  pub told : MatchBool test P Q
  pub apart : P → Q → ⊥

-- what a test tells, from the two ways that it can come out
told_by : {P Q : Type 0} (test : Bool) → ((test ≡ true) × P) ⊎ ((test ≡ false) × Q) → MatchBool test P Q
told_by true (inl s) = s.1
told_by true (inr s) = cc
told_by false (inl s) = cc
told_by false (inr s) = s.1

-- both of two tests hold, or one fails
both :
    {P P' Q Q' : Type 0} (a b : Bool) → Decided a P P' → Decided b Q Q' → Decided (a && b) (P × Q) (P' ⊎ Q')
both {P = P} {P' = P'} {Q = Q} {Q' = Q'} a b p q = record { told = told a b p.told q.told; apart = apart }
  where
    told : (a b : Bool) → MatchBool a P P' → MatchBool b Q Q' → MatchBool (a && b) (P × Q) (P' ⊎ Q')
    told true true x y = (x, y)
    told true false x y = inr y
    told false b x y = inl x

    apart : P × Q → P' ⊎ Q' → ⊥
    apart h (inl x) = p.apart h.0 x
    apart h (inr y) = q.apart h.1 y

-- what the test of a size tells
size_decided : (w h : ℕ) → Decided (is_size w h) (IsSize w h) (IsNoSize w h)
size_decided w h =
    record { told = told_by (is_size w h) (grind (arith, nat_tests)); apart = λ good bad. grind arith }

-- what the test of an extent tells
spread_decided : (e : Rectangle) → Decided (is_spread e) (IsSpread e) (IsEmpty e)
spread_decided e =
    record { told = told_by (is_spread e) (grind (arith, ints)); apart = λ spread empty. grind (arith, ints) }

-- what the test of a coordinate tells
far_decided : (z : ℤ) → Decided (is_doubled z) (IsDoubled z) (IsFar z)
far_decided z =
    record { told = told_by (is_doubled z) (grind (arith, ints)); apart = λ near far. grind (arith, ints) }

-- all edges of a grid are in range
abbrev pub StaysInRange : PixelGrid → Type 0
StaysInRange v = (IsDoubled v.lx2 × IsDoubled (right_of v)) × (IsDoubled v.ty2 × IsDoubled (bottom_of v))

-- what the test of a grid tells
pub range_decided : (v : PixelGrid) → Decided (is_in_range v) (StaysInRange v) (LeavesRange v)
range_decided v =
    let across = both (is_doubled v.lx2) (is_doubled (right_of v)) (far_decided v.lx2) (far_decided (right_of v)) in
    let down = both (is_doubled v.ty2) (is_doubled (bottom_of v)) (far_decided v.ty2) (far_decided (bottom_of v)) in
    both (is_doubled v.lx2 && is_doubled (right_of v)) (is_doubled v.ty2 && is_doubled (bottom_of v)) across down

-- a grid whose edges are in range is a view's
pub view_in_range : (v : PixelGrid) → pos 1 ≤ℤ v.u → 1 ≤ v.w → 1 ≤ v.h → is_in_range v ≡ true → IsView v
view_in_range v unit wide high test =
    let stays = when_true (StaysInRange v) (LeavesRange v) test (range_decided v).told in
    record {
      unit = unit;
      wide = wide;
      high = high;
      left = stays.0.0;
      right = stays.0.1;
      top = stays.1.0;
      bottom = stays.1.1;
    }

-- the first of three tests that fails gives the cause
abbrev chosen : Bool → Bool → Bool → PixelGrid → Result PixelGrid ViewError
chosen s a r v = if s then (if a then (if r then Ok v else Err Range) else Err Empty) else Err Size

-- a size is refused where its test fails
size_first :
    {S S' : Type 0} (s a r : Bool) (v : PixelGrid) → Decided s S S' → (chosen s a r v ≡ Err Size) ↔ S'
size_first false a r v size = (λ _. size.told, λ _. refl)
size_first true false r v size = (λ e. cc, λ bad. absurd (size.apart size.told bad))
size_first true true false v size = (λ e. cc, λ bad. absurd (size.apart size.told bad))
size_first true true true v size = (λ e. cc, λ bad. absurd (size.apart size.told bad))

-- an extent is refused where its test fails and the size is right
empty_next :
    {S S' A A' : Type 0} (s a r : Bool) (v : PixelGrid) → Decided s S S' → Decided a A A'
    → (chosen s a r v ≡ Err Empty) ↔ (S × A')
empty_next false a r v size area = (λ e. cc, λ h. absurd (size.apart h.0 size.told))
empty_next true false r v size area = (λ _. (size.told, area.told), λ _. refl)
empty_next true true false v size area = (λ e. cc, λ h. absurd (area.apart area.told h.1))
empty_next true true true v size area = (λ e. cc, λ h. absurd (area.apart area.told h.1))

-- a range is refused where its test fails and the two tests before hold
range_last :
    {S S' A A' R R' : Type 0} (s a r : Bool) (v : PixelGrid) → Decided s S S' → Decided a A A'
    → Decided r R R' → (chosen s a r v ≡ Err Range) ↔ (S × (A × R'))
range_last false a r v size area range = (λ e. cc, λ h. absurd (size.apart h.0 size.told))
range_last true false r v size area range = (λ e. cc, λ h. absurd (area.apart h.1.0 area.told))
range_last true true false v size area range = (λ _. (size.told, (area.told, range.told)), λ _. refl)
range_last true true true v size area range = (λ e. cc, λ h. absurd (range.apart range.told h.1.1))

-- a view is refused for its size exactly where it has none that a view may have
pub size_cause : (e : Rectangle) (w h : ℕ) → (view_of e w h ≡ Err Size) ↔ IsNoSize w h
size_cause e w h =
    size_first (is_size w h) (is_spread e) (is_in_range (grid_of e w h)) (grid_of e w h) (size_decided w h)

-- a view is refused for its extent exactly where the size is right and the extent is empty
pub empty_cause : (e : Rectangle) (w h : ℕ) → (view_of e w h ≡ Err Empty) ↔ (IsSize w h × IsEmpty e)
empty_cause e w h =
    let v = grid_of e w h in
    empty_next (is_size w h) (is_spread e) (is_in_range v) v (size_decided w h) (spread_decided e)

-- a view is refused for its range exactly where size and extent are right and an edge lies beyond
pub range_cause :
    (e : Rectangle) (w h : ℕ)
    → (view_of e w h ≡ Err Range) ↔ (IsSize w h × (IsSpread e × LeavesRange (grid_of e w h)))
range_cause e w h =
    let v = grid_of e w h in
    let tests = range_decided v in
    range_last (is_size w h) (is_spread e) (is_in_range v) v (size_decided w h) (spread_decided e) tests

-- what the test of a range decides
kept_by :
    {R R' : Type 0} (r : Bool) (v : PixelGrid) → Decided r R R' → (chosen true true r v ≡ Err Range) ↔ R'
kept_by false v range = (λ _. range.told, λ _. refl)
kept_by true v range = (λ e. cc, λ far. absurd (range.apart range.told far))

-- a grid is refused for its range alone
pub kept_cause : (v : PixelGrid) → (kept v ≡ Err Range) ↔ LeavesRange v
kept_cause v = kept_by (is_in_range v) v (range_decided v)

-- where all three tests hold
all_passed :
    {S S' A A' : Type 0} (s a r : Bool) (v w : PixelGrid) → Decided s S S' → Decided a A A'
    → chosen s a r v ≡ Ok w → S × (A × (v ≡ w))
all_passed true true true v w size area same = (size.told, (area.told, cc))
all_passed true true false v w size area same = cc
all_passed true false r v w size area same = cc
all_passed false a r v w size area same = cc

-- what there is a view of, and which
pub view_found :
    (e : Rectangle) (w h : ℕ) (v : PixelGrid) → view_of e w h ≡ Ok v
    → IsSize w h × (IsSpread e × (grid_of e w h ≡ v))
view_found e w h v found =
    let grid = grid_of e w h in
    all_passed (is_size w h) (is_spread e) (is_in_range grid) grid v (size_decided w h) (spread_decided e) found

-- a grid that was kept is the one asked for
pub kept_same : (v w : PixelGrid) → kept v ≡ Ok w → v ≡ w
kept_same v w same = by (is_in_range v) same
  where
    by : (r : Bool) → chosen true true r v ≡ Ok w → v ≡ w
    by true same = cc
    by false same = cc
