-- Where edges cross the heights of rows: between the columns of their ends, and at no height beside their rows.
use Rattle.std.proofs.Common.{◌≡◌, ◌∙◌, sym, ap, refl, ℕ, ◌+◌, ◌<◌, ◌≤◌, nat_lt, min, max, Bool, true, false, not, ℤ, pos, negsuc, ◌+ℤ◌, ◌-ℤ◌, ◌*ℤ◌, ◌≤ℤ◌, ◌<ℤ◌, int_le, int_lt, arith}
use borrow.Author.Differences.{up, down, product_is}
use Rattle.std.proofs.Math.Nat.{mul-le-mul_left}
use Rattle.std.proofs.lemmas.Int.{ints}
use Rattle.std.proofs.lemmas.Bool.Decides.{nat_tests}
use Rattle.cv_model.specs.declared.span.Span.{Span}
use Rattle.cv_model.specs.Positions.{Position, doubled}
use Rattle.cv_model.specs.Views.{PixelGrid, centre_of}
use Rattle.cv_model.specs.Polygons.{is_low, passes_right, crosses, is_crossed}
use Rattle.cv_geom.specs.declared.runs.Area.{Area}
use Rattle.cv_geom.specs.Falls.{FallsAt}
use Rattle.cv_geom.proofs.ProductLemmas.{mul-le-mulZ, add-mul}
use Rattle.cv_scan.specs.Marks.{IsBetween, CrossesRows}

-- as many times the lesser of two numbers, and as many negative times
mul-left-le : (d x y : ℤ) → x ≤ℤ y → pos 0 ≤ℤ d → (d *ℤ x) ≤ℤ (d *ℤ y)
mul-left-le (pos m) x y less some =
    let sum : up x + down y ≤ up y + down x = omega (arith, ints) in
    let times = mul-le-mul_left m sum in
    omega (arith, ints, product_is (pos m) x, product_is (pos m) y)
mul-left-le (negsuc m) x y less some = absurd (omega (arith, ints))

mul-left-ge : (d x y : ℤ) → x ≤ℤ y → d ≤ℤ pos 0 → (d *ℤ y) ≤ℤ (d *ℤ x)
mul-left-ge (pos m) x y less none =
    let zero : m ≡ 0 = omega (arith, ints) in
    let left : pos m *ℤ y ≡ pos 0 *ℤ y = ap (λ n. pos n *ℤ y) zero in
    let right : pos m *ℤ x ≡ pos 0 *ℤ x = ap (λ n. pos n *ℤ x) zero in
    omega (arith, ints)
mul-left-ge (negsuc m) x y less none =
    let sum : up x + down y ≤ up y + down x = omega (arith, ints) in
    let times = mul-le-mul_left (m + 1) sum in
    omega (arith, ints, product_is (negsuc m) x, product_is (negsuc m) y)

-- ---- tests and facts

less : (x y : ℤ) → x <ℤ y → int_lt x y ≡ true
less x y h = grind (arith, ints)

not-less : (x y : ℤ) → y ≤ℤ x → int_lt x y ≡ false
not-less x y h = grind (arith, ints)

less-is : (x y : ℤ) → int_lt x y ≡ true → x <ℤ y
less-is x y h = grind (arith, ints)

not-less-is : (x y : ℤ) → int_lt x y ≡ false → y ≤ℤ x
not-less-is x y h = grind (arith, ints)

most-is : (x y : ℤ) → int_le x y ≡ true → x ≤ℤ y
most-is x y h = grind (arith, ints)

not-most-is : (x y : ℤ) → int_le x y ≡ false → y <ℤ x
not-most-is x y h = grind (arith, ints)

-- ---- one end of an edge is low, the other isn't

pub ends-apart :
    (p a b : Position) → a.y ≤ℤ b.y → is_low p a ≡ not (is_low p b)
    → (is_low p a ≡ true) × (is_low p b ≡ false)
ends-apart p a b rise apart = pick (int_le a.y p.y) (int_le b.y p.y) refl refl apart
  where
    pick :
        (s t : Bool) → int_le a.y p.y ≡ s → int_le b.y p.y ≡ t → s ≡ not t
        → (int_le a.y p.y ≡ true) × (int_le b.y p.y ≡ false)
    pick true true low_a low_b apart = cc
    pick true false low_a low_b apart = (low_a, low_b)
    pick false true low_a low_b apart =
        let over = not-most-is a.y p.y low_a in let under = most-is b.y p.y low_b in absurd (omega (arith, ints))
    pick false false low_a low_b apart = cc

pub crossed-up :
    (p a b : Position) → is_low p a ≡ true → is_low p b ≡ false → crosses p a b ≡ passes_right p a b
crossed-up p a b low_a low_b = rw (low_a, low_b) refl

-- ---- the columns between those of the ends

-- what lies left of both ends lies left of the line between them
west-passes :
    (p a b : Position) → is_low p a ≡ true → is_low p b ≡ false → int_lt p.x a.x ≡ true → int_lt p.x b.x ≡ true
    → passes_right p a b ≡ true
west-passes p a b low_a low_b left_a left_b =
    pick (most-is a.y p.y low_a) (not-most-is b.y p.y low_b) (less-is p.x a.x left_a) (less-is p.x b.x left_b)
    (int_le a.x b.x) refl
  where
    pick :
        a.y ≤ℤ p.y → p.y <ℤ b.y → p.x <ℤ a.x → p.x <ℤ b.x → (t : Bool) → int_le a.x b.x ≡ t
        → passes_right p a b ≡ true
    pick under over west_a west_b true east =
        let far = mul-le-mulZ (p.x -ℤ a.x) (negsuc 0) (b.y -ℤ a.y) (omega (arith, ints)) (omega (arith, ints)) in
        let way = mul-left-le (b.x -ℤ a.x) (pos 0) (p.y -ℤ a.y) (omega (arith, ints)) (omega (arith, ints, most-is a.x b.x east)) in
        let told : ((p.x -ℤ a.x) *ℤ (b.y -ℤ a.y)) <ℤ ((b.x -ℤ a.x) *ℤ (p.y -ℤ a.y)) = omega (arith, ints) in
        less ((p.x -ℤ a.x) *ℤ (b.y -ℤ a.y)) ((b.x -ℤ a.x) *ℤ (p.y -ℤ a.y)) told
    pick under over west_a west_b false west =
        let back : (b.x -ℤ a.x) ≤ℤ pos 0 = omega (arith, ints, not-most-is a.x b.x west) in
        let far =
        mul-le-mulZ (p.x -ℤ a.x) ((b.x -ℤ a.x) +ℤ negsuc 0) (b.y -ℤ a.y) (omega (arith, ints)) (omega (arith, ints)) in
        let spread = add-mul (b.x -ℤ a.x) (negsuc 0) (b.y -ℤ a.y) in
        let way = mul-left-ge (b.x -ℤ a.x) (p.y -ℤ a.y) (b.y -ℤ a.y) (omega (arith, ints)) back in
        let told : ((p.x -ℤ a.x) *ℤ (b.y -ℤ a.y)) <ℤ ((b.x -ℤ a.x) *ℤ (p.y -ℤ a.y)) = omega (arith, ints) in
        less ((p.x -ℤ a.x) *ℤ (b.y -ℤ a.y)) ((b.x -ℤ a.x) *ℤ (p.y -ℤ a.y)) told

-- what lies left of neither end doesn't lie left of it
east-fails :
    (p a b : Position) → is_low p a ≡ true → is_low p b ≡ false → int_lt p.x a.x ≡ false → int_lt p.x b.x ≡ false
    → passes_right p a b ≡ false
east-fails p a b low_a low_b right_a right_b =
    pick (most-is a.y p.y low_a) (not-most-is b.y p.y low_b) (not-less-is p.x a.x right_a)
    (not-less-is p.x b.x right_b) (int_le a.x b.x) refl
  where
    pick :
        a.y ≤ℤ p.y → p.y <ℤ b.y → a.x ≤ℤ p.x → b.x ≤ℤ p.x → (t : Bool) → int_le a.x b.x ≡ t
        → passes_right p a b ≡ false
    pick under over east_a east_b true east =
        let some : pos 0 ≤ℤ (b.x -ℤ a.x) = omega (arith, ints, most-is a.x b.x east) in
        let way = mul-left-le (b.x -ℤ a.x) (p.y -ℤ a.y) (b.y -ℤ a.y) (omega (arith, ints)) some in
        let far = mul-le-mulZ (b.x -ℤ a.x) (p.x -ℤ a.x) (b.y -ℤ a.y) (omega (arith, ints)) (omega (arith, ints)) in
        let told : ((b.x -ℤ a.x) *ℤ (p.y -ℤ a.y)) ≤ℤ ((p.x -ℤ a.x) *ℤ (b.y -ℤ a.y)) = omega (arith, ints) in
        not-less ((p.x -ℤ a.x) *ℤ (b.y -ℤ a.y)) ((b.x -ℤ a.x) *ℤ (p.y -ℤ a.y)) told
    pick under over east_a east_b false west =
        let back : (b.x -ℤ a.x) ≤ℤ pos 0 = omega (arith, ints, not-most-is a.x b.x west) in
        let way = mul-left-ge (b.x -ℤ a.x) (pos 0) (p.y -ℤ a.y) (omega (arith, ints)) back in
        let far = mul-le-mulZ (pos 0) (p.x -ℤ a.x) (b.y -ℤ a.y) (omega (arith, ints)) (omega (arith, ints)) in
        let told : ((b.x -ℤ a.x) *ℤ (p.y -ℤ a.y)) ≤ℤ ((p.x -ℤ a.x) *ℤ (b.y -ℤ a.y)) = omega (arith, ints) in
        not-less ((p.x -ℤ a.x) *ℤ (b.y -ℤ a.y)) ((b.x -ℤ a.x) *ℤ (p.y -ℤ a.y)) told

-- so where the crossing falls between the columns of the ends, it falls so among all
pub between-found :
    (v : PixelGrid) (row t : ℕ) (a b : Position) (columns between : Span) → IsBetween v a b columns between
    → is_low (centre_of v 0 row) (doubled a) ≡ true → is_low (centre_of v 0 row) (doubled b) ≡ false
    → FallsAt (λ i. is_crossed (centre_of v i row) (a, b)) between.from between.end t
    → FallsAt (λ i. is_crossed (centre_of v i row) (a, b)) columns.from columns.end t
between-found v row t a b columns between is low_a low_b there = record {
  low_in = omega (arith, is.west, there.low_in);
  high_in = omega (arith, is.east, there.high_in);
  falls = λ i from below. pick i from below (nat_lt i between.from) (nat_lt i between.end) refl refl;
}
  where
    pick :
        (i : ℕ) → columns.from ≤ i → i < columns.end → (s u : Bool) → nat_lt i between.from ≡ s
        → nat_lt i between.end ≡ u → is_crossed (centre_of v i row) (a, b) ≡ nat_lt i t
    pick i from below true u west east =
        let left : i < between.from = grind (arith, nat_tests) in
        let low = there.low_in in
        let under : nat_lt i t ≡ true = grind (arith, nat_tests) in
        crossed-up (centre_of v i row) (doubled a) (doubled b) low_a low_b
        ∙ west-passes (centre_of v i row) (doubled a) (doubled b) low_a low_b (is.left_a i from left) (is.left_b i from left)
        ∙ sym under
    pick i from below false true west east = there.falls i (grind (arith, nat_tests)) (grind (arith, nat_tests))
    pick i from below false false west east =
        let right : between.end ≤ i = grind (arith, nat_tests) in
        let high = there.high_in in
        let over : nat_lt i t ≡ false = grind (arith, nat_tests) in
        crossed-up (centre_of v i row) (doubled a) (doubled b) low_a low_b
        ∙ east-fails (centre_of v i row) (doubled a) (doubled b) low_a low_b (is.right_a i right below) (is.right_b i right below)
        ∙ sym over

-- the columns of two points, the lesser first
pub ends-between :
    (v : PixelGrid) (a b : Position) (columns : Span) (k n : ℕ)
    → FallsAt (λ i. int_lt (centre_of v i 0).x (doubled a).x) columns.from columns.end k
    → FallsAt (λ i. int_lt (centre_of v i 0).x (doubled b).x) columns.from columns.end n
    → IsBetween v a b columns (record { from = min k n; end = max k n })
ends-between v a b columns k n of_a of_b =
    let low_a = of_a.low_in in
    let low_b = of_b.low_in in
    let high_a = of_a.high_in in
    let high_b = of_b.high_in in
    record {
      west = omega arith;
      order = omega arith;
      east = omega arith;
      left_a = λ i from left.
          let under : nat_lt i k ≡ true = grind (arith, nat_tests) in
          of_a.falls i from (omega arith) ∙ under;
      left_b = λ i from left.
          let under : nat_lt i n ≡ true = grind (arith, nat_tests) in
          of_b.falls i from (omega arith) ∙ under;
      right_a = λ i right below.
          let over : nat_lt i k ≡ false = grind (arith, nat_tests) in
          of_a.falls i (omega arith) below ∙ over;
      right_b = λ i right below.
          let over : nat_lt i n ≡ false = grind (arith, nat_tests) in
          of_b.falls i (omega arith) below ∙ over;
    }

-- ---- the rows of an edge

-- exactly the lower end is low at each of them
pub rows-low :
    (v : PixelGrid) (low high : Position) (area : Area) (rows : Span) (j : ℕ) → CrossesRows v low high area rows
    → low.y ≤ℤ high.y → rows.from ≤ j → j < rows.end
    → (is_low (centre_of v 0 j) (doubled low) ≡ true) × (is_low (centre_of v 0 j) (doubled high) ≡ false)
rows-low v low high area rows j is rise from below =
    ends-apart (centre_of v 0 j) (doubled low) (doubled high) (omega (arith, ints)) (is.apart j from below)
