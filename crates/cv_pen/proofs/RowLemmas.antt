-- Rows: those that a pen or a marker reaches, and what is added in no others.
use Rattle.std.proofs.Common.{◌≡◌, ◌∙◌, sym, ap, refl, ℕ, suc, ◌+◌, ◌*◌, ◌<◌, ◌≤◌, nat_lt, ◌⊎◌, inl, inr, Bool, true, false, ◌&&◌, ◌||◌, ℤ, pos, negsuc, ◌+ℤ◌, ◌-ℤ◌, ◌*ℤ◌, ◌≤ℤ◌, ◌<ℤ◌, int_le, int_lt, max, unsigned_abs, List, arith}
use Rattle.std.specs.Int.{int_max, int_min}
use Rattle.std.proofs.lemmas.Int.{ints}
use Rattle.std.proofs.lemmas.Nat.{mul-le}
use Rattle.std.proofs.lemmas.Bool.Decides.{nat_tests}
use Rattle.cv_model.specs.declared.shape.Shape.{Shape}
use Rattle.cv_model.specs.declared.shape.Shape.TheVariants.{Square, Diamond, Circle}
use Rattle.cv_model.specs.Positions.{Position, doubled}
use Rattle.cv_model.specs.Pens.{overlaps}
use Rattle.cv_model.specs.Markers.{covers, is_marked}
use Rattle.cv_model.specs.Views.{PixelGrid, centre_of}
use Rattle.cv_geom.specs.declared.runs.Run.{Run}
use Rattle.cv_geom.specs.declared.runs.Area.{Area}
use Rattle.cv_geom.specs.Falls.{FallsAt}
use Rattle.cv_geom.specs.Runs.{is_on_any, IsIn, Adds}
use Rattle.cv_pen.proofs.DotLemmas.{square-is}

-- a test of which a part fails
neither : (d e : Bool) → (d ≡ false) ⊎ (e ≡ false) → (d && e) ≡ false
neither true true (inl failed) = cc
neither true true (inr failed) = cc
neither true false out = refl
neither false e out = refl

-- a stretch that lies wholly behind another doesn't overlap it
pub behind-none :
    (r p a b m : ℤ) → m ≡ int_max a b +ℤ r +ℤ pos 1 → m ≤ℤ p → overlaps r p a b ≡ false
behind-none r p a b m is far =
    neither (int_le (int_min a b) (p +ℤ r)) (int_le (p -ℤ r) (int_max a b)) (inr (over (int_max a b) is))
  where
    over : (z : ℤ) → m ≡ z +ℤ r +ℤ pos 1 → int_le (p -ℤ r) z ≡ false
    over z at = grind (arith, ints)

-- nor one that lies wholly before it
pub before-none : (r p a b m : ℤ) → m ≡ int_min a b -ℤ r → p <ℤ m → overlaps r p a b ≡ false
before-none r p a b m is far =
    neither (int_le (int_min a b) (p +ℤ r)) (int_le (p -ℤ r) (int_max a b)) (inl (under (int_min a b) is))
  where
    under : (z : ℤ) → m ≡ z -ℤ r → int_le z (p +ℤ r) ≡ false
    under z at = grind (arith, ints)

most-is : (x y : ℤ) → int_le x y ≡ true → x ≤ℤ y
most-is x y h = grind (arith, ints)

not-most-is : (x y : ℤ) → int_le x y ≡ false → y <ℤ x
not-most-is x y h = grind (arith, ints)

less-is : (x y : ℤ) → int_lt x y ≡ true → x <ℤ y
less-is x y h = grind (arith, ints)

not-less-is : (x y : ℤ) → int_lt x y ≡ false → y ≤ℤ x
not-less-is x y h = grind (arith, ints)

-- below its number a test that falls holds
held-below : (p : ℕ → Bool) (n t k : ℕ) → FallsAt p 0 n t → k < n → k < t → p k ≡ true
held-below p n t k falls within below =
    let less : nat_lt k t ≡ true = grind (arith, nat_tests) in falls.falls k (omega arith) within ∙ less

-- and from it on it doesn't
failed-from : (p : ℕ → Bool) (n t k : ℕ) → FallsAt p 0 n t → k < n → t ≤ k → p k ≡ false
failed-from p n t k falls within from =
    let more : nat_lt k t ≡ false = grind (arith, nat_tests) in falls.falls k (omega arith) within ∙ more

-- the rows that lie wholly below a stretch, and those that lie above it
pub rows-out :
    (v : PixelGrid) (r a b high low : ℤ) (first end j : ℕ) → high ≡ int_max a b +ℤ r +ℤ pos 1
    → low ≡ int_min a b -ℤ r → FallsAt (λ k. int_le high (centre_of v 0 k).y) 0 v.h first
    → FallsAt (λ k. int_le low (centre_of v 0 k).y) 0 v.h end → j < v.h → (j < first) ⊎ (end ≤ j)
    → overlaps r (centre_of v 0 j).y a b ≡ false
rows-out v r a b high low first end j high_is low_is above down within (inl before) =
    behind-none r (centre_of v 0 j).y a b high high_is
    (most-is high (centre_of v 0 j).y (held-below (λ k. int_le high (centre_of v 0 k).y) v.h first j above within before))
rows-out v r a b high low first end j high_is low_is above down within (inr behind) =
    before-none r (centre_of v 0 j).y a b low low_is
    (not-most-is low (centre_of v 0 j).y (failed-from (λ k. int_le low (centre_of v 0 k).y) v.h end j down within behind))

-- the columns that lie wholly before it, and those behind it
pub columns-out :
    (v : PixelGrid) (r a b high low : ℤ) (first end i : ℕ) → high ≡ int_max a b +ℤ r +ℤ pos 1
    → low ≡ int_min a b -ℤ r → FallsAt (λ k. int_lt (centre_of v k 0).x low) 0 v.w first
    → FallsAt (λ k. int_lt (centre_of v k 0).x high) 0 v.w end → i < v.w → (i < first) ⊎ (end ≤ i)
    → overlaps r (centre_of v i 0).x a b ≡ false
columns-out v r a b high low first end i high_is low_is west east within (inl before) =
    before-none r (centre_of v i 0).x a b low low_is
    (less-is (centre_of v i 0).x low (held-below (λ k. int_lt (centre_of v k 0).x low) v.w first i west within before))
columns-out v r a b high low first end i high_is low_is west east within (inr behind) =
    behind-none r (centre_of v i 0).x a b high high_is
    (not-less-is (centre_of v i 0).x high (failed-from (λ k. int_lt (centre_of v k 0).x high) v.w end i east within behind))

-- what lies in neither part of a span lies outside both
pub parted :
    (low high from end first last k : ℕ) → ((k : ℕ) → low ≤ k → k < from → k < first)
    → ((k : ℕ) → k < high → end ≤ k → last ≤ k) → low ≤ k → k < high → (k < from) ⊎ (end ≤ k)
    → (k < first) ⊎ (last ≤ k)
parted low high from end first last k before behind west east (inl less) = inl (before k west less)
parted low high from end first last k before behind west east (inr more) = inr (behind k east more)

-- ---- what is covered by a marker lies at its height, and in its width

square-order : (m n : ℕ) → n < m → n * n < m * m
square-order m n less =
    let more = mul-le (suc n) (suc n) m m less less in
    let one : suc n * suc n ≡ n * n + 2 * n + 1 = grind arith in
    omega arith

covers-height : (shape : Shape) (n : ℕ) (dx dy : ℤ) → covers shape (pos n) dx dy ≡ true → unsigned_abs dy ≤ n
covers-height Square n dx dy held = grind (arith, ints)
covers-height Diamond n dx dy held = grind (arith, ints)
covers-height Circle n dx dy held =
    let across = square-is dx in
    let down = square-is dy in
    let whole = square-is (pos n) in
    let sum : (dx *ℤ dx +ℤ dy *ℤ dy) ≤ℤ (pos n *ℤ pos n) = grind (arith, ints) in
    let parts : unsigned_abs dy * unsigned_abs dy ≤ n * n = omega (arith, ints) in
    pick parts (grind arith)
  where
    pick : unsigned_abs dy * unsigned_abs dy ≤ n * n → (unsigned_abs dy ≤ n) ⊎ (n < unsigned_abs dy) → unsigned_abs dy ≤ n
    pick parts (inl most) = most
    pick parts (inr less) = absurd (let more = square-order (unsigned_abs dy) n less in omega arith)

covers-turned : (shape : Shape) (r dx dy : ℤ) → covers shape r dx dy ≡ true → covers shape r dy dx ≡ true
covers-turned Square r dx dy held = turned (unsigned_abs dx) (unsigned_abs dy) held
  where
    turned : (m n : ℕ) → int_le (pos (max m n)) r ≡ true → int_le (pos (max n m)) r ≡ true
    turned m n held = let same : max n m ≡ max m n = omega arith in rw same held
covers-turned Diamond r dx dy held =
    let same : unsigned_abs dy + unsigned_abs dx ≡ unsigned_abs dx + unsigned_abs dy = omega arith in rw same held
covers-turned Circle r dx dy held = turned (dx *ℤ dx) (dy *ℤ dy) held
  where
    turned : (x y : ℤ) → int_le (x +ℤ y) (r *ℤ r) ≡ true → int_le (y +ℤ x) (r *ℤ r) ≡ true
    turned x y held = let same : y +ℤ x ≡ x +ℤ y = omega (arith, ints) in rw same held

near-overlaps : (n : ℕ) (p q : ℤ) → unsigned_abs (p -ℤ q) ≤ n → overlaps (pos n) p q q ≡ true
near-overlaps n p q most = grind (arith, ints)

-- where their heights don't overlap a marker covers nothing
pub marked-none :
    (shape : Shape) (r : ℤ) (p at : Position) → pos 0 ≤ℤ r → overlaps r p.y (doubled at).y (doubled at).y ≡ false
    → is_marked shape r p at ≡ false
marked-none shape (negsuc n) p at some level = absurd (omega (arith, ints))
marked-none shape (pos n) p at some level = pick (is_marked shape (pos n) p at) refl
  where
    pick : (t : Bool) → is_marked shape (pos n) p at ≡ t → t ≡ false
    pick true held =
        let most = covers-height shape n (p.x -ℤ (doubled at).x) (p.y -ℤ (doubled at).y) held in
        let there = near-overlaps n p.y (doubled at).y most in
        cc
    pick false held = refl

-- nor where their widths don't
pub marked-beside :
    (shape : Shape) (r : ℤ) (p at : Position) → pos 0 ≤ℤ r → overlaps r p.x (doubled at).x (doubled at).x ≡ false
    → is_marked shape r p at ≡ false
marked-beside shape (negsuc n) p at some level = absurd (omega (arith, ints))
marked-beside shape (pos n) p at some level = pick (is_marked shape (pos n) p at) refl
  where
    pick : (t : Bool) → is_marked shape (pos n) p at ≡ t → t ≡ false
    pick true held =
        let turned = covers-turned shape (pos n) (p.x -ℤ (doubled at).x) (p.y -ℤ (doubled at).y) held in
        let most = covers-height shape n (p.y -ℤ (doubled at).y) (p.x -ℤ (doubled at).x) turned in
        let there = near-overlaps n p.x (doubled at).x most in
        cc
    pick false held = refl

-- ---- what is added in some rows alone

or-none : (b : Bool) → b ≡ (b || false)
or-none true = refl
or-none false = refl

-- nothing is added before the first row where something is
pub adds-before :
    (test : ℕ → ℕ → Bool) (area : Area) (row : ℕ) (runs : List Run)
    → ((i j : ℕ) → IsIn area i j → j < row → test i j ≡ false)
    → Adds (λ i j. nat_lt j row && test i j) area runs runs
adds-before test area row runs none = record {
  within = λ all. all;
  covered = λ i j here. pick i j here (nat_lt j row) refl;
}
  where
    pick : (i j : ℕ) → IsIn area i j → (t : Bool) → nat_lt j row ≡ t → is_on_any i j runs ≡ (is_on_any i j runs || (t && test i j))
    pick i j here true less =
        or-none (is_on_any i j runs) ∙ ap (λ b. is_on_any i j runs || b) (sym (none i j here (grind (arith, nat_tests))))
    pick i j here false less = or-none (is_on_any i j runs)

-- nor behind the last
pub adds-behind :
    (test : ℕ → ℕ → Bool) (area : Area) (row : ℕ) (old new : List Run)
    → ((i j : ℕ) → IsIn area i j → row ≤ j → test i j ≡ false)
    → Adds (λ i j. nat_lt j row && test i j) area old new → Adds test area old new
adds-behind test area row old new none told = record {
  within = told.within;
  covered = λ i j here. told.covered i j here ∙ ap (λ b. is_on_any i j old || b) (pick i j here (nat_lt j row) refl);
}
  where
    pick : (i j : ℕ) → IsIn area i j → (t : Bool) → nat_lt j row ≡ t → (t && test i j) ≡ test i j
    pick i j here true less = refl
    pick i j here false less = sym (none i j here (grind (arith, nat_tests)))
