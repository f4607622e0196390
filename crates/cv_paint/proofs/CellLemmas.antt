-- The steps of a grid, and the columns of a view whose centres lie in the same one.
use Rattle.std.proofs.Common.{◌≡◌, ◌∙◌, ap, sym, refl, ℕ, ◌+◌, ◌*◌, ◌/◌, ◌<◌, ◌≤◌, nat_lt, Bool, true, false, if◌then◌else◌}
use Rattle.std.proofs.Common.{ℤ, pos, negsuc, ◌+ℤ◌, ◌-ℤ◌, ◌≤ℤ◌, ◌<ℤ◌, int_lt, Option, Some, None, arith}
use Rattle.std.proofs.Math.Nat.{div-div-eq-div-mul, div-mul-le_self, lt-div-mul-add, mul-le-mul_right, le_trans}
use Rattle.std.proofs.lemmas.Nat.{le-div}
use Rattle.std.proofs.lemmas.Int.{ints}
use Rattle.std.proofs.lemmas.Bool.Decides.{nat_tests}
use Rattle.cv_model.specs.declared.style.Style.{Style}
use Rattle.cv_model.specs.declared.style.Style.TheVariants.{Single, Categorised, Graduated, Ramp}
use Rattle.cv_model.specs.Grids.{CellGrid, step_at, cell_at}
use Rattle.cv_model.specs.Pictures.{cell_colour}
use Rattle.cv_model.specs.Positions.{Position}
use Rattle.cv_model.specs.Views.{PixelGrid, centre_of, natural, rise}
use Rattle.cv_geom.specs.Falls.{FallsAt}
use Rattle.cv_geom.proofs.CentreLemmas.{centres-rise}
use Rattle.cv_geom.proofs.PlaceLemmas.{quotient-is}
use Rattle.cv_paint.specs.Cells.{cell_pixel, cell_between, colour_by, column_under, LieTogether}

-- a half divided is divided by the double
pub by_halves : (n d : ℕ) → n / 2 / d ≡ n / (2 * d)
by_halves n d = div-div-eq-div-mul n 2 d

-- a style colours what a cell has
pub colour_is : (style : Style) (grid : CellGrid) (p : Position) → colour_by style (cell_at grid p) ≡ cell_colour style grid p
colour_is (Single symbol) grid p = refl
colour_is (Categorised field classes fallback) grid p = refl
colour_is (Graduated field classes) grid p = refl
colour_is (Ramp ramp) grid p = refl

-- how far one number lies above another that isn't greater
natural_is : (z : ℤ) → pos 0 ≤ℤ z → pos (natural z) ≡ z
natural_is (pos n) some = refl
natural_is (negsuc n) some = absurd (omega (arith, ints))

rise_is : (a b : ℤ) → a ≤ℤ b → pos (rise a b) ≡ b -ℤ a
rise_is a b less = natural_is (b -ℤ a) (omega (arith, ints))

-- a step that is told, from its tests
told : (out within : Bool) (q c : ℕ) → (if out then None else if within then Some q else None) ≡ Some c
    → (out ≡ false) × (within ≡ true) × (q ≡ c)
told true within q c is = absurd cc
told false true q c is = (refl, refl, cc)
told false false q c is = absurd cc

untold : (out within : Bool) (q : ℕ) → (if out then None else if within then Some q else None) ≡ None
    → out ≡ false → within ≡ false
untold true within q is out = absurd cc
untold false true q is out = absurd cc
untold false false q is out = refl

-- what lies in a step from the start on
step_is : (start : ℤ) (length n c : ℕ) (z : ℤ) → start ≤ℤ z → rise start z / length ≡ c → c < n
    → step_at start length n z ≡ Some c
step_is start length n c z behind is less =
    let inside : int_lt z start ≡ false = grind (arith, ints) in
    let below : nat_lt (rise start z / length) n ≡ true = rw is (grind (arith, nat_tests)) in
    simp (inside, below) (ap Some is)

-- what lies before the start lies in no step
pub step_before : (start : ℤ) (length n : ℕ) (z : ℤ) → z <ℤ start → step_at start length n z ≡ None
step_before start length n z before =
    let out : int_lt z start ≡ true = grind (arith, ints) in simp out refl

-- a test that fails, and one that holds
not_before : (z start : ℤ) → int_lt z start ≡ false → start ≤ℤ z
not_before z start is = grind (arith, ints)

is_less : (a b : ℕ) → nat_lt a b ≡ true → a < b
is_less a b is = grind (arith, nat_tests)

not_less : (a b : ℕ) → nat_lt a b ≡ false → b ≤ a
not_less a b is = grind (arith, nat_tests)

-- what lies behind a place in a step, and before the next border, lies in the same step
pub step_same : (start : ℤ) (length n c : ℕ) (z y : ℤ) → step_at start length n z ≡ Some c
    → z ≤ℤ y → y <ℤ (start +ℤ pos ((c + 1) * length)) → step_at start length n y ≡ Some c
step_same start length n c z y is less before =
    let t = told (int_lt z start) (nat_lt (rise start z / length) n) (rise start z / length) c is in
    let behind : start ≤ℤ z = not_before z start t.0 in
    let few : c < n = rw t.2 at (is_less (rise start z / length) n t.1) in
    let low : c * length ≤ rise start z = rw t.2 at (div-mul-le_self (rise start z) length) in
    let wide : (c + 1) * length ≡ c * length + length = grind arith in
    let far : pos (rise start z) ≡ z -ℤ start = rise_is start z behind in
    let farther : pos (rise start y) ≡ y -ℤ start = rise_is start y (omega (arith, ints)) in
    step_is start length n c y (omega (arith, ints))
    (quotient-is (rise start y) length c (omega (arith, ints)) (omega (arith, ints))) few

-- what lies in a step lies before its end
step_ends : (start : ℤ) (length n c : ℕ) (z : ℤ) → 0 < length → step_at start length n z ≡ Some c
    → z <ℤ (start +ℤ pos ((c + 1) * length))
step_ends start length n c z some is =
    let t = told (int_lt z start) (nat_lt (rise start z / length) n) (rise start z / length) c is in
    let behind : start ≤ℤ z = not_before z start t.0 in
    let high : rise start z < c * length + length = rw t.2 at (lt-div-mul-add {a = rise start z} {b = length} some) in
    let wide : (c + 1) * length ≡ c * length + length = grind arith in
    let far : pos (rise start z) ≡ z -ℤ start = rise_is start z behind in omega (arith, ints)

-- what lies behind a place behind all steps lies in none
pub step_behind : (start : ℤ) (length n : ℕ) (z y : ℤ) → 0 < length → step_at start length n z ≡ None
    → start ≤ℤ z → z ≤ℤ y → step_at start length n y ≡ None
step_behind start length n z y some is from less =
    let inside : int_lt z start ≡ false = grind (arith, ints) in
    let out = untold (int_lt z start) (nat_lt (rise start z / length) n) (rise start z / length) is inside in
    let all : n ≤ rise start z / length = not_less (rise start z / length) n out in
    let far : pos (rise start z) ≡ z -ℤ start = rise_is start z from in
    let farther : pos (rise start y) ≡ y -ℤ start = rise_is start y (omega (arith, ints)) in
    let longer : rise start z ≤ rise start y = omega (arith, ints) in
    let more : n ≤ rise start y / length =
    le-div n (rise start y) length some (le_trans (mul-le-mul_right length all)
    (le_trans (div-mul-le_self (rise start z) length) longer)) in
    let beyond : nat_lt (rise start y / length) n ≡ false = grind (arith, nat_tests) in
    none_if (int_lt y start) (if nat_lt (rise start y / length) n then Some (rise start y / length) else None)
    (simp beyond refl)
  where
    none_if : (out : Bool) (x : Option ℕ) → x ≡ None → (if out then None else x) ≡ None
    none_if true x is = refl
    none_if false x is = is

-- the columns of a view up to a border, where those from one on are in the same step as it
up_to_border : (g : CellGrid) (view : PixelGrid) (i end : ℕ) (border : ℤ) → pos 1 ≤ℤ view.u → i < view.w
    → (centre_of view i 0).x <ℤ border → FallsAt (λ k. int_lt (centre_of view k 0).x border) 0 view.w end
    → ((k : ℕ) → i ≤ k → (centre_of view k 0).x <ℤ border → column_under g view k ≡ column_under g view i)
    → LieTogether g view i end
up_to_border g view i end border unit less first falls same = record {
  later =
      let left : int_lt (centre_of view i 0).x border ≡ true = grind (arith, ints) in
      is_less i end (sym (falls.falls i (omega arith) less) ∙ left);
  within = falls.high_in;
  same = λ k low high.
      let most : end ≤ view.w = falls.high_in in
      let before : nat_lt k end ≡ true = grind (arith, nat_tests) in
      same k low (lies_before (centre_of view k 0).x border (falls.falls k (omega arith) (omega arith) ∙ before));
}
  where
    lies_before : (a b : ℤ) → int_lt a b ≡ true → a <ℤ b
    lies_before a b is = grind (arith, ints)

-- the columns of a view up to a border lie in the cells of one that is before it
pub together_in : (g : CellGrid) (view : PixelGrid) (i end c : ℕ) (border : ℤ) → pos 1 ≤ℤ view.u → 1 ≤ g.dx
    → i < view.w → Some c ≡ column_under g view i → border ≡ g.left2 +ℤ pos (2 * ((c + 1) * g.dx))
    → FallsAt (λ k. int_lt (centre_of view k 0).x border) 0 view.w end → LieTogether g view i end
together_in g view i end c border unit some less is at falls =
    let wide : (c + 1) * (2 * g.dx) ≡ 2 * ((c + 1) * g.dx) = grind arith in
    let ends : border ≡ g.left2 +ℤ pos ((c + 1) * (2 * g.dx)) = at ∙ ap (λ n. g.left2 +ℤ pos n) (sym wide) in
    let x = λ (k : ℕ). (centre_of view k 0).x in
    let first : x i <ℤ border = rw (sym ends) at (step_ends g.left2 (2 * g.dx) g.cols c (x i) (omega arith) (sym is)) in
    up_to_border g view i end border unit less first falls (λ k from before.
    step_same g.left2 (2 * g.dx) g.cols c (x i) (x k) (sym is) (centres-rise view i k 0 unit from) (rw (sym ends) before) ∙ is)

-- those up to the western border lie left of all cells
pub together_before : (g : CellGrid) (view : PixelGrid) (i end : ℕ) (border : ℤ) → pos 1 ≤ℤ view.u → i < view.w
    → (centre_of view i 0).x <ℤ g.left2 → border ≡ g.left2
    → FallsAt (λ k. int_lt (centre_of view k 0).x border) 0 view.w end → LieTogether g view i end
together_before g view i end border unit less before ends falls =
    let x = λ (k : ℕ). (centre_of view k 0).x in
    let outside = λ (k : ℕ) (left : x k <ℤ border). step_before g.left2 (2 * g.dx) g.cols (x k) (rw ends at left) in
    let first : x i <ℤ border = rw (sym ends) at before in
    up_to_border g view i end border unit less first falls (λ k from left. outside k left ∙ sym (outside i first))

-- and all behind one right of all cells lie there
pub together_behind : (g : CellGrid) (view : PixelGrid) (i : ℕ) → pos 1 ≤ℤ view.u → 1 ≤ g.dx → i < view.w
    → None ≡ column_under g view i → g.left2 ≤ℤ (centre_of view i 0).x → LieTogether g view i view.w
together_behind g view i unit some less is from = record {
  later = less;
  within = omega arith;
  same = λ k low high.
      let right = centres-rise view i k 0 unit low in
      step_behind g.left2 (2 * g.dx) g.cols (centre_of view i 0).x (centre_of view k 0).x (omega arith) (sym is) from right
      ∙ is;
}

-- a pixel has the colour of the cell in the column of cells under its column and in the row of cells beside its row
pub row_pixel : (style : Style) (g : CellGrid) (view : PixelGrid) (i j : ℕ)
    → cell_pixel style g view i j
    ≡ colour_by style (cell_between g (column_under g view i)
    (step_at g.bottom2 (2 * g.dy) g.rows (centre_of view 0 j).y))
unfolding cell_at
row_pixel style g view i j = sym (colour_is style g (centre_of view i j))

-- pixels that lie together have one colour
pub together_coloured : (style : Style) (g : CellGrid) (view : PixelGrid) (from end k j : ℕ)
    → LieTogether g view from end → from ≤ k → k < end
    → cell_pixel style g view k j ≡ cell_pixel style g view from j
together_coloured style g view from end k j lie low high =
    row_pixel style g view k j
    ∙ ap (λ (column : Option ℕ). colour_by style (cell_between g column
    (step_at g.bottom2 (2 * g.dy) g.rows (centre_of view 0 j).y))) (lie.same k low high)
    ∙ sym (row_pixel style g view from j)
