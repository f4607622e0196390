-- Terms: what the place of a crossing tells of a row, and of the row below.
use Rattle.std.proofs.Common.{◌≡◌, ◌∙◌, sym, ap, refl, ℕ, zero, suc, ◌+◌, ◌*◌, ◌^◌, ◌<◌, ◌≤◌, unsigned_abs, nat_lt, Bool, true, false, ℤ, pos, negsuc, neg_ℤ, ◌+ℤ◌, ◌-ℤ◌, ◌*ℤ◌, ◌≤ℤ◌, ◌<ℤ◌, int_le, int_lt, arith}
use Rattle.std.proofs.Math.IntN.{*ℤ_comm, zero-*ℤ, suc_ℤ-*ℤ, pred_ℤ-*ℤ}
use Rattle.std.proofs.lemmas.Int.{ints}
use Rattle.std.proofs.lemmas.Bool.Decides.{nat_tests}
use Rattle.cv_model.specs.declared.span.Span.{Span}
use Rattle.cv_model.specs.Positions.{Position, doubled}
use Rattle.cv_model.specs.Views.{PixelGrid, centre_of}
use Rattle.cv_model.specs.Polygons.{is_low, is_crossed}
use Rattle.cv_geom.specs.Falls.{FallsAt}
use Rattle.cv_geom.proofs.ProductLemmas.{add-mul, mul-le-mulZ}
use Rattle.cv_scan.specs.declared.terms.Place.{Place}
use Rattle.cv_scan.specs.declared.terms.Slope.{Slope}
use Rattle.cv_scan.specs.Terms.{side_of, run_of, rise_of, IsPlace, IsSlope, IsNearest}
use Rattle.cv_scan.proofs.CrossingLemmas.{crossed-up}

-- the centre of column i lies so many sides behind the first
centre-east : (u : ℤ) (i : ℕ) → pos 1 ≤ℤ u → pos (2 * i + 1) *ℤ u ≡ u +ℤ pos i *ℤ (pos 2 *ℤ u)
centre-east (pos m) i unit =
    let far : (2 * i + 1) * m ≡ m + i * (2 * m) = grind arith in omega (arith, ints)
centre-east (negsuc m) i unit = absurd (omega (arith, ints))

-- the centres of a row lie a side below those of the row before
centre-down : (u : ℤ) (j : ℕ) → pos 1 ≤ℤ u → pos (2 * (j + 1) + 1) *ℤ u ≡ pos (2 * j + 1) *ℤ u +ℤ pos 2 *ℤ u
centre-down (pos m) j unit =
    let far : (2 * (j + 1) + 1) * m ≡ (2 * j + 1) * m + 2 * m = grind arith in omega (arith, ints)
centre-down (negsuc m) j unit = absurd (omega (arith, ints))

-- the run of a column of the view
pub run-centre :
    (v : PixelGrid) (a b : Position) (i j : ℕ) → pos 1 ≤ℤ v.u
    → ((centre_of v i j).x -ℤ a.x) *ℤ (b.y -ℤ a.y) ≡ run_of v a b (pos i)
run-centre v a b i j unit =
    let far = centre-east v.u i unit in
    let same : (centre_of v i j).x -ℤ a.x ≡ v.lx2 +ℤ v.u +ℤ pos i *ℤ side_of v -ℤ a.x = omega (arith, ints) in
    ap (λ z. z *ℤ (b.y -ℤ a.y)) same

-- so many columns further
run-more :
    (v : PixelGrid) (a b : Position) (k e : ℤ)
    → run_of v a b (k +ℤ e) ≡ run_of v a b k +ℤ (e *ℤ side_of v) *ℤ (b.y -ℤ a.y)
run-more v a b k e =
    let split = add-mul k e (side_of v) in
    let here = v.lx2 +ℤ v.u +ℤ k *ℤ side_of v -ℤ a.x in
    let same : v.lx2 +ℤ v.u +ℤ (k +ℤ e) *ℤ side_of v -ℤ a.x ≡ here +ℤ e *ℤ side_of v = omega (arith, ints) in
    ap (λ z. z *ℤ (b.y -ℤ a.y)) same ∙ add-mul here (e *ℤ side_of v) (b.y -ℤ a.y)

one-mul : (z : ℤ) → pos 1 *ℤ z ≡ z
one-mul (pos n) = ap pos (omega arith)
one-mul (negsuc n) = omega (arith, ints)

-- one column further
run-next :
    (v : PixelGrid) (a b : Position) (k : ℤ)
    → run_of v a b (k +ℤ pos 1) ≡ run_of v a b k +ℤ side_of v *ℤ (b.y -ℤ a.y)
run-next v a b k =
    run-more v a b k (pos 1)
    ∙ ap (λ z. run_of v a b k +ℤ z *ℤ (b.y -ℤ a.y)) (one-mul (side_of v))

-- at the height of the row below
rise-below :
    (v : PixelGrid) (a b : Position) (j : ℕ) → pos 1 ≤ℤ v.u
    → rise_of v a b j ≡ rise_of v a b (j + 1) +ℤ (b.x -ℤ a.x) *ℤ side_of v
rise-below v a b j unit =
    let down = centre-down v.u j unit in
    let dx = b.x -ℤ a.x in
    let under = (centre_of v 0 (j + 1)).y -ℤ a.y in
    let same : (centre_of v 0 j).y -ℤ a.y ≡ under +ℤ side_of v = omega (arith, ints) in
    let split = add-mul under (side_of v) dx in
    let turned = *ℤ_comm dx (under +ℤ side_of v) in
    let first = *ℤ_comm dx under in
    let second = *ℤ_comm dx (side_of v) in
    ap (λ z. dx *ℤ z) same ∙ turned ∙ split ∙ ap (λ z. z +ℤ side_of v *ℤ dx) (sym first)
    ∙ ap (λ z. dx *ℤ under +ℤ z) (sym second)

-- columns further east have a greater run
run-least :
    (v : PixelGrid) (a b : Position) (k n : ℤ) → pos 1 ≤ℤ v.u → a.y ≤ℤ b.y → k ≤ℤ n
    → run_of v a b k ≤ℤ run_of v a b n
run-least v a b k n unit rise order =
    let far = mul-le-mulZ k n (side_of v) order (omega (arith, ints)) in
    mul-le-mulZ (v.lx2 +ℤ v.u +ℤ k *ℤ side_of v -ℤ a.x) (v.lx2 +ℤ v.u +ℤ n *ℤ side_of v -ℤ a.x) (b.y -ℤ a.y)
    (omega (arith, ints)) (omega (arith, ints))

less : (x y : ℤ) → x <ℤ y → int_lt x y ≡ true
less x y h = grind (arith, ints)

not-less : (x y : ℤ) → y ≤ℤ x → int_lt x y ≡ false
not-less x y h = grind (arith, ints)

-- exactly the columns before its place lie left of a crossing
place-before :
    (v : PixelGrid) (a b : Position) (j i : ℕ) (place : Place) → pos 1 ≤ℤ v.u → a.y ≤ℤ b.y → IsPlace v a b j place
    → pos i <ℤ place.column → run_of v a b (pos i) <ℤ rise_of v a b j
place-before v a b j i place unit rise is before =
    let next = run-next v a b (pos i) in
    let most = run-least v a b (pos i +ℤ pos 1) place.column unit rise (omega (arith, ints)) in
    let at = is.run in
    let high = is.high in
    omega (arith, ints)

place-behind :
    (v : PixelGrid) (a b : Position) (j i : ℕ) (place : Place) → pos 1 ≤ℤ v.u → a.y ≤ℤ b.y → IsPlace v a b j place
    → place.column ≤ℤ pos i → rise_of v a b j ≤ℤ run_of v a b (pos i)
place-behind v a b j i place unit rise is behind =
    let least = run-least v a b place.column (pos i) unit rise behind in
    let at = is.run in
    let low = is.low in
    omega (arith, ints)

pub place-falls :
    (v : PixelGrid) (j t : ℕ) (low high : Position) (columns : Span) (place : Place) → pos 1 ≤ℤ v.u
    → (doubled low).y ≤ℤ (doubled high).y → is_low (centre_of v 0 j) (doubled low) ≡ true
    → is_low (centre_of v 0 j) (doubled high) ≡ false → IsPlace v (doubled low) (doubled high) j place
    → IsNearest columns place.column t
    → FallsAt (λ i. is_crossed (centre_of v i j) (low, high)) columns.from columns.end t
place-falls v j t low high columns place unit rise low_is high_isnt is near = record {
  low_in = near.west;
  high_in = near.east;
  falls = λ i from below. pick i from below (nat_lt i t) refl;
}
  where
    a : Position
    a = doubled low

    b : Position
    b = doubled high

    pick : (i : ℕ) → columns.from ≤ i → i < columns.end → (s : Bool) → nat_lt i t ≡ s → is_crossed (centre_of v i j) (low, high) ≡ s
    pick i from below true before =
        let west = place-before v a b j i place unit rise is (near.before i from (grind (arith, nat_tests))) in
        let run = run-centre v a b i j unit in
        crossed-up (centre_of v i j) a b low_is high_isnt
        ∙ ap (λ z. int_lt z (rise_of v a b j)) run ∙ less (run_of v a b (pos i)) (rise_of v a b j) west
    pick i from below false behind =
        let east = place-behind v a b j i place unit rise is (near.behind i below (grind (arith, nat_tests))) in
        let run = run-centre v a b i j unit in
        crossed-up (centre_of v i j) a b low_is high_isnt
        ∙ ap (λ z. int_lt z (rise_of v a b j)) run ∙ not-less (run_of v a b (pos i)) (rise_of v a b j) east

-- products of three
mul-assoc : (a b c : ℤ) → (a *ℤ b) *ℤ c ≡ a *ℤ (b *ℤ c)
mul-assoc (pos zero) b c = ap (λ z. z *ℤ c) (zero-*ℤ b) ∙ zero-*ℤ c ∙ sym (zero-*ℤ (b *ℤ c))
mul-assoc (pos (suc k)) b c =
    let here = mul-assoc (pos k) b c in
    let first = ap (λ z. z *ℤ c) (suc_ℤ-*ℤ (pos k) b) ∙ add-mul (pos k *ℤ b) b c in
    let second = suc_ℤ-*ℤ (pos k) (b *ℤ c) in
    omega (arith, ints)
mul-assoc (negsuc zero) b c =
    let none = zero-*ℤ b in
    let first = pred_ℤ-*ℤ (pos zero) b in
    let second = pred_ℤ-*ℤ (pos zero) (b *ℤ c) in
    let far = zero-*ℤ (b *ℤ c) in
    let sum : b +ℤ (negsuc zero *ℤ b) ≡ pos zero = omega (arith, ints) in
    let split = add-mul b (negsuc zero *ℤ b) c in
    let left = ap (λ z. z *ℤ c) sum ∙ zero-*ℤ c in
    omega (arith, ints)
mul-assoc (negsuc (suc k)) b c =
    let here = mul-assoc (negsuc k) b c in
    let first = pred_ℤ-*ℤ (negsuc k) b in
    let second = pred_ℤ-*ℤ (negsuc k) (b *ℤ c) in
    let sum : b +ℤ (negsuc (suc k) *ℤ b) ≡ negsuc k *ℤ b = omega (arith, ints) in
    let split = add-mul b (negsuc (suc k) *ℤ b) c in
    let left = ap (λ z. z *ℤ c) sum in
    omega (arith, ints)

-- a column whose centre lies less than a side east of a crossing is its place, if it is so many columns west of one
-- of the view
pub place-is :
    (v : PixelGrid) (a b : Position) (j i : ℕ) (way columns over : ℤ) (slope : Slope) → pos 1 ≤ℤ v.u
    → IsSlope v a b slope
    → way ≡ ((centre_of v i j).x -ℤ a.x) *ℤ (b.y -ℤ a.y) -ℤ (b.x -ℤ a.x) *ℤ ((centre_of v i j).y -ℤ a.y)
    → over ≡ way -ℤ columns *ℤ slope.whole → pos 0 ≤ℤ over → over <ℤ slope.whole
    → IsPlace v a b j (record { column = pos i -ℤ columns; over = over })
place-is v a b j i way columns over slope unit steep is left low high = record {
  run =
      let run = run-centre v a b i j unit in
      let back : (pos i -ℤ columns) +ℤ columns ≡ pos i = omega (arith, ints) in
      let more = ap (run_of v a b) (sym back) ∙ run-more v a b (pos i -ℤ columns) columns in
      let turned = mul-assoc columns (side_of v) (b.y -ℤ a.y) in
      let whole = ap (λ z. columns *ℤ z) steep.whole in
      omega (arith, ints);
  low = low;
  high = let whole = steep.whole in omega (arith, ints);
}

-- the place in the row below
pub place-below :
    (v : PixelGrid) (a b : Position) (j : ℕ) (slope : Slope) (place : Place) (column over : ℤ) → pos 1 ≤ℤ v.u
    → IsSlope v a b slope → IsPlace v a b j place → column ≡ place.column +ℤ slope.columns
    → over ≡ place.over -ℤ slope.part → pos 0 ≤ℤ over
    → IsPlace v a b (j + 1) (record { column = column; over = over })
place-below v a b j slope place column over unit steep is column_is over_is some =
    let more = ap (run_of v a b) column_is ∙ run-more v a b place.column slope.columns in
    let fall = rise-below v a b j unit in
    let at = is.run in
    let moves = steep.moves in
    let part = steep.low in
    let high = is.high in
    record { run = omega (arith, ints); low = some; high = omega (arith, ints) }

-- or a column further
pub place-beyond :
    (v : PixelGrid) (a b : Position) (j : ℕ) (slope : Slope) (place : Place) (column over : ℤ) → pos 1 ≤ℤ v.u
    → IsSlope v a b slope → IsPlace v a b j place → column ≡ place.column +ℤ slope.columns +ℤ pos 1
    → over ≡ place.over -ℤ slope.part +ℤ slope.whole → (place.over -ℤ slope.part) <ℤ pos 0
    → IsPlace v a b (j + 1) (record { column = column; over = over })
place-beyond v a b j slope place column over unit steep is column_is over_is under =
    let k = place.column +ℤ slope.columns in
    let more = ap (run_of v a b) column_is ∙ run-next v a b k in
    let first = run-more v a b place.column slope.columns in
    let fall = rise-below v a b j unit in
    let at = is.run in
    let moves = steep.moves in
    let whole = steep.whole in
    let part = steep.high in
    let low = is.low in
    record { run = omega (arith, ints); low = omega (arith, ints); high = omega (arith, ints) }

-- ---- tests

pub at-least : (z : ℤ) → int_le (pos 0) z ≡ true → pos 0 ≤ℤ z
at-least z held = grind (arith, ints)

pub less-is : (x y : ℤ) → int_lt x y ≡ true → x <ℤ y
less-is x y h = grind (arith, ints)

pub not-below : (z : ℤ) → int_lt z (pos 0) ≡ false → pos 0 ≤ℤ z
not-below z failed = grind (arith, ints)

-- an end that is low lies at most as high as one that isn't
pub ends-rise : (p a b : Position) → is_low p a ≡ true → is_low p b ≡ false → a.y ≤ℤ b.y
ends-rise p a b low_is high_isnt = grind (arith, ints)

-- ---- the slope

pub slope-is :
    (v : PixelGrid) (a b : Position) (columns shift part whole : ℤ) → whole ≡ side_of v *ℤ (b.y -ℤ a.y)
    → shift ≡ columns *ℤ side_of v → part ≡ neg_ℤ ((b.x -ℤ a.x) *ℤ side_of v) -ℤ shift *ℤ (b.y -ℤ a.y)
    → pos 0 ≤ℤ part → part <ℤ whole → unsigned_abs columns ≤ 2 ^ 29
    → IsSlope v a b (record { columns = columns; part = part; whole = whole })
slope-is v a b columns shift part whole whole_is shift_is part_is low high few = record {
  whole = whole_is;
  moves = part_is ∙ ap (λ z. neg_ℤ ((b.x -ℤ a.x) *ℤ side_of v) -ℤ z *ℤ (b.y -ℤ a.y)) shift_is;
  low = low;
  high = high;
  few = few;
}
