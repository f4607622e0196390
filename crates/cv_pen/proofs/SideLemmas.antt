-- The sides of a pen's corners, and the columns before and behind a segment.
use Rattle.std.proofs.Common.{◌≡◌, ◌∙◌, sym, ap, refl, ℕ, suc, List, [], ◌∷◌, ◌+◌, ◌*◌, Bool, true, false, not, ◌&&◌, ◌||◌, ℤ, pos, negsuc, neg_ℤ, ◌+ℤ◌, ◌-ℤ◌, ◌*ℤ◌, ◌≤ℤ◌, int_lt, int_le, unsigned_abs, arith}
use borrow.Author.Differences.{up, down, product_is}
use Rattle.std.specs.Int.{int_max, int_min}
use Rattle.std.specs.List.{list_all}
use Rattle.std.proofs.lemmas.Int.{ints, clamps, unsigned_abs-mul}
use Rattle.cv_model.specs.Positions.{Position}
use Rattle.cv_model.specs.Views.{PixelGrid, centre_of}
use Rattle.cv_model.specs.Pens.{overlaps, side_of, corners, straddles, meets_square}
use Rattle.cv_geom.specs.Falls.{FallsIn}
use Rattle.cv_geom.proofs.ProductLemmas.{add-mul, mul-le-mulZ}
use Rattle.cv_geom.proofs.CentreLemmas.{centres-rise}
use Rattle.cv_pen.specs.Strokes.{corner_way, is_before, is_reached}

-- products in the other order
mul-commZ : (x y : ℤ) → x *ℤ y ≡ y *ℤ x
mul-commZ x y = omega (arith, ints, product_is x y, product_is y x)

-- a product with a number below 0
mul-negZ : (x y : ℤ) → x *ℤ neg_ℤ y ≡ neg_ℤ (x *ℤ y)
mul-negZ x y =
    let above : up (neg_ℤ y) + up y ≡ down (neg_ℤ y) + down y = omega (arith, ints) in
    let first = ap (λ n. up x * n) above in
    let second = ap (λ n. down x * n) above in
    omega (arith, ints, product_is x y, product_is x (neg_ℤ y))

-- a product with a sum
mul-addZ : (x y z : ℤ) → x *ℤ (y +ℤ z) ≡ x *ℤ y +ℤ x *ℤ z
mul-addZ x y z =
    let first = mul-commZ x y in
    let second = mul-commZ x z in
    let sum = mul-commZ x (y +ℤ z) ∙ add-mul y z x in
    omega (arith, ints)

-- the side of a corner that lies s eastwards and t upwards of p
side-corner :
    (a b p : Position) (s t : ℤ)
    → side_of a b (record { x = p.x +ℤ s; y = p.y +ℤ t })
    ≡ side_of a b p +ℤ ((b.x -ℤ a.x) *ℤ t -ℤ (b.y -ℤ a.y) *ℤ s)
side-corner a b p s t =
    let dx = b.x -ℤ a.x in
    let dy = b.y -ℤ a.y in
    let north : (p.y +ℤ t) -ℤ a.y ≡ (p.y -ℤ a.y) +ℤ t = omega (arith, ints) in
    let east : (p.x +ℤ s) -ℤ a.x ≡ (p.x -ℤ a.x) +ℤ s = omega (arith, ints) in
    let up_part = ap (λ z. dx *ℤ z) north ∙ mul-addZ dx (p.y -ℤ a.y) t in
    let run_part = ap (λ z. dy *ℤ z) east ∙ mul-addZ dy (p.x -ℤ a.x) s in
    omega (arith, ints)

less-swap : (run lead way : ℤ) → int_lt run (lead -ℤ way) ≡ int_lt way (lead -ℤ run)
less-swap run lead way = grind (arith, ints)

most-swap : (run lead way : ℤ) → int_le run (lead +ℤ way) ≡ int_le (neg_ℤ way) (lead -ℤ run)
most-swap run lead way = grind (arith, ints)

-- what a test of a run against the rise less the corners' way tells
pub run-before :
    (a b p : Position) (r run least : ℤ) → run ≡ (b.y -ℤ a.y) *ℤ (p.x -ℤ a.x)
    → least ≡ (b.x -ℤ a.x) *ℤ (p.y -ℤ a.y) -ℤ corner_way r a b
    → int_lt run least ≡ int_lt (corner_way r a b) (side_of a b p)
run-before a b p r run least run_is least_is =
    let lead = (b.x -ℤ a.x) *ℤ (p.y -ℤ a.y) in
    ap (λ z. int_lt z least) run_is ∙ ap (λ z. int_lt ((b.y -ℤ a.y) *ℤ (p.x -ℤ a.x)) z) least_is
    ∙ less-swap ((b.y -ℤ a.y) *ℤ (p.x -ℤ a.x)) lead (corner_way r a b)

-- and against the rise and the corners' way
pub run-reached :
    (a b p : Position) (r run most : ℤ) → run ≡ (b.y -ℤ a.y) *ℤ (p.x -ℤ a.x)
    → most ≡ (b.x -ℤ a.x) *ℤ (p.y -ℤ a.y) +ℤ corner_way r a b
    → int_le run most ≡ int_le (neg_ℤ (corner_way r a b)) (side_of a b p)
run-reached a b p r run most run_is most_is =
    let lead = (b.x -ℤ a.x) *ℤ (p.y -ℤ a.y) in
    ap (λ z. int_le z most) run_is ∙ ap (λ z. int_le ((b.y -ℤ a.y) *ℤ (p.x -ℤ a.x)) z) most_is
    ∙ most-swap ((b.y -ℤ a.y) *ℤ (p.x -ℤ a.x)) lead (corner_way r a b)

-- of two positions at one height the one further west lies as far or further on the left side of a line up
side-west :
    (a b p q : Position) → q.x ≤ℤ p.x → q.y ≡ p.y → a.y ≤ℤ b.y → side_of a b p ≤ℤ side_of a b q
side-west a b p q west same rises =
    let way : (q.x -ℤ a.x) ≤ℤ (p.x -ℤ a.x) = omega (arith, ints) in
    let least = mul-le-mulZ (q.x -ℤ a.x) (p.x -ℤ a.x) (b.y -ℤ a.y) way (omega (arith, ints)) in
    let left = mul-commZ (q.x -ℤ a.x) (b.y -ℤ a.y) in
    let right = mul-commZ (p.x -ℤ a.x) (b.y -ℤ a.y) in
    let level : (b.x -ℤ a.x) *ℤ (q.y -ℤ a.y) ≡ (b.x -ℤ a.x) *ℤ (p.y -ℤ a.y) =
    ap (λ z. (b.x -ℤ a.x) *ℤ (z -ℤ a.y)) same in
    omega (arith, ints)

-- what lies before a segment has before it what lies further west
before-west :
    (west east r m way side_p side_q : ℤ) → west ≤ℤ east → side_p ≤ℤ side_q
    → (not (int_le m (east +ℤ r)) || int_lt way side_p) ≡ true → (not (int_le m (west +ℤ r)) || int_lt way side_q) ≡ true
before-west west east r m way side_p side_q order more held = grind (arith, ints)

reached-west :
    (west east r m way side_p side_q : ℤ) → west ≤ℤ east → side_p ≤ℤ side_q
    → (int_le (east -ℤ r) m && int_le way side_p) ≡ true → (int_le (west -ℤ r) m && int_le way side_q) ≡ true
reached-west west east r m way side_p side_q order more held = grind (arith, ints)

-- the columns before a segment are the first ones
pub before-falls :
    (v : PixelGrid) (j low high : ℕ) (r : ℤ) (a b : Position) → pos 1 ≤ℤ v.u → a.y ≤ℤ b.y
    → FallsIn (λ i. is_before r (centre_of v i j) a b) low high
before-falls v j low high r a b unit rises i k from order below held =
    let east = centres-rise v i k j unit order in
    before-west (centre_of v i j).x (centre_of v k j).x r (int_min a.x b.x) (corner_way r a b)
    (side_of a b (centre_of v k j)) (side_of a b (centre_of v i j)) east
    (side-west a b (centre_of v k j) (centre_of v i j) east refl rises) held

-- those that it reaches too
pub reached-falls :
    (v : PixelGrid) (j low high : ℕ) (r : ℤ) (a b : Position) → pos 1 ≤ℤ v.u → a.y ≤ℤ b.y
    → FallsIn (λ i. is_reached r (centre_of v i j) a b) low high
reached-falls v j low high r a b unit rises i k from order below held =
    let east = centres-rise v i k j unit order in
    reached-west (centre_of v i j).x (centre_of v k j).x r (int_max a.x b.x) (neg_ℤ (corner_way r a b))
    (side_of a b (centre_of v k j)) (side_of a b (centre_of v i j)) east
    (side-west a b (centre_of v k j) (centre_of v i j) east refl rises) held

-- the way of the corners by the products with the half-side
way-is :
    (a b : Position) (r : ℤ) → pos 0 ≤ℤ r
    → corner_way r a b ≡ pos (unsigned_abs ((b.x -ℤ a.x) *ℤ r)) +ℤ ((b.y -ℤ a.y) *ℤ r)
way-is a b (pos n) some =
    let wide = pos (unsigned_abs (b.x -ℤ a.x)) in
    let split = mul-addZ (pos n) wide (b.y -ℤ a.y) in
    let up_part = mul-commZ (pos n) (b.y -ℤ a.y) in
    let across : pos n *ℤ wide ≡ pos (unsigned_abs ((b.x -ℤ a.x) *ℤ pos n)) =
    mul-commZ (pos n) wide ∙ ap pos (sym (unsigned_abs-mul (b.x -ℤ a.x) (pos n))) in
    split ∙ ap (λ z. z +ℤ pos n *ℤ (b.y -ℤ a.y)) across
    ∙ ap (λ z. pos (unsigned_abs ((b.x -ℤ a.x) *ℤ pos n)) +ℤ z) up_part
way-is a b (negsuc n) some = absurd (omega (arith, ints))

-- four tests of which one implies the others
by_second : (p q s t : Bool) → (q ≡ true → p ≡ true) → (q ≡ true → s ≡ true) → (q ≡ true → t ≡ true)
    → (p && (q && (s && (t && true)))) ≡ q
by_second p true s t first third fourth = rw (first refl, third refl, fourth refl) refl
by_second true false s t first third fourth = refl
by_second false false s t first third fourth = refl

by_fourth : (p q s t : Bool) → (t ≡ true → p ≡ true) → (t ≡ true → q ≡ true) → (t ≡ true → s ≡ true)
    → (p && (q && (s && (t && true)))) ≡ t
by_fourth p q s true first second third = rw (first refl, second refl, third refl) refl
by_fourth p q s false first second third = by p q s
  where
    by : (p q s : Bool) → (p && (q && (s && false))) ≡ false
    by true true true = refl
    by true true false = refl
    by true false s = refl
    by false q s = refl

by_third : (p q s t : Bool) → (s ≡ true → p ≡ true) → (s ≡ true → q ≡ true) → (s ≡ true → t ≡ true)
    → (p && (q && (s && (t && true)))) ≡ s
by_third p q true t first second fourth = rw (first refl, second refl, fourth refl) refl
by_third p q false t first second fourth = by p q
  where
    by : (p q : Bool) → (p && (q && false)) ≡ false
    by true true = refl
    by true false = refl
    by false q = refl

by_first : (p q s t : Bool) → (p ≡ true → q ≡ true) → (p ≡ true → s ≡ true) → (p ≡ true → t ≡ true)
    → (p && (q && (s && (t && true)))) ≡ p
by_first true q s t second third fourth = rw (second refl, third refl, fourth refl) refl
by_first false q s t second third fourth = refl

-- the sides of a pen's four corners by that of its middle
record AreCorners (s t u v c x y : ℤ) : Type 0 where
  south_west : s ≡ c -ℤ x +ℤ y
  south_east : t ≡ c -ℤ x -ℤ y
  north_west : u ≡ c +ℤ x +ℤ y
  north_east : v ≡ c +ℤ x -ℤ y
  some : pos 0 ≤ℤ y

-- a number less than others is above 0 only where they are
above-more : (a b : ℤ) → a ≤ℤ b → int_lt (pos 0) a ≡ true → int_lt (pos 0) b ≡ true
above-more a b order held = grind (arith, ints)

below-less : (a b : ℤ) → b ≤ℤ a → int_lt a (pos 0) ≡ true → int_lt b (pos 0) ≡ true
below-less a b order held = grind (arith, ints)

above-is : (t c w : ℤ) → t ≡ c -ℤ w → int_lt (pos 0) t ≡ int_lt w c
above-is t c w t_is = grind (arith, ints)

below-is : (t c w : ℤ) → t ≡ c +ℤ w → int_lt t (pos 0) ≡ int_lt c (neg_ℤ w)
below-is t c w t_is = grind (arith, ints)

-- all corners lie left of a line up
corners-left :
    (s t u v c x y : ℤ) → AreCorners s t u v c x y
    → (int_lt (pos 0) s && (int_lt (pos 0) t && (int_lt (pos 0) u && (int_lt (pos 0) v && true))))
    ≡ int_lt (pos (unsigned_abs x) +ℤ y) c
corners-left s t u v c (pos n) y are =
    let e1 = are.south_west in
    let e2 = are.south_east in
    let e3 = are.north_west in
    let e4 = are.north_east in
    let some = are.some in
    by_second (int_lt (pos 0) s) (int_lt (pos 0) t) (int_lt (pos 0) u) (int_lt (pos 0) v)
    (above-more t s (omega (arith, ints))) (above-more t u (omega (arith, ints))) (above-more t v (omega (arith, ints)))
    ∙ above-is t c (pos n +ℤ y) (omega (arith, ints))
corners-left s t u v c (negsuc n) y are =
    let e1 = are.south_west in
    let e2 = are.south_east in
    let e3 = are.north_west in
    let e4 = are.north_east in
    let some = are.some in
    by_fourth (int_lt (pos 0) s) (int_lt (pos 0) t) (int_lt (pos 0) u) (int_lt (pos 0) v)
    (above-more v s (omega (arith, ints))) (above-more v t (omega (arith, ints))) (above-more v u (omega (arith, ints)))
    ∙ above-is v c (pos (suc n) +ℤ y) (omega (arith, ints))

-- all corners lie right of it
corners-right :
    (s t u v c x y : ℤ) → AreCorners s t u v c x y
    → (int_lt s (pos 0) && (int_lt t (pos 0) && (int_lt u (pos 0) && (int_lt v (pos 0) && true))))
    ≡ int_lt c (neg_ℤ (pos (unsigned_abs x) +ℤ y))
corners-right s t u v c (pos n) y are =
    let e1 = are.south_west in
    let e2 = are.south_east in
    let e3 = are.north_west in
    let e4 = are.north_east in
    let some = are.some in
    by_third (int_lt s (pos 0)) (int_lt t (pos 0)) (int_lt u (pos 0)) (int_lt v (pos 0))
    (below-less u s (omega (arith, ints))) (below-less u t (omega (arith, ints))) (below-less u v (omega (arith, ints)))
    ∙ below-is u c (pos n +ℤ y) (omega (arith, ints))
corners-right s t u v c (negsuc n) y are =
    let e1 = are.south_west in
    let e2 = are.south_east in
    let e3 = are.north_west in
    let e4 = are.north_east in
    let some = are.some in
    by_first (int_lt s (pos 0)) (int_lt t (pos 0)) (int_lt u (pos 0)) (int_lt v (pos 0))
    (below-less s t (omega (arith, ints))) (below-less s u (omega (arith, ints))) (below-less s v (omega (arith, ints)))
    ∙ below-is s c (pos (suc n) +ℤ y) (omega (arith, ints))

-- what the box and the line say together
sides-meet :
    (a b l : Bool) (c w : ℤ)
    → (((a && b) && true) && (not l && not (int_lt c (neg_ℤ w)))) ≡ (not (not a || l) && (b && int_le (neg_ℤ w) c))
sides-meet a b l c w =
    let same : not (int_lt c (neg_ℤ w)) ≡ int_le (neg_ℤ w) c = grind (arith, ints) in rw same (by a b l (int_le (neg_ℤ w) c))
  where
    by : (a b l r : Bool) → (((a && b) && true) && (not l && r)) ≡ (not (not a || l) && (b && r))
    by true true true r = refl
    by true true false r = refl
    by true false true r = refl
    by true false false r = refl
    by false true true r = refl
    by false true false r = refl
    by false false true r = refl
    by false false false r = refl

-- the corners of the pen at p
are-corners :
    (r : ℤ) (p a b : Position) → pos 0 ≤ℤ r → a.y ≤ℤ b.y
    → AreCorners
    (side_of a b (record { x = p.x -ℤ r; y = p.y -ℤ r }))
    (side_of a b (record { x = p.x +ℤ r; y = p.y -ℤ r }))
    (side_of a b (record { x = p.x -ℤ r; y = p.y +ℤ r }))
    (side_of a b (record { x = p.x +ℤ r; y = p.y +ℤ r }))
    (side_of a b p) ((b.x -ℤ a.x) *ℤ r) ((b.y -ℤ a.y) *ℤ r)
are-corners r p a b some rises =
    let back_x = mul-negZ (b.x -ℤ a.x) r in
    let back_y = mul-negZ (b.y -ℤ a.y) r in
    let sw = side-corner a b p (neg_ℤ r) (neg_ℤ r) in
    let se = side-corner a b p r (neg_ℤ r) in
    let nw = side-corner a b p (neg_ℤ r) r in
    let ne = side-corner a b p r r in
    let grows = mul-le-mulZ (pos 0) (b.y -ℤ a.y) r (omega (arith, ints)) some in
    record {
      south_west = omega (arith, ints, sw, back_x, back_y);
      south_east = omega (arith, ints, se, back_x);
      north_west = omega (arith, ints, nw, back_y);
      north_east = omega (arith, ints, ne);
      some = omega (arith, ints, grows, product_is (pos 0) r);
    }

-- at a height at which they overlap a pen hits a segment up from a to b where it lies neither before it nor
-- behind
pub meets-up :
    (r : ℤ) (p a b : Position) → pos 0 ≤ℤ r → a.y ≤ℤ b.y → overlaps r p.y a.y b.y ≡ true
    → meets_square r p a b ≡ (not (is_before r p a b) && is_reached r p a b)
unfolding meets_square
meets-up r p a b some rises level =
    let c = side_of a b p in
    let are = are-corners r p a b some rises in
    let x = (b.x -ℤ a.x) *ℤ r in
    let y = (b.y -ℤ a.y) *ℤ r in
    let w_is = way-is a b r some in
    let left : list_all (λ q. int_lt (pos 0) (side_of a b q)) (corners r p) ≡ int_lt (corner_way r a b) c =
    corners-left _ _ _ _ c x y are ∙ ap (λ z. int_lt z c) (sym w_is) in
    let right : list_all (λ q. int_lt (side_of a b q) (pos 0)) (corners r p) ≡ int_lt c (neg_ℤ (corner_way r a b)) =
    corners-right _ _ _ _ c x y are ∙ ap (λ z. int_lt c (neg_ℤ z)) (sym w_is) in
    let box_a = int_le (int_min a.x b.x) (p.x +ℤ r) in
    let box_b = int_le (p.x -ℤ r) (int_max a.x b.x) in
    all-of (box_a && box_b) (overlaps r p.y a.y b.y) true _ (int_lt (corner_way r a b) c) _
    (int_lt c (neg_ℤ (corner_way r a b))) level left right
    ∙ sides-meet box_a box_b (int_lt (corner_way r a b) c) c (corner_way r a b)
  where
    all-of :
        (o y y' l l' r r' : Bool) → y ≡ y' → l ≡ l' → r ≡ r'
        → ((o && y) && (not l && not r)) ≡ ((o && y') && (not l' && not r'))
    all-of o y y' l l' r r' same_y same_l same_r = cc

-- where their heights don't overlap it hits nothing
pub meets-none :
    (r : ℤ) (p a b : Position) → overlaps r p.y a.y b.y ≡ false → meets_square r p a b ≡ false
unfolding meets_square
meets-none r p a b level = by (overlaps r p.x a.x b.x) (overlaps r p.y a.y b.y) (straddles a b (corners r p)) level
  where
    by : (x y s : Bool) → y ≡ false → ((x && y) && s) ≡ false
    by true false s none = refl
    by false false s none = refl
    by true true s none = cc
    by false true s none = cc

-- nor where their widths don't
pub meets-beside :
    (r : ℤ) (p a b : Position) → overlaps r p.x a.x b.x ≡ false → meets_square r p a b ≡ false
unfolding meets_square
meets-beside r p a b apart = by (overlaps r p.x a.x b.x) (overlaps r p.y a.y b.y) (straddles a b (corners r p)) apart
  where
    by : (x y s : Bool) → x ≡ false → ((x && y) && s) ≡ false
    by true y s none = cc
    by false y s none = refl

-- a product with a way back
back-mul : (d y e : ℤ) → neg_ℤ d *ℤ (y +ℤ neg_ℤ e) ≡ neg_ℤ (d *ℤ y) +ℤ d *ℤ e
back-mul d y e =
    let split = mul-addZ (neg_ℤ d) y (neg_ℤ e) in
    let turn = mul-commZ (neg_ℤ d) y in
    let back = mul-negZ y d in
    let forth = mul-commZ y d in
    let both = mul-commZ (neg_ℤ d) (neg_ℤ e) in
    let other = mul-negZ (neg_ℤ e) d in
    let turned = mul-commZ (neg_ℤ e) d in
    let last = mul-negZ d e in
    omega (arith, ints)

-- a side seen from the other end
side-flip : (a b q : Position) → side_of b a q ≡ neg_ℤ (side_of a b q)
side-flip a b q =
    let d = b.x -ℤ a.x in
    let e = b.y -ℤ a.y in
    let west : a.x -ℤ b.x ≡ neg_ℤ d = omega (arith, ints) in
    let down_way : a.y -ℤ b.y ≡ neg_ℤ e = omega (arith, ints) in
    let north : q.y -ℤ b.y ≡ (q.y -ℤ a.y) +ℤ neg_ℤ e = omega (arith, ints) in
    let east : q.x -ℤ b.x ≡ (q.x -ℤ a.x) +ℤ neg_ℤ d = omega (arith, ints) in
    let first : (a.x -ℤ b.x) *ℤ (q.y -ℤ b.y) ≡ neg_ℤ (d *ℤ (q.y -ℤ a.y)) +ℤ d *ℤ e =
    ap (λ z. z *ℤ (q.y -ℤ b.y)) west ∙ ap (λ z. neg_ℤ d *ℤ z) north ∙ back-mul d (q.y -ℤ a.y) e in
    let second : (a.y -ℤ b.y) *ℤ (q.x -ℤ b.x) ≡ neg_ℤ (e *ℤ (q.x -ℤ a.x)) +ℤ e *ℤ d =
    ap (λ z. z *ℤ (q.x -ℤ b.x)) down_way ∙ ap (λ z. neg_ℤ e *ℤ z) east ∙ back-mul e (q.x -ℤ a.x) d in
    let same = mul-commZ d e in
    omega (arith, ints)

-- tests of sides from the other end
left-flip : (a b : Position) (qs : List Position)
    → list_all (λ q. int_lt (pos 0) (side_of a b q)) qs ≡ list_all (λ q. int_lt (side_of b a q) (pos 0)) qs
left-flip a b [] = refl
left-flip a b (q ∷ qs) =
    let flip = side-flip a b q in
    let here : int_lt (pos 0) (side_of a b q) ≡ int_lt (side_of b a q) (pos 0) =
    turned (side_of a b q) ∙ ap (λ z. int_lt z (pos 0)) (sym flip) in
    let rest = left-flip a b qs in
    cc
  where
    turned : (z : ℤ) → int_lt (pos 0) z ≡ int_lt (neg_ℤ z) (pos 0)
    turned z = grind (arith, ints)

min-flip : (x y : ℤ) → int_min x y ≡ int_min y x
min-flip x y = omega (arith, ints, clamps)

max-flip : (x y : ℤ) → int_max x y ≡ int_max y x
max-flip x y = omega (arith, ints, clamps)

overlaps-flip : (r p x y : ℤ) → overlaps r p x y ≡ overlaps r p y x
overlaps-flip r p x y =
    ap (λ z. int_le z (p +ℤ r) && int_le (p -ℤ r) (int_max x y)) (min-flip x y)
    ∙ ap (λ z. int_le (int_min y x) (p +ℤ r) && int_le (p -ℤ r) z) (max-flip x y)

comm : (x y : Bool) → (not x && not y) ≡ (not y && not x)
comm true true = refl
comm true false = refl
comm false true = refl
comm false false = refl

-- a pen hits a segment in both directions alike
pub meets-flip : (r : ℤ) (p a b : Position) → meets_square r p a b ≡ meets_square r p b a
unfolding meets_square
meets-flip r p a b =
    all-of _ _ _ _ (overlaps-flip r p.x a.x b.x) (overlaps-flip r p.y a.y b.y) _ _ _ _ (left-flip a b (corners r p))
    (sym (left-flip b a (corners r p)))
  where
    all-of :
        (x x' y y' : Bool) → x ≡ x' → y ≡ y' → (l l' r r' : Bool) → l ≡ r' → r ≡ l'
        → ((x && y) && (not l && not r)) ≡ ((x' && y') && (not l' && not r'))
    all-of x x' y y' same_x same_y l l' r r' turn back = ap (λ z. (z && y) && (not l && not r)) same_x ∙ ap (λ z. (x' && z) && (not l && not r)) same_y ∙ ap (λ z. (x' && y') && z) (by l l' r r' turn back)
      where
        by : (l l' r r' : Bool) → l ≡ r' → r ≡ l' → (not l && not r) ≡ (not l' && not r')
        by l l' r r' turn back = rw (turn, back) (comm r' l')

-- nor do their heights overlap otherwise
pub overlaps-turned : (r p x y : ℤ) (t : Bool) → overlaps r p x y ≡ t → overlaps r p y x ≡ t
overlaps-turned r p x y t test = overlaps-flip r p y x ∙ test
