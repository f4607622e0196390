-- Positions far from a box: nothing in the box is hit, marked or has them inside.
use Rattle.std.proofs.Common.{◌≡◌, ◌∙◌, sym, ap, refl, Option, Some, None, ℕ, ◌<◌, ◌-◌, ◌+◌, ◌*◌, ◌%◌, ◌==◌, ◌≤◌, List, [], ◌∷◌, Bool, true, false, not, ◌||◌, if◌then◌else◌, ℤ, pos, ◌+ℤ◌, ◌-ℤ◌, ◌*ℤ◌, ◌≤ℤ◌, ◌<ℤ◌, int_lt, int_le, zero-add, arith}
use Rattle.std.specs.Prelude.{cond, option_and_then}
use Rattle.std.specs.Option.{option_map_or}
use Rattle.std.specs.Int.{int_max, int_min}
use Rattle.std.specs.List.{All, list_any, flat_map}
use Rattle.std.proofs.Math.Nat.{le-max_left, le-max_right}
use Rattle.std.proofs.lemmas.Int.{ints}
use Rattle.std.proofs.lemmas.List.Elements.{All-head, All-tail}
use Rattle.std.proofs.lemmas.List.Sums.{sum_by-cons, sum_by-append}
use Rattle.std.proofs.lemmas.List.Concat.{flat_map-cons}
use borrow.Author.Differences.{product_is}
use Rattle.cv_model.specs.declared.colour.Rgba.{Rgba}
use Rattle.cv_model.specs.declared.shape.Shape.{Shape}
use Rattle.cv_model.specs.declared.symbol.Symbol.{Symbol}
use Rattle.cv_model.specs.Positions.{Position, Rectangle, doubled}
use Rattle.cv_model.specs.Polygons.{last_of, edges_from, edges, is_low, passes_right, crosses, is_crossed, crossings, is_inside}
use Rattle.cv_model.specs.Pens.{PenParts, overlaps, is_near}
use Rattle.cv_model.specs.Markers.{MarkerParts, is_marked}
use Rattle.cv_model.specs.Geometries.{GeometryLists}
use Rattle.cv_model.specs.Views.{PixelGrid, centre_of}
use Rattle.cv_model.specs.Pictures.{is_covered, hits_ring, hits_line, hits_rings, hits_lines, fill_strokes, pen_strokes}
use Rattle.cv_model.specs.Pictures.{half_side, marker_strokes, strokes_of, strokes}
use Rattle.cv_layer.specs.Boxes.{IsIn, box_of}
use Rattle.cv_layer.proofs.BoxLemmas.{boxes_hold}
use Rattle.cv_geom.proofs.ProductLemmas.{add-mul, mul-le-mulZ, scaled}
use Rattle.cv_geom.proofs.CentreLemmas.{centres-rise}
use Rattle.cv_pen.proofs.RowLemmas.{behind-none, before-none, marked-none, marked-beside}
use Rattle.cv_pen.proofs.SideLemmas.{meets-none, meets-beside}
use Rattle.cv_paint.specs.Far.{is_far}
use Rattle.cv_paint.specs.Widths.{width_of}

-- ---- tests

less_is : (x y : ℤ) → int_lt x y ≡ true → x <ℤ y
less_is x y h = grind (arith, ints)

less_holds : (x y : ℤ) → x <ℤ y → int_lt x y ≡ true
less_holds x y h = grind (arith, ints)

most_is : (x y : ℤ) → int_le x y ≡ true → x ≤ℤ y
most_is x y h = grind (arith, ints)

not_most_is : (x y : ℤ) → int_le x y ≡ false → y <ℤ x
not_most_is x y h = grind (arith, ints)

not_most : (x y : ℤ) → y <ℤ x → int_le x y ≡ false
not_most x y h = grind (arith, ints)

most_holds : (x y : ℤ) → x ≤ℤ y → int_le x y ≡ true
most_holds x y h = grind (arith, ints)

-- what holds whichever of four tests does
by_test : {X : Type 0} (u v : X) (a b c d : Bool) → (a || (b || (c || d))) ≡ true → (a ≡ true → u ≡ v) → (b ≡ true → u ≡ v)
    → (c ≡ true → u ≡ v) → (d ≡ true → u ≡ v) → u ≡ v
by_test u v true b c d far f g h k = f refl
by_test u v false true c d far f g h k = g refl
by_test u v false false true d far f g h k = h refl
by_test u v false false false true far f g h k = k refl
by_test u v false false false false far f g h k = cc

-- each of four tests is enough
first : (a b c d : Bool) → a ≡ true → (a || (b || (c || d))) ≡ true
first true b c d held = refl
first false b c d held = cc

second : (a b c d : Bool) → b ≡ true → (a || (b || (c || d))) ≡ true
second true b c d held = refl
second false true c d held = refl
second false false c d held = cc

third : (a b c d : Bool) → c ≡ true → (a || (b || (c || d))) ≡ true
third true b c d held = refl
third false true c d held = refl
third false false true d held = refl
third false false false d held = cc

fourth : (a b c d : Bool) → d ≡ true → (a || (b || (c || d))) ≡ true
fourth true b c d held = refl
fourth false true c d held = refl
fourth false false true d held = refl
fourth false false false true held = refl
fourth false false false false held = cc

-- ---- what is hit

above : (t : Bool) (m x y : ℤ) → m <ℤ x → m <ℤ y → m <ℤ cond t y x
above true m x y more_x more_y = more_y
above false m x y more_x more_y = more_x

below : (t : Bool) (m x y : ℤ) → x <ℤ m → y <ℤ m → cond t x y <ℤ m
below true m x y less_x less_y = less_x
below false m x y less_x less_y = less_y

-- a stretch beyond a place overlaps nothing that lies wholly before the place
before : (s p a b low : ℤ) → (p +ℤ s) <ℤ (pos 2 *ℤ low) → low ≤ℤ a → low ≤ℤ b
    → overlaps s p (pos 2 *ℤ a) (pos 2 *ℤ b) ≡ false
before s p a b low far aw bw =
    let at = above (int_lt (pos 2 *ℤ b) (pos 2 *ℤ a)) (p +ℤ s) (pos 2 *ℤ a) (pos 2 *ℤ b) (omega (arith, ints, far, aw))
    (omega (arith, ints, far, bw)) in
    before-none s p (pos 2 *ℤ a) (pos 2 *ℤ b) (int_min (pos 2 *ℤ a) (pos 2 *ℤ b) -ℤ s) refl (omega (arith, ints, at))

behind : (s p a b high : ℤ) → (pos 2 *ℤ high) <ℤ (p -ℤ s) → a ≤ℤ high → b ≤ℤ high
    → overlaps s p (pos 2 *ℤ a) (pos 2 *ℤ b) ≡ false
behind s p a b high far aw bw =
    let at = below (int_lt (pos 2 *ℤ b) (pos 2 *ℤ a)) (p -ℤ s) (pos 2 *ℤ a) (pos 2 *ℤ b) (omega (arith, ints, far, aw))
    (omega (arith, ints, far, bw)) in
    behind-none s p (pos 2 *ℤ a) (pos 2 *ℤ b) (int_max (pos 2 *ℤ a) (pos 2 *ℤ b) +ℤ s +ℤ pos 1) refl (omega (arith, ints, at))

-- what is more than r beyond is more than s beyond, where s is less
sooner : (x r s low : ℤ) → s ≤ℤ r → int_lt (x +ℤ r) low ≡ true → (x +ℤ s) <ℤ low
sooner x r s low less far = let held = less_is (x +ℤ r) low far in omega (arith, ints, held, less)

later : (x r s high : ℤ) → s ≤ℤ r → int_lt high (x -ℤ r) ≡ true → high <ℤ (x -ℤ s)
later x r s high less far = let held = less_is high (x -ℤ r) far in omega (arith, ints, held, less)

-- no segment in the box is hit by a pen far from it
far_near : (r s : ℤ) (box : Rectangle) (p : Position) → s ≤ℤ r → is_far r box p ≡ true → (a b : Position)
    → IsIn box a → IsIn box b → is_near s p (a, b) ≡ false
far_near r s box p less far a b a_in b_in =
    by_test (is_near s p (a, b)) false (int_lt (p.x +ℤ r) (pos 2 *ℤ box.xmin)) (int_lt (pos 2 *ℤ box.xmax) (p.x -ℤ r))
    (int_lt (p.y +ℤ r) (pos 2 *ℤ box.ymin)) (int_lt (pos 2 *ℤ box.ymax) (p.y -ℤ r)) far
    (λ west. meets-beside s p (doubled a) (doubled b)
    (before s p.x a.x b.x box.xmin (sooner p.x r s (pos 2 *ℤ box.xmin) less west) a_in.west b_in.west))
    (λ east. meets-beside s p (doubled a) (doubled b)
    (behind s p.x a.x b.x box.xmax (later p.x r s (pos 2 *ℤ box.xmax) less east) a_in.east b_in.east))
    (λ south. meets-none s p (doubled a) (doubled b)
    (before s p.y a.y b.y box.ymin (sooner p.y r s (pos 2 *ℤ box.ymin) less south) a_in.south b_in.south))
    (λ north. meets-none s p (doubled a) (doubled b)
    (behind s p.y a.y b.y box.ymax (later p.y r s (pos 2 *ℤ box.ymax) less north) a_in.north b_in.north))

-- no marker on a point in the box covers what is far from it
far_marked : (shape : Shape) (r s : ℤ) (box : Rectangle) (p : Position) → pos 0 ≤ℤ s → s ≤ℤ r → is_far r box p ≡ true
    → (at : Position) → IsIn box at → is_marked shape s p at ≡ false
far_marked shape r s box p some less far at at_in =
    by_test (is_marked shape s p at) false (int_lt (p.x +ℤ r) (pos 2 *ℤ box.xmin))
    (int_lt (pos 2 *ℤ box.xmax) (p.x -ℤ r)) (int_lt (p.y +ℤ r) (pos 2 *ℤ box.ymin))
    (int_lt (pos 2 *ℤ box.ymax) (p.y -ℤ r)) far
    (λ west. marked-beside shape s p at some
    (before s p.x at.x at.x box.xmin (sooner p.x r s (pos 2 *ℤ box.xmin) less west) at_in.west at_in.west))
    (λ east. marked-beside shape s p at some
    (behind s p.x at.x at.x box.xmax (later p.x r s (pos 2 *ℤ box.xmax) less east) at_in.east at_in.east))
    (λ south. marked-none shape s p at some
    (before s p.y at.y at.y box.ymin (sooner p.y r s (pos 2 *ℤ box.ymin) less south) at_in.south at_in.south))
    (λ north. marked-none shape s p at some
    (behind s p.y at.y at.y box.ymax (later p.y r s (pos 2 *ℤ box.ymax) less north) at_in.north at_in.north))

-- ---- what is crossed

-- one for what holds
abbrev pub bit : Bool → ℕ
bit true = 1
bit false = 0

-- two tests that differ
abbrev pub differ : Bool → Bool → Bool
differ true b = not b
differ false b = b

-- products in the other order
swap : (x y : ℤ) → x *ℤ y ≡ y *ℤ x
swap x y = omega (arith, ints, product_is x y, product_is y x)

-- a line whose ends lie left of p doesn't pass right of it
passes_not : (x d t h : ℤ) → pos 0 ≤ℤ x → d ≤ℤ x → pos 0 ≤ℤ t → t ≤ℤ h → int_lt (x *ℤ h) (d *ℤ t) ≡ false
passes_not x d t h west east low high =
    let first_one = mul-le-mulZ d x t east low in
    let second_one = mul-le-mulZ t h x high west in
    let third_one = swap x t in
    let fourth_one = swap x h in
    grind (arith, ints)

-- a line whose ends lie right of p passes right of it
passes_all : (y e d t h : ℤ) → pos 1 ≤ℤ y → pos 0 ≤ℤ e → e ≡ d +ℤ y → pos 0 ≤ℤ t → (t +ℤ pos 1) ≤ℤ h
    → int_lt ((pos 0 -ℤ y) *ℤ h) (d *ℤ t) ≡ true
passes_all y e d t h left right sum low high =
    let a = mul-le-mulZ (pos 0) e t right low in
    let b : e *ℤ t ≡ d *ℤ t +ℤ y *ℤ t = ap (λ z. z *ℤ t) sum ∙ add-mul d y t in
    let c = mul-le-mulZ (t +ℤ pos 1) h y high (omega (arith, ints)) in
    let d4 = add-mul t (pos 1) y in
    let e5 = swap t y in
    let f6 = swap h y in
    let g7 : (pos 0 -ℤ y) *ℤ h +ℤ y *ℤ h ≡ pos 0 *ℤ h =
    sym (add-mul (pos 0 -ℤ y) y h) ∙ ap (λ z. z *ℤ h) (let z : (pos 0 -ℤ y) +ℤ y ≡ pos 0 = omega (arith, ints) in z) in
    let h8 : pos 0 *ℤ h ≡ pos 0 = omega (arith, ints, product_is (pos 0) h) in
    let i9 : pos 0 *ℤ t ≡ pos 0 = omega (arith, ints, product_is (pos 0) t) in
    let j10 : pos 1 *ℤ y ≡ y = omega (arith, ints, product_is (pos 1) y) in
    grind (arith, ints)

-- an edge is crossed where its ends differ, if it passes right of p wherever they do
cross_all : (la lb right left : Bool) → (la ≡ true → lb ≡ false → right ≡ true) → (la ≡ false → lb ≡ true → left ≡ true)
    → (if la then (if lb then false else right) else (if lb then left else false)) ≡ differ la lb
cross_all true true right left up down = refl
cross_all true false right left up down = up refl refl
cross_all false true right left up down = down refl refl
cross_all false false right left up down = refl

-- and nowhere, if it never does
cross_none : (la lb right left : Bool) → (la ≡ true → lb ≡ false → right ≡ false) → (la ≡ false → lb ≡ true → left ≡ false)
    → (if la then (if lb then false else right) else (if lb then left else false)) ≡ false
cross_none true true right left up down = refl
cross_none true false right left up down = up refl refl
cross_none false true right left up down = down refl refl
cross_none false false right left up down = refl

-- nor if its ends lie alike
cross_alike : (la lb t right left : Bool) → la ≡ t → lb ≡ t
    → (if la then (if lb then false else right) else (if lb then left else false)) ≡ false
cross_alike true true t right left a b = refl
cross_alike true false t right left a b = cc
cross_alike false true t right left a b = cc
cross_alike false false t right left a b = refl

-- p lies right of both ends of an edge
east_right : (p a b : Position) → a.x ≤ℤ p.x → b.x ≤ℤ p.x → is_low p a ≡ true → is_low p b ≡ false → passes_right p a b ≡ false
east_right p a b aw bw low high =
    let under = most_is a.y p.y low in
    let over = not_most_is b.y p.y high in
    passes_not (p.x -ℤ a.x) (b.x -ℤ a.x) (p.y -ℤ a.y) (b.y -ℤ a.y) (omega (arith, ints, aw)) (omega (arith, ints, bw))
    (omega (arith, ints, under)) (omega (arith, ints, over))

east_crosses : (p a b : Position) → a.x ≤ℤ p.x → b.x ≤ℤ p.x → crosses p a b ≡ false
east_crosses p a b aw bw =
    cross_none (is_low p a) (is_low p b) (passes_right p a b) (passes_right p b a)
    (λ low high. east_right p a b aw bw low high) (λ high low. east_right p b a bw aw low high)

-- p lies left of both
west_right : (p a b : Position) → p.x <ℤ a.x → p.x <ℤ b.x → is_low p a ≡ true → is_low p b ≡ false
    → passes_right p a b ≡ true
west_right p a b aw bw low high =
    let under = most_is a.y p.y low in
    let over = not_most_is b.y p.y high in
    let y = a.x -ℤ p.x in
    let same : p.x -ℤ a.x ≡ pos 0 -ℤ y = omega (arith, ints) in
    ap (λ x. int_lt (x *ℤ (b.y -ℤ a.y)) ((b.x -ℤ a.x) *ℤ (p.y -ℤ a.y))) same
    ∙ passes_all y (b.x -ℤ p.x) (b.x -ℤ a.x) (p.y -ℤ a.y) (b.y -ℤ a.y) (omega (arith, ints, aw)) (omega (arith, ints, bw))
    (omega (arith, ints)) (omega (arith, ints, under)) (omega (arith, ints, over))

west_crosses : (p a b : Position) → p.x <ℤ a.x → p.x <ℤ b.x → crosses p a b ≡ differ (is_low p a) (is_low p b)
west_crosses p a b aw bw =
    cross_all (is_low p a) (is_low p b) (passes_right p a b) (passes_right p b a)
    (λ low high. west_right p a b aw bw low high) (λ high low. west_right p b a bw aw low high)

-- the crossings of a path whose edges are crossed where their ends differ
path_even : (box : Rectangle) (p : Position)
    → ((a b : Position) → IsIn box a → IsIn box b → is_crossed p (a, b) ≡ differ (is_low p (doubled a)) (is_low p (doubled b)))
    → (a : Position) (bs : List Position) → IsIn box a → All (IsIn box) bs
    → (crossings p (edges_from a bs) + (bit (is_low p (doubled a)) + bit (is_low p (doubled (last_of a bs))))) % 2 ≡ 0
path_even box p edge a [] a_in bs_in = twice (bit (is_low p (doubled a)))
  where
    twice : (n : ℕ) → (0 + (n + n)) % 2 ≡ 0
    twice n = omega arith
path_even box p edge a (b ∷ bs) a_in bs_in =
    let b_in = All-head (IsIn box) b bs bs_in in
    let more : crossings p (edges_from a (b ∷ bs)) ≡ cond (is_crossed p (a, b)) 1 0 + crossings p (edges_from b bs) =
    sum_by-cons (λ e. cond (is_crossed p e) 1 0) (a, b) (edges_from b bs) in
    rw (more, edge a b a_in b_in)
    (even_step (is_low p (doubled a)) (is_low p (doubled b)) (crossings p (edges_from b bs))
    (bit (is_low p (doubled (last_of b bs)))) (path_even box p edge b bs b_in (All-tail (IsIn box) b bs bs_in)))
  where
    even_step : (la lb : Bool) (c l : ℕ) → (c + (bit lb + l)) % 2 ≡ 0
        → (cond (differ la lb) 1 0 + c + (bit la + l)) % 2 ≡ 0
    even_step true true c l even = omega (arith, even)
    even_step true false c l even = omega (arith, even)
    even_step false true c l even = omega (arith, even)
    even_step false false c l even = omega (arith, even)

-- a path whose edges aren't crossed
path_none : (box : Rectangle) (p : Position)
    → ((a b : Position) → IsIn box a → IsIn box b → is_crossed p (a, b) ≡ false)
    → (a : Position) (bs : List Position) → IsIn box a → All (IsIn box) bs → crossings p (edges_from a bs) ≡ 0
path_none box p edge a [] a_in bs_in = refl
path_none box p edge a (b ∷ bs) a_in bs_in =
    let b_in = All-head (IsIn box) b bs bs_in in
    sum_by-cons (λ e. cond (is_crossed p e) 1 0) (a, b) (edges_from b bs)
    ∙ ap (λ x. cond x 1 0 + crossings p (edges_from b bs)) (edge a b a_in b_in)
    ∙ zero-add (crossings p (edges_from b bs))
    ∙ path_none box p edge b bs b_in (All-tail (IsIn box) b bs bs_in)

last_in : (box : Rectangle) (a : Position) (rest : List Position) → IsIn box a → All (IsIn box) rest → IsIn box (last_of a rest)
last_in box a [] a_in rest_in = a_in
last_in box a (b ∷ rest) a_in rest_in =
    last_in box b rest (All-head (IsIn box) b rest rest_in) (All-tail (IsIn box) b rest rest_in)

ring_last : (box : Rectangle) (a : Position) (rest : List Position) → All (IsIn box) (a ∷ rest) → IsIn box (last_of a rest)
ring_last box a rest ring_in =
    last_in box a rest (All-head (IsIn box) a rest ring_in) (All-tail (IsIn box) a rest ring_in)

ring_even : (box : Rectangle) (p : Position)
    → ((a b : Position) → IsIn box a → IsIn box b → is_crossed p (a, b) ≡ differ (is_low p (doubled a)) (is_low p (doubled b)))
    → (ring : List Position) → All (IsIn box) ring → crossings p (edges ring) % 2 ≡ 0
ring_even box p edge [] ring_in = refl
ring_even box p edge (a ∷ rest) ring_in =
    halved (crossings p (edges (a ∷ rest))) (bit (is_low p (doubled (last_of a rest))))
    (path_even box p edge (last_of a rest) (a ∷ rest) (ring_last box a rest ring_in) ring_in)
  where
    halved : (c n : ℕ) → (c + (n + n)) % 2 ≡ 0 → c % 2 ≡ 0
    halved c n even = omega (arith, even)

ring_none : (box : Rectangle) (p : Position)
    → ((a b : Position) → IsIn box a → IsIn box b → is_crossed p (a, b) ≡ false)
    → (ring : List Position) → All (IsIn box) ring → crossings p (edges ring) % 2 ≡ 0
ring_none box p edge [] ring_in = refl
ring_none box p edge (a ∷ rest) ring_in =
    ap (λ n. n % 2) (path_none box p edge (last_of a rest) (a ∷ rest) (ring_last box a rest ring_in) ring_in)

-- a ring is crossed an even number of times by what is far from its box
far_ring : (r : ℤ) (box : Rectangle) (p : Position) → pos 0 ≤ℤ r → is_far r box p ≡ true
    → (ring : List Position) → All (IsIn box) ring → crossings p (edges ring) % 2 ≡ 0
far_ring r box p some far ring ring_in =
    by_test (crossings p (edges ring) % 2) 0 (int_lt (p.x +ℤ r) (pos 2 *ℤ box.xmin))
    (int_lt (pos 2 *ℤ box.xmax) (p.x -ℤ r)) (int_lt (p.y +ℤ r) (pos 2 *ℤ box.ymin))
    (int_lt (pos 2 *ℤ box.ymax) (p.y -ℤ r)) far
    (λ west. let held = sooner p.x r (pos 0) (pos 2 *ℤ box.xmin) some west in
    ring_even box p (λ a b a_in b_in.
    west_crosses p (doubled a) (doubled b) (omega (arith, ints, held, a_in.west)) (omega (arith, ints, held, b_in.west)))
    ring ring_in)
    (λ east. let held = later p.x r (pos 0) (pos 2 *ℤ box.xmax) some east in
    ring_none box p (λ a b a_in b_in.
    east_crosses p (doubled a) (doubled b) (omega (arith, ints, held, a_in.east)) (omega (arith, ints, held, b_in.east)))
    ring ring_in)
    (λ south. let held = sooner p.y r (pos 0) (pos 2 *ℤ box.ymin) some south in
    ring_none box p (λ a b a_in b_in.
    cross_alike (is_low p (doubled a)) (is_low p (doubled b)) false (passes_right p (doubled a) (doubled b))
    (passes_right p (doubled b) (doubled a))
    (not_most (pos 2 *ℤ a.y) p.y (omega (arith, ints, held, a_in.south)))
    (not_most (pos 2 *ℤ b.y) p.y (omega (arith, ints, held, b_in.south))))
    ring ring_in)
    (λ north. let held = later p.y r (pos 0) (pos 2 *ℤ box.ymax) some north in
    ring_none box p (λ a b a_in b_in.
    cross_alike (is_low p (doubled a)) (is_low p (doubled b)) true (passes_right p (doubled a) (doubled b))
    (passes_right p (doubled b) (doubled a))
    (most_holds (pos 2 *ℤ a.y) p.y (omega (arith, ints, held, a_in.north)))
    (most_holds (pos 2 *ℤ b.y) p.y (omega (arith, ints, held, b_in.north))))
    ring ring_in)

far_rings : (r : ℤ) (box : Rectangle) (p : Position) → pos 0 ≤ℤ r → is_far r box p ≡ true
    → (rings : List (List Position)) → All (All (IsIn box)) rings → crossings p (flat_map edges rings) % 2 ≡ 0
far_rings r box p some far [] rings_in = refl
far_rings r box p some far (ring ∷ rings) rings_in =
    let more : crossings p (flat_map edges (ring ∷ rings)) ≡ crossings p (edges ring) + crossings p (flat_map edges rings) =
    ap (crossings p) (flat_map-cons edges ring rings)
    ∙ sum_by-append (λ e. cond (is_crossed p e) 1 0) (edges ring) (flat_map edges rings) in
    both (crossings p (flat_map edges (ring ∷ rings))) (crossings p (edges ring)) (crossings p (flat_map edges rings)) more
    (far_ring r box p some far ring (All-head (All (IsIn box)) ring rings rings_in))
    (far_rings r box p some far rings (All-tail (All (IsIn box)) ring rings rings_in))
  where
    both : (n a b : ℕ) → n ≡ a + b → a % 2 ≡ 0 → b % 2 ≡ 0 → n % 2 ≡ 0
    both n a b sum first_even second_even = omega (arith, sum, first_even, second_even)

-- no polygon in the box has inside what is far from it
far_inside : (r : ℤ) (box : Rectangle) (p : Position) → pos 0 ≤ℤ r → is_far r box p ≡ true
    → (rings : List (List Position)) → All (All (IsIn box)) rings → is_inside p rings ≡ false
far_inside r box p some far rings rings_in = ap (λ n. n == 1) (far_rings r box p some far rings rings_in)

-- ---- a geometry in the box

none_of : {A : Type 0} (P : A → Type 0) (f : A → Bool) → ((x : A) → P x → f x ≡ false) → (xs : List A) → All P xs
    → list_any f xs ≡ false
none_of P f each [] all = refl
none_of P f each (x ∷ xs) all = rw (each x (All-head P x xs all), none_of P f each xs (All-tail P x xs all)) refl

far_path : (r s : ℤ) (box : Rectangle) (p : Position) → s ≤ℤ r → is_far r box p ≡ true
    → (a : Position) (bs : List Position) → IsIn box a → All (IsIn box) bs → list_any (is_near s p) (edges_from a bs) ≡ false
far_path r s box p less far a [] a_in bs_in = refl
far_path r s box p less far a (b ∷ bs) a_in bs_in =
    let b_in = All-head (IsIn box) b bs bs_in in
    rw (
      far_near r s box p less far a b a_in b_in,
      far_path r s box p less far b bs b_in (All-tail (IsIn box) b bs bs_in),
    ) refl

far_ring_hit : (r s : ℤ) (box : Rectangle) (p : Position) → s ≤ℤ r → is_far r box p ≡ true
    → (ring : List Position) → All (IsIn box) ring → hits_ring s p ring ≡ false
far_ring_hit r s box p less far [] ring_in = refl
far_ring_hit r s box p less far (a ∷ rest) ring_in =
    far_path r s box p less far (last_of a rest) (a ∷ rest) (ring_last box a rest ring_in) ring_in

far_line_hit : (r s : ℤ) (box : Rectangle) (p : Position) → s ≤ℤ r → is_far r box p ≡ true
    → (line : List Position) → All (IsIn box) line → hits_line s p line ≡ false
far_line_hit r s box p less far [] line_in = refl
far_line_hit r s box p less far (a ∷ []) line_in =
    let a_in = All-head (IsIn box) a [] line_in in
    rw (far_near r s box p less far a a a_in a_in) refl
far_line_hit r s box p less far (a ∷ b ∷ rest) line_in =
    far_path r s box p less far a (b ∷ rest) (All-head (IsIn box) a (b ∷ rest) line_in) (All-tail (IsIn box) a (b ∷ rest) line_in)

-- no polygon of a geometry covers what is far from its box
pub far_covered : (r : ℤ) (box : Rectangle) (p : Position) → pos 0 ≤ℤ r → is_far r box p ≡ true
    → (g : GeometryLists) → box_of g ≡ Some box → is_covered p g ≡ false
far_covered r box p some far g boxed =
    none_of (All (All (IsIn box))) (is_inside p) (λ rings rings_in. far_inside r box p some far rings rings_in) g.polygons
    (boxes_hold g box boxed).polygons

-- a half side of at most n pixels
side_in : (view : PixelGrid) (k n : ℕ) → pos 1 ≤ℤ view.u → k ≤ n
    → (pos 0 ≤ℤ half_side view k) × (half_side view k ≤ℤ half_side view n)
side_in view k n unit less = scaled k n view.u less unit

far_pen : (view : PixelGrid) (n : ℕ) (box : Rectangle) (p : Position) (g : GeometryLists) → pos 1 ≤ℤ view.u
    → is_far (half_side view n) box p ≡ true → box_of g ≡ Some box
    → (pen : Option PenParts) → ((drawn : PenParts) → pen ≡ Some drawn → drawn.width ≤ n) → pen_strokes view p g pen ≡ []
far_pen view n box p g unit far boxed None most = refl
far_pen view n box p g unit far boxed (Some pen) most =
    let r = half_side view pen.width in
    let side = side_in view pen.width n unit (most pen refl) in
    let held = boxes_hold g box boxed in
    let rings : hits_rings r p g ≡ false =
    none_of (All (All (IsIn box))) (list_any (hits_ring r p))
    (λ polygon polygon_in. none_of (All (IsIn box)) (hits_ring r p)
    (far_ring_hit (half_side view n) r box p side.1 far) polygon polygon_in)
    g.polygons held.polygons in
    let lines : hits_lines r p g ≡ false =
    none_of (All (IsIn box)) (hits_line r p) (far_line_hit (half_side view n) r box p side.1 far) g.lines held.lines in
    rw (rings, lines) refl

far_marker : (view : PixelGrid) (n : ℕ) (box : Rectangle) (p : Position) (g : GeometryLists) → pos 1 ≤ℤ view.u
    → is_far (half_side view n) box p ≡ true → box_of g ≡ Some box
    → (marker : Option MarkerParts) → ((drawn : MarkerParts) → marker ≡ Some drawn → drawn.size ≤ n)
    → marker_strokes view p g marker ≡ []
far_marker view n box p g unit far boxed None most = refl
far_marker view n box p g unit far boxed (Some marker) most =
    let r = half_side view marker.size in
    let side = side_in view marker.size n unit (most marker refl) in
    rw (none_of (IsIn box) (is_marked marker.shape r p)
    (far_marked marker.shape (half_side view n) r box p side.0 side.1 far) g.points (boxes_hold g box boxed).points) refl

far_fill : (p : Position) (g : GeometryLists) (fill : Option Rgba) → is_covered p g ≡ false → fill_strokes p g fill ≡ []
far_fill p g None none = refl
far_fill p g (Some colour) none = rw none refl

-- a geometry lays nothing on what is farther from its box than half the widest part of its symbol
pub far_strokes : (symbol : Symbol) (view : PixelGrid) (n : ℕ) (box : Rectangle) (p : Position) (g : GeometryLists)
    → pos 1 ≤ℤ view.u → is_far (half_side view n) box p ≡ true → box_of g ≡ Some box
    → ((drawn : PenParts) → symbol.pen ≡ Some drawn → drawn.width ≤ n)
    → ((drawn : MarkerParts) → symbol.marker ≡ Some drawn → drawn.size ≤ n)
    → strokes_of symbol view p g ≡ []
unfolding strokes_of
far_strokes symbol view n box p g unit far boxed pens markers =
    let some = (side_in view n n unit (omega arith)).0 in
    rw (
      far_fill p g symbol.fill (far_covered (half_side view n) box p some far g boxed),
      far_pen view n box p g unit far boxed symbol.pen pens,
      far_marker view n box p g unit far boxed symbol.marker markers,
    ) refl

-- a feature lays nothing on what is far from its box, with any symbol that is no wider
pub missed : (drawn : Option Symbol) (view : PixelGrid) (n : ℕ) (box : Rectangle) (p : Position) (g : Option GeometryLists)
    → option_and_then box_of g ≡ Some box → pos 1 ≤ℤ view.u → is_far (half_side view n) box p ≡ true
    → option_map_or width_of drawn 0 ≤ n → strokes drawn view p g ≡ []
missed None view n box p g boxed unit far most = refl
missed (Some symbol) view n box p None boxed unit far most = refl
missed (Some symbol) view n box p (Some g) boxed unit far most =
    far_strokes symbol view n box p g unit far boxed (pen_within symbol n most) (marker_within symbol n most)
  where
    pen_within : (symbol : Symbol) (n : ℕ) → width_of symbol ≤ n → (drawn : PenParts) → symbol.pen ≡ Some drawn
        → drawn.width ≤ n
    pen_within symbol n most drawn is =
        let own = option_map_or (λ (marker : MarkerParts). marker.size) symbol.marker 1 in
        omega (arith, le-max_left drawn.width own, rw is at most)

    marker_within : (symbol : Symbol) (n : ℕ) → width_of symbol ≤ n → (drawn : MarkerParts)
        → symbol.marker ≡ Some drawn → drawn.size ≤ n
    marker_within symbol n most drawn is =
        let own = option_map_or (λ (pen : PenParts). pen.width) symbol.pen 1 in
        omega (arith, le-max_right own drawn.size, rw is at most)

-- and covers nothing of it
pub outside : (box : Rectangle) (p : Position) (g : Option GeometryLists) → option_and_then box_of g ≡ Some box
    → is_far (pos 0) box p ≡ true → option_map_or (is_covered p) g false ≡ false
outside box p None boxed far = refl
outside box p (Some g) boxed far = far_covered (pos 0) box p (omega (arith, ints)) far g boxed

-- ---- the centres of a view

-- centres descend from row to row
centres_fall : (v : PixelGrid) (i j k : ℕ) → pos 1 ≤ℤ v.u → j ≤ k → (centre_of v i k).y ≤ℤ (centre_of v i j).y
centres_fall v i j k unit less =
    let step : pos (2 * j + 1) ≤ℤ pos (2 * k + 1) = omega (arith, ints) in
    let wide = mul-le-mulZ (pos (2 * j + 1)) (pos (2 * k + 1)) v.u step (omega (arith, ints)) in
    omega (arith, ints)

-- all centres are far from a box, if the first and the last column, or the first and the last row, are
pub all_far : (v : PixelGrid) (r : ℤ) (box : Rectangle) (one other : Position) (far : Bool) → pos 1 ≤ℤ v.u
    → one ≡ centre_of v 0 0 → other ≡ centre_of v (v.w - 1) (v.h - 1)
    → far ≡ ((int_lt (other.x +ℤ r) (pos 2 *ℤ box.xmin) || int_lt (pos 2 *ℤ box.xmax) (one.x -ℤ r))
    || (int_lt (one.y +ℤ r) (pos 2 *ℤ box.ymin) || int_lt (pos 2 *ℤ box.ymax) (other.y -ℤ r)))
    → far ≡ true → (i j : ℕ) → i < v.w → j < v.h → is_far r box (centre_of v i j) ≡ true
all_far v r box one other far unit at_one at_other told held i j i_in j_in =
    let p = centre_of v i j in
    let east : p.x ≤ℤ other.x = rw at_other (centres-rise v i (v.w - 1) j unit (omega (arith, i_in))) in
    let west : one.x ≤ℤ p.x = rw at_one (centres-rise v 0 i j unit (omega arith)) in
    let south : other.y ≤ℤ p.y = rw at_other (centres_fall v i j (v.h - 1) unit (omega (arith, j_in))) in
    let north : p.y ≤ℤ one.y = rw at_one (centres_fall v i 0 j unit (omega arith)) in
    let wa = int_lt (other.x +ℤ r) (pos 2 *ℤ box.xmin) in
    let ea = int_lt (pos 2 *ℤ box.xmax) (one.x -ℤ r) in
    let sa = int_lt (one.y +ℤ r) (pos 2 *ℤ box.ymin) in
    let na = int_lt (pos 2 *ℤ box.ymax) (other.y -ℤ r) in
    let w = int_lt (p.x +ℤ r) (pos 2 *ℤ box.xmin) in
    let e = int_lt (pos 2 *ℤ box.xmax) (p.x -ℤ r) in
    let s = int_lt (p.y +ℤ r) (pos 2 *ℤ box.ymin) in
    let n = int_lt (pos 2 *ℤ box.ymax) (p.y -ℤ r) in
    by_test (is_far r box p) true wa ea sa na (sym (flat wa ea sa na) ∙ sym told ∙ held)
    (λ t. first w e s n (before_too p.x other.x r (pos 2 *ℤ box.xmin) east t))
    (λ t. second w e s n (behind_too p.x one.x r (pos 2 *ℤ box.xmax) west t))
    (λ t. third w e s n (before_too p.y one.y r (pos 2 *ℤ box.ymin) north t))
    (λ t. fourth w e s n (behind_too p.y other.y r (pos 2 *ℤ box.ymax) south t))
  where
    flat : (a b c d : Bool) → ((a || b) || (c || d)) ≡ (a || (b || (c || d)))
    flat true b c d = refl
    flat false b c d = refl

    before_too : (x right r low : ℤ) → x ≤ℤ right → int_lt (right +ℤ r) low ≡ true → int_lt (x +ℤ r) low ≡ true
    before_too x right r low less t =
        let h = less_is (right +ℤ r) low t in less_holds (x +ℤ r) low (omega (arith, ints, h, less))

    behind_too : (x left r high : ℤ) → left ≤ℤ x → int_lt high (left -ℤ r) ≡ true → int_lt high (x -ℤ r) ≡ true
    behind_too x left r high more t =
        let h = less_is high (left -ℤ r) t in less_holds high (x -ℤ r) (omega (arith, ints, h, more))
