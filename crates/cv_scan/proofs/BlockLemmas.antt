-- Blocks: the parity of an upright rectangle's edges, and the runs of its rows.
use Rattle.std.proofs.Common.{◌≡◌, ◌∙◌, sym, ap, refl, ℕ, ◌+◌, ◌%◌, ◌<◌, ◌≤◌, nat_lt, nat_le, ◌==◌, ◌⊎◌, inl, inr, Bool, true, false, not, cond, ◌&&◌, ◌||◌, if◌then◌else◌, List, [], ◌∷◌, ◌++◌, length, get_or, ℤ, pos, negsuc, ◌-ℤ◌, ◌*ℤ◌, ◌≤ℤ◌, ◌<ℤ◌, int_lt, int_le, arith}
use Rattle.std.proofs.Math.IntN.{zero-*ℤ}
use Rattle.std.proofs.lemmas.Int.{ints}
use Rattle.std.proofs.lemmas.Bool.Decides.{nat_tests}
use Rattle.cv_model.specs.declared.span.Span.{Span}
use Rattle.cv_model.specs.Positions.{Position, doubled}
use Rattle.cv_model.specs.Views.{PixelGrid, centre_of}
use Rattle.cv_model.specs.Polygons.{is_low, passes_right, is_crossed, crossings, edges}
use Rattle.cv_geom.specs.declared.runs.Run.{Run}
use Rattle.cv_geom.specs.declared.runs.Area.{Area}
use Rattle.cv_geom.specs.Falls.{FallsAt}
use Rattle.cv_geom.specs.Runs.{is_on_any, in_row, IsIn, Adds}
use Rattle.cv_geom.specs.Spans.{AreRuns}
use Rattle.cv_geom.proofs.ProductLemmas.{mul-le-mulZ}
use Rattle.cv_geom.proofs.RunLemmas.{adds-row}
use Rattle.cv_scan.specs.Blocks.{differs, is_in_block, GoRound, IsLevelFirst, IsUprightFirst}
use Rattle.cv_scan.specs.Marks.{CrossesRows}

-- ---- the edges of an upright rectangle

low-same : (p a b : Position) → a.y ≡ b.y → is_low p (doubled a) ≡ is_low p (doubled b)
low-same p a b same = ap (λ (y : ℤ). int_le (pos 2 *ℤ y) p.y) same

left-same : (p a b : Position) → a.x ≡ b.x → int_lt p.x (doubled a).x ≡ int_lt p.x (doubled b).x
left-same p a b same = ap (λ (x : ℤ). int_lt p.x (pos 2 *ℤ x)) same

-- a level edge isn't crossed
level-edge : (p a b : Position) → a.y ≡ b.y → is_crossed p (a, b) ≡ false
level-edge p a b same =
    level
    (is_low p (doubled a)) (is_low p (doubled b)) (passes_right p (doubled a) (doubled b))
    (passes_right p (doubled b) (doubled a)) (low-same p a b same)
  where
    level :
        (x y up down : Bool) → x ≡ y
        → (if x then (if y then false else up) else (if y then down else false)) ≡ false
    level true true up down same = refl
    level true false up down same = cc
    level false true up down same = cc
    level false false up down same = refl

-- a product has the sign of a factor whose other factor is above 0
sign-mul : (d h : ℤ) → pos 1 ≤ℤ h → int_lt (d *ℤ h) (pos 0) ≡ int_lt d (pos 0)
sign-mul d h some = pick (int_lt d (pos 0)) refl
  where
    pick : (t : Bool) → int_lt d (pos 0) ≡ t → int_lt (d *ℤ h) (pos 0) ≡ t
    pick true below =
        let under : d ≤ℤ negsuc 0 = grind (arith, ints) in
        let far = mul-le-mulZ d (negsuc 0) h under (omega (arith, ints)) in
        let one : (negsuc 0 *ℤ h) ≤ℤ negsuc 0 = minus h some in
        less (d *ℤ h) (negsuc 0 *ℤ h) far one
      where
        minus : (h : ℤ) → pos 1 ≤ℤ h → (negsuc 0 *ℤ h) ≤ℤ negsuc 0
        minus (pos n) some = omega (arith, ints)
        minus (negsuc n) some = absurd (omega (arith, ints))

        less : (x y : ℤ) → x ≤ℤ y → y ≤ℤ negsuc 0 → int_lt x (pos 0) ≡ true
        less x y order end = grind (arith, ints)
    pick false above =
        let over : pos 0 ≤ℤ d = grind (arith, ints) in
        let far = mul-le-mulZ (pos 0) d h over (omega (arith, ints)) in
        let none = zero-*ℤ h in
        more (d *ℤ h) (pos 0 *ℤ h) far none
      where
        more : (x y : ℤ) → y ≤ℤ x → y ≡ pos 0 → int_lt x (pos 0) ≡ false
        more x y order none = grind (arith, ints)

-- the line of an upright edge passes right of what lies left of it
upright-passes :
    (p a b : Position) → a.x ≡ b.x → a.y ≤ℤ p.y → p.y <ℤ b.y → passes_right p a b ≡ int_lt p.x a.x
upright-passes p a b same low high =
    let wide : b.x -ℤ a.x ≡ pos 0 = omega (arith, ints) in
    let none : (b.x -ℤ a.x) *ℤ (p.y -ℤ a.y) ≡ pos 0 = ap (λ z. z *ℤ (p.y -ℤ a.y)) wide ∙ zero-*ℤ (p.y -ℤ a.y) in
    ap (λ z. int_lt ((p.x -ℤ a.x) *ℤ (b.y -ℤ a.y)) z) none
    ∙ sign-mul (p.x -ℤ a.x) (b.y -ℤ a.y) (omega (arith, ints))
    ∙ turned p.x a.x
  where
    turned : (x y : ℤ) → int_lt (x -ℤ y) (pos 0) ≡ int_lt x y
    turned x y = grind (arith, ints)

most-is : (x y : ℤ) → int_le x y ≡ true → x ≤ℤ y
most-is x y h = grind (arith, ints)

not-most-is : (x y : ℤ) → int_le x y ≡ false → y <ℤ x
not-most-is x y h = grind (arith, ints)

-- an upright edge is crossed at the heights between its ends, by what lies left of it
upright-edge :
    (p a b : Position) → a.x ≡ b.x
    → is_crossed p (a, b) ≡ (differs (is_low p (doubled a)) (is_low p (doubled b)) && int_lt p.x (doubled a).x)
upright-edge p a b same = pick (is_low p (doubled a)) (is_low p (doubled b)) refl refl
  where
    twice : (doubled a).x ≡ (doubled b).x
    twice = ap (λ (x : ℤ). pos 2 *ℤ x) same

    pick :
        (s t : Bool) → is_low p (doubled a) ≡ s → is_low p (doubled b) ≡ t
        → (if s
        then (if t then false else passes_right p (doubled a) (doubled b))
        else (if t then passes_right p (doubled b) (doubled a) else false))
        ≡ (differs s t && int_lt p.x (doubled a).x)
    pick true true low_a low_b = refl
    pick true false low_a low_b =
        upright-passes p (doubled a) (doubled b) twice (most-is (doubled a).y p.y low_a)
        (not-most-is (doubled b).y p.y low_b)
    pick false true low_a low_b =
        upright-passes p (doubled b) (doubled a) (sym twice) (most-is (doubled b).y p.y low_b)
        (not-most-is (doubled a).y p.y low_a)
        ∙ ap (λ z. int_lt p.x z) (sym twice)
    pick false false low_a low_b = refl

to_one : Bool → ℕ
to_one b = cond b 1 0

-- five edges of which some are crossed
five :
    (p a b c d e : Position)
    → crossings p (edges (a ∷ b ∷ c ∷ d ∷ e ∷ []))
    ≡ cond (is_crossed p (e, a)) 1 0 + cond (is_crossed p (a, b)) 1 0 + cond (is_crossed p (b, c)) 1 0
    + cond (is_crossed p (c, d)) 1 0 + cond (is_crossed p (d, e)) 1 0
five p a b c d e =
    all
    (cond (is_crossed p (e, a)) 1 0) (cond (is_crossed p (a, b)) 1 0) (cond (is_crossed p (b, c)) 1 0)
    (cond (is_crossed p (c, d)) 1 0) (cond (is_crossed p (d, e)) 1 0)
  where
    all : (k l m n o : ℕ) → 0 + k + l + m + n + o ≡ k + l + m + n + o
    all k l m n o = omega arith

-- two upright edges at the same heights, each behind a level one
sides-sum :
    (l m x y : Bool)
    → ((cond false 1 0 + cond false 1 0 + cond (differs l m && x) 1 0 + cond false 1 0 + cond (differs m l && y) 1 0) % 2 == 1)
    ≡ (differs l m && differs y x)
sides-sum true true x y = refl
sides-sum true false true true = refl
sides-sum true false true false = refl
sides-sum true false false true = refl
sides-sum true false false false = refl
sides-sum false true true true = refl
sides-sum false true true false = refl
sides-sum false true false true = refl
sides-sum false true false false = refl
sides-sum false false x y = refl

-- or each before one
sides-turned :
    (l m x y : Bool)
    → ((cond false 1 0 + cond (differs l m && x) 1 0 + cond false 1 0 + cond (differs m l && y) 1 0 + cond false 1 0) % 2 == 1)
    ≡ (differs l m && differs x y)
sides-turned true true x y = refl
sides-turned true false true true = refl
sides-turned true false true false = refl
sides-turned true false false true = refl
sides-turned true false false false = refl
sides-turned false true true true = refl
sides-turned false true true false = refl
sides-turned false true false true = refl
sides-turned false true false false = refl
sides-turned false false x y = refl

-- what is inside an upright rectangle
pub round-inside :
    (p a b c d e : Position) → GoRound a b c d e
    → (crossings p (edges (a ∷ b ∷ c ∷ d ∷ e ∷ [])) % 2 == 1) ≡ is_in_block p a c
round-inside p a b c d e round = by round.sides
  where
    low_e : is_low p (doubled e) ≡ is_low p (doubled a)
    low_e = low-same p e a round.up

    low_a : Bool
    low_a = is_low p (doubled a)

    low_c : Bool
    low_c = is_low p (doubled c)

    closed : is_crossed p (e, a) ≡ false
    closed = level-edge p e a round.up

    counted :
        {r s t u w : Bool} {told : Bool} → is_crossed p (e, a) ≡ r → is_crossed p (a, b) ≡ s → is_crossed p (b, c) ≡ t
        → is_crossed p (c, d) ≡ u → is_crossed p (d, e) ≡ w
        → ((cond r 1 0 + cond s 1 0 + cond t 1 0 + cond u 1 0 + cond w 1 0) % 2 == 1) ≡ told
        → (crossings p (edges (a ∷ b ∷ c ∷ d ∷ e ∷ [])) % 2 == 1) ≡ told
    counted r_is s_is t_is u_is w_is all =
        ap (λ n. n % 2 == 1) (five p a b c d e) ∙ rw (r_is, s_is, t_is, u_is, w_is) all

    by :
        IsLevelFirst a b c d e ⊎ IsUprightFirst a b c d e
        → (crossings p (edges (a ∷ b ∷ c ∷ d ∷ e ∷ [])) % 2 == 1) ≡ is_in_block p a c
    by (inl level) =
        let first = level-edge p a b level.0 in
        let third = level-edge p c d level.2 in
        let low_b = low-same p a b level.0 in
        let low_d = low-same p c d level.2 in
        let left_b = left-same p b c level.1 in
        let left_d = left-same p d e level.3 ∙ left-same p e a round.across in
        let east : is_crossed p (b, c) ≡ (differs low_a low_c && int_lt p.x (doubled c).x) =
        upright-edge p b c level.1
        ∙ ap (λ t. differs t low_c && int_lt p.x (doubled b).x) (sym low_b)
        ∙ ap (λ t. differs low_a low_c && t) left_b in
        let west : is_crossed p (d, e) ≡ (differs low_c low_a && int_lt p.x (doubled a).x) =
        upright-edge p d e level.3
        ∙ ap (λ t. differs t (is_low p (doubled e)) && int_lt p.x (doubled d).x) (sym low_d)
        ∙ ap (λ t. differs low_c t && int_lt p.x (doubled d).x) low_e
        ∙ ap (λ t. differs low_c low_a && t) left_d in
        counted closed first east third west
        (sides-sum low_a low_c (int_lt p.x (doubled c).x) (int_lt p.x (doubled a).x))
    by (inr upright) =
        let second = level-edge p b c upright.1 in
        let fourth = level-edge p d e upright.3 in
        let low_b = low-same p b c upright.1 in
        let low_d = low-same p d e upright.3 ∙ low_e in
        let west : is_crossed p (a, b) ≡ (differs low_a low_c && int_lt p.x (doubled a).x) =
        upright-edge p a b upright.0 ∙ ap (λ t. differs low_a t && int_lt p.x (doubled a).x) low_b in
        let east : is_crossed p (c, d) ≡ (differs low_c low_a && int_lt p.x (doubled c).x) =
        upright-edge p c d upright.2 ∙ ap (λ t. differs low_c t && int_lt p.x (doubled c).x) low_d in
        counted closed west second east fourth
        (sides-turned low_a low_c (int_lt p.x (doubled a).x) (int_lt p.x (doubled c).x))

-- ---- the columns of a block

-- between the numbers where two tests fall exactly one of them holds
pub run-differs :
    (p q : ℕ → Bool) (from to k n : ℕ) → FallsAt p from to k → FallsAt q from to n → k < n
    → AreRuns (λ i. differs (p i) (q i)) from to ((record { from = k; end = n }) ∷ [])
run-differs p q from to k n first second less = record {
  apart = (first.low_in, less, second.high_in, tt);
  covered = λ i below under.
      tests i (nat_lt i k) (nat_lt i n) refl refl
      ∙ ap (λ s. differs s (nat_lt i n)) (sym (first.falls i below under))
      ∙ ap (λ s. differs (p i) s) (sym (second.falls i below under));
}
  where
    tests :
        (i : ℕ) (s t : Bool) → nat_lt i k ≡ s → nat_lt i n ≡ t
        → ((nat_le k i && nat_lt i n) || false) ≡ differs (nat_lt i k) (nat_lt i n)
    tests i true true left right =
        let out : nat_le k i ≡ false = grind (arith, nat_tests) in rw (out, left, right) refl
    tests i true false left right = absurd (grind (arith, nat_tests))
    tests i false true left right =
        let here : nat_le k i ≡ true = grind (arith, nat_tests) in rw (here, left, right) refl
    tests i false false left right =
        let here : nat_le k i ≡ true = grind (arith, nat_tests) in rw (here, left, right) refl

pub run-same :
    (p q : ℕ → Bool) (from to k n : ℕ) → FallsAt p from to k → FallsAt q from to n → k ≡ n
    → AreRuns (λ i. differs (p i) (q i)) from to []
run-same p q from to k n first second same = record {
  apart = tt;
  covered = λ i below under.
      let alike = first.falls i below under ∙ ap (nat_lt i) same ∙ sym (second.falls i below under) in
      none (p i) (q i) alike;
}
  where
    none : (s t : Bool) → s ≡ t → false ≡ differs s t
    none true true alike = refl
    none true false alike = cc
    none false true alike = cc
    none false false alike = refl

-- runs of a test are those of another that answers the same
pub runs-alike :
    (p q : ℕ → Bool) (from to : ℕ) (spans : List Span) → ((i : ℕ) → p i ≡ q i) → AreRuns p from to spans
    → AreRuns q from to spans
runs-alike p q from to spans alike runs = record {
  apart = runs.apart;
  covered = λ i below under. runs.covered i below under ∙ alike i;
}

-- ---- the rows of a block

or-none : (b : Bool) → b ≡ (b || false)
or-none true = refl
or-none false = refl

not-differs : (s t x : Bool) → s ≡ t → (differs s t && x) ≡ false
not-differs true true x same = refl
not-differs true false x same = cc
not-differs false true x same = cc
not-differs false false x same = refl

all-differ : (s t x : Bool) → s ≡ not t → (differs s t && x) ≡ x
all-differ true true x apart = cc
all-differ true false x apart = refl
all-differ false true x apart = refl
all-differ false false x apart = cc

-- nothing is added before the first row
pub block-before :
    (v : PixelGrid) (a c : Position) (area : Area) (rows : Span) (runs : List Run) → CrossesRows v a c area rows
    → Adds (λ i j. nat_lt j rows.from && is_in_block (centre_of v i j) a c) area runs runs
block-before v a c area rows runs crossed = record {
  within = λ all. all;
  covered = λ i j here. pick i j here (nat_lt j rows.from) refl;
}
  where
    pick :
        (i j : ℕ) → IsIn area i j → (t : Bool) → nat_lt j rows.from ≡ t
        → is_on_any i j runs ≡ (is_on_any i j runs || (t && is_in_block (centre_of v i j) a c))
    pick i j here true less =
        let same = crossed.before j here.north (grind (arith, nat_tests)) in
        let none =
        not-differs (is_low (centre_of v i j) (doubled a)) (is_low (centre_of v i j) (doubled c))
        (differs (int_lt (centre_of v i j).x (doubled a).x) (int_lt (centre_of v i j).x (doubled c).x)) same in
        or-none (is_on_any i j runs) ∙ ap (λ b. is_on_any i j runs || b) (sym none)
    pick i j here false less = or-none (is_on_any i j runs)

-- nor behind the last
pub block-behind :
    (v : PixelGrid) (a c : Position) (area : Area) (rows : Span) (row : ℕ) (old new : List Run)
    → CrossesRows v a c area rows → rows.end ≤ row
    → Adds (λ i j. nat_lt j row && is_in_block (centre_of v i j) a c) area old new
    → Adds (λ i j. is_in_block (centre_of v i j) a c) area old new
block-behind v a c area rows row old new crossed end told = record {
  within = told.within;
  covered = λ i j here. told.covered i j here ∙ ap (λ b. is_on_any i j old || b) (pick i j here (nat_lt j row) refl);
}
  where
    pick :
        (i j : ℕ) → IsIn area i j → (t : Bool) → nat_lt j row ≡ t
        → (t && is_in_block (centre_of v i j) a c) ≡ is_in_block (centre_of v i j) a c
    pick i j here true less = refl
    pick i j here false less =
        let over : row ≤ j = grind (arith, nat_tests) in
        let same = crossed.behind j (omega arith) here.south in
        sym
        (not-differs (is_low (centre_of v i j) (doubled a)) (is_low (centre_of v i j) (doubled c))
        (differs (int_lt (centre_of v i j).x (doubled a).x) (int_lt (centre_of v i j).x (doubled c).x)) same)

-- one row more
pub block-row :
    (v : PixelGrid) (a c : Position) (area : Area) (rows : Span) (row : ℕ) (spans : List Span) (first old new : List Run)
    → CrossesRows v a c area rows → rows.from ≤ row → row < rows.end
    → AreRuns
    (λ i. differs (int_lt (centre_of v i 0).x (doubled a).x) (int_lt (centre_of v i 0).x (doubled c).x))
    area.columns.from area.columns.end spans
    → Adds (λ i j. nat_lt j row && is_in_block (centre_of v i j) a c) area first old → new ≡ old ++ in_row row spans
    → Adds (λ i j. nat_lt j (row + 1) && is_in_block (centre_of v i j) a c) area first new
block-row v a c area rows row spans first old new crossed north south runs before put =
    let top = crossed.north in
    let bottom = crossed.south in
    adds-row (λ i j. is_in_block (centre_of v i j) a c) area row spans first old new (omega arith) (omega arith)
    (runs-alike
    (λ i. differs (int_lt (centre_of v i 0).x (doubled a).x) (int_lt (centre_of v i 0).x (doubled c).x))
    (λ i. is_in_block (centre_of v i row) a c) area.columns.from area.columns.end spans
    (λ i.
    sym
    (all-differ (is_low (centre_of v i row) (doubled a)) (is_low (centre_of v i row) (doubled c))
    (differs (int_lt (centre_of v i row).x (doubled a).x) (int_lt (centre_of v i row).x (doubled c).x))
    (crossed.apart row north south)))
    runs)
    before put

-- ---- five points

pub five-items :
    (xs : List Position) (a b c d e m n o p q : Position) → 5 ≤ length xs → length xs < 6 → a ≡ get_or xs 0 m
    → b ≡ get_or xs 1 n → c ≡ get_or xs 2 o → d ≡ get_or xs 3 p → e ≡ get_or xs 4 q → xs ≡ a ∷ b ∷ c ∷ d ∷ e ∷ []
five-items [] a b c d e m n o p q many few first second third fourth fifth = absurd (omega arith)
five-items (v ∷ []) a b c d e m n o p q many few first second third fourth fifth = absurd (omega arith)
five-items (v ∷ w ∷ []) a b c d e m n o p q many few first second third fourth fifth = absurd (omega arith)
five-items (v ∷ w ∷ x ∷ []) a b c d e m n o p q many few first second third fourth fifth = absurd (omega arith)
five-items (v ∷ w ∷ x ∷ y ∷ []) a b c d e m n o p q many few first second third fourth fifth = absurd (omega arith)
five-items (v ∷ w ∷ x ∷ y ∷ z ∷ []) a b c d e m n o p q many few first second third fourth fifth =
    rw (first, second, third, fourth, fifth) refl
five-items (u ∷ v ∷ w ∷ x ∷ y ∷ z ∷ rest) a b c d e m n o p q many few first second third fourth fifth = absurd (omega arith)
