-- Reaches: how many numbers pass a test that falls, and how the tests of edges fall along a row.
use Rattle.std.proofs.Common.{◌≡◌, ◌∙◌, sym, ap, refl, ℕ, zero, suc, ◌+◌, ◌<◌, ◌≤◌, nat_lt, min, ◌⊎◌, inl, inr, Bool, true, false, if◌then◌else◌, [], ◌∷◌, ℤ, pos, ◌-ℤ◌, ◌*ℤ◌, ◌≤ℤ◌, int_le, arith}
use borrow.Author.Differences.{up, down}
use Rattle.std.proofs.lemmas.Int.{ints}
use Rattle.std.proofs.lemmas.Bool.Decides.{nat_tests}
use Rattle.cv_model.specs.Positions.{Position, doubled}
use Rattle.cv_model.specs.Views.{PixelGrid, centre_of}
use Rattle.cv_model.specs.Polygons.{is_low, passes_right, crosses, is_crossed}
use Rattle.cv_geom.specs.Falls.{FallsAt}
use Rattle.cv_geom.proofs.ProductLemmas.{mul-le-mulZ}
use Rattle.cv_geom.proofs.CentreLemmas.{centres-rise}
use Rattle.cv_scan.specs.Reaches.{passes, edge_reach}
use Rattle.cv_scan.specs.Runs.{above}

-- below n a test that holds at a number holds at those before it
abbrev pub Falls : (ℕ → Bool) → ℕ → Type 0
Falls test n = (i j : ℕ) → i ≤ j → j < n → test j ≡ true → test i ≡ true

-- at most all pass
one_more : (b : Bool) (r n : ℕ) → r ≤ n → (if b then 1 else 0) + r ≤ suc n
one_more true r n h = omega arith
one_more false r n h = omega arith

pub passes-le : (test : ℕ → Bool) (n : ℕ) → passes test n ≤ n
passes-le test zero = omega arith
passes-le test (suc n) = one_more (test n) (passes test n) n (passes-le test n)

all_more : (b : Bool) (r n : ℕ) → b ≡ true → r ≡ n → (if b then 1 else 0) + r ≡ suc n
all_more true r n e h = omega arith
all_more false r n e h = cc

-- where all pass
passes-all : (test : ℕ → Bool) (n : ℕ) → ((i : ℕ) → i < n → test i ≡ true) → passes test n ≡ n
passes-all test zero all = refl
passes-all test (suc n) all =
    all_more (test n) (passes test n) n (all n (omega arith)) (passes-all test n (λ i less. all i (omega arith)))

none_more : (b : Bool) (r : ℕ) → b ≡ false → r ≡ 0 → (if b then 1 else 0) + r ≡ 0
none_more true r e h = cc
none_more false r e h = omega arith

-- where none passes
pub passes-none : (test : ℕ → Bool) (n : ℕ) → ((i : ℕ) → i < n → test i ≡ false) → passes test n ≡ 0
passes-none test zero none = refl
passes-none test (suc n) none =
    none_more (test n) (passes test n) (none n (omega arith)) (passes-none test n (λ i less. none i (omega arith)))

-- one number more, that passes or doesn't
falls_more :
    (test : ℕ → Bool) (n i : ℕ) (b : Bool) → test n ≡ b → Falls test (suc n)
    → ((k : ℕ) → k < n → test k ≡ nat_lt k (passes test n)) → i < suc n
    → test i ≡ nat_lt i ((if b then 1 else 0) + passes test n)
falls_more test n i true here falls rest less =
    let full : passes test n ≡ n =
    passes-all test n (λ k below. falls k n (omega arith) (omega arith) here) in
    let held : test i ≡ true = falls i n (omega arith) (omega arith) here in
    let under : nat_lt i (1 + passes test n) ≡ true = grind (arith, nat_tests) in
    held ∙ sym under
falls_more test n i false here falls rest less = pick (grind arith)
  where
    pick : (i < n) ⊎ (i ≡ n) → test i ≡ nat_lt i (0 + passes test n)
    pick (inl below) = rest i below ∙ ap (nat_lt i) (omega arith)
    pick (inr same) =
        let most = passes-le test n in
        let beyond : nat_lt i (0 + passes test n) ≡ false = grind (arith, nat_tests) in
        ap test same ∙ here ∙ sym beyond

-- a test that falls holds at as many numbers as pass it
pub falls-passes :
    (test : ℕ → Bool) (n : ℕ) → Falls test n → (i : ℕ) → i < n → test i ≡ nat_lt i (passes test n)
falls-passes test zero falls i less = absurd (omega arith)
falls-passes test (suc n) falls i less =
    falls_more test n i (test n) refl falls
    (λ k below. falls-passes test n (λ a b order under held. falls a b order (omega arith) held) k below) less

-- so they fall at that number
pub falls-at : (test : ℕ → Bool) (n : ℕ) → Falls test n → FallsAt test 0 n (passes test n)
falls-at test n falls = record {
  low_in = omega arith;
  high_in = passes-le test n;
  falls = λ k from below. falls-passes test n falls k below;
}

-- what passes right of a position passes right of those left of it
passes-left :
    (p q a b : Position) → q.x ≤ℤ p.x → q.y ≡ p.y → a.y ≤ℤ b.y → passes_right p a b ≡ true
    → passes_right q a b ≡ true
passes-left p q a b west same rise right =
    let way : (q.x -ℤ a.x) ≤ℤ (p.x -ℤ a.x) = omega (arith, ints) in
    let least = mul-le-mulZ (q.x -ℤ a.x) (p.x -ℤ a.x) (b.y -ℤ a.y) way (omega (arith, ints)) in
    let level : (b.x -ℤ a.x) *ℤ (q.y -ℤ a.y) ≡ (b.x -ℤ a.x) *ℤ (p.y -ℤ a.y) =
    ap (λ z. (b.x -ℤ a.x) *ℤ (z -ℤ a.y)) same in
    grind (arith, ints)

-- the line from a low end up to another passes right of the first centres of a row
pub row-falls :
    (v : PixelGrid) (j n : ℕ) (a b : Position) → pos 1 ≤ℤ v.u → a.y ≤ℤ b.y
    → Falls (λ i. passes_right (centre_of v i j) a b) n
row-falls v j n a b unit rise i k order less right =
    passes-left (centre_of v k j) (centre_of v i j) a b (centres-rise v i k j unit order) refl rise right

-- the crossing of an edge lies right of the first centres of a row
pub edge-falls :
    (v : PixelGrid) (j n : ℕ) (a b : Position) → pos 1 ≤ℤ v.u → Falls (λ i. crosses (centre_of v i j) a b) n
edge-falls v j n a b unit = by (int_le a.y height) (int_le b.y height) refl refl
  where
    height : ℤ
    height = (centre_of v 0 j).y

    by :
        (x y : Bool) → int_le a.y height ≡ x → int_le b.y height ≡ y
        → Falls
        (λ i. if x
        then (if y then false else passes_right (centre_of v i j) a b)
        else (if y then passes_right (centre_of v i j) b a else false))
        n
    by true true low_a low_b = λ i k order less held. held
    by true false low_a low_b = row-falls v j n a b unit (grind (arith, ints))
    by false true low_a low_b = row-falls v j n b a unit (grind (arith, ints))
    by false false low_a low_b = λ i k order less held. held

-- so as many centres lie left of it as its reach says
pub edge-crosses :
    (v : PixelGrid) (i j : ℕ) (edge : Position × Position) → pos 1 ≤ℤ v.u → i < v.w
    → is_crossed (centre_of v i j) edge ≡ nat_lt i (edge_reach v j edge)
edge-crosses v i j edge unit less =
    falls-passes
    (λ k. is_crossed (centre_of v k j) edge) v.w (edge-falls v j v.w (doubled edge.0) (doubled edge.1) unit) i less

-- a test falls at one number
falls-once :
    (test : ℕ → Bool) (low high s t : ℕ) → FallsAt test low high s → FallsAt test low high t → s ≡ t
falls-once test low high s t first second = pick (nat_lt s t) (nat_lt t s) refl refl
  where
    least : low ≤ s
    least = first.low_in

    under : low ≤ t
    under = second.low_in

    pick : (a b : Bool) → nat_lt s t ≡ a → nat_lt t s ≡ b → s ≡ t
    pick true b before behind =
        let most = second.high_in in
        let less : s < t = grind (arith, nat_tests) in
        let here : nat_lt s s ≡ nat_lt s t = sym (first.falls s least (omega arith)) ∙ second.falls s least (omega arith) in
        absurd (grind (arith, nat_tests))
    pick false true before behind =
        let most = first.high_in in
        let less : t < s = grind (arith, nat_tests) in
        let here : nat_lt t t ≡ nat_lt t s = sym (second.falls t under (omega arith)) ∙ first.falls t under (omega arith) in
        absurd (grind (arith, nat_tests))
    pick false false before behind = grind (arith, nat_tests)

-- that of an edge along a whole row is its reach
pub reach-is :
    (v : PixelGrid) (j t : ℕ) (edge : Position × Position) → pos 1 ≤ℤ v.u
    → FallsAt (λ i. is_crossed (centre_of v i j) edge) 0 v.w t → t ≡ edge_reach v j edge
reach-is v j t edge unit found =
    let test : ℕ → Bool = λ i. is_crossed (centre_of v i j) edge in
    falls-once test 0 v.w t (edge_reach v j edge) found
    (falls-at test v.w (edge-falls v j v.w (doubled edge.0) (doubled edge.1) unit))

-- and among some columns goes as far beyond the first as its reach does, to their end
pub reach-above :
    (v : PixelGrid) (j from to t : ℕ) (edge : Position × Position) → pos 1 ≤ℤ v.u → from ≤ to → to ≤ v.w
    → FallsAt (λ i. is_crossed (centre_of v i j) edge) from to t
    → above from t ≡ above from (min (edge_reach v j edge) to)
reach-above v j from to t edge unit order within found = pick (nat_lt from (edge_reach v j edge)) refl
  where
    test : ℕ → Bool
    test i = is_crossed (centre_of v i j) edge

    whole : ℕ
    whole = edge_reach v j edge

    pick : (b : Bool) → nat_lt from (edge_reach v j edge) ≡ b → above from t ≡ above from (min (edge_reach v j edge) to)
    pick true beyond =
        let less : from < whole = grind (arith, nat_tests) in
        ap (above from)
        (falls-once test from to t (min whole to) found
        (record {
          low_in = omega arith;
          high_in = omega arith;
          falls = λ i west east. edge-crosses v i j edge unit (omega arith) ∙ least i (nat_lt i whole) east refl;
        }))
      where
        least : (i : ℕ) (b : Bool) → i < to → nat_lt i whole ≡ b → nat_lt i whole ≡ nat_lt i (min whole to)
        least i true east is = let yes : nat_lt i (min whole to) ≡ true = grind (arith, nat_tests) in is ∙ sym yes
        least i false east is = let no : nat_lt i (min whole to) ≡ false = grind (arith, nat_tests) in is ∙ sym no
    pick false beyond =
        let most : whole ≤ from = grind (arith, nat_tests) in
        let first : t ≤ from = at (nat_lt from to) refl in
        let none : nat_lt from t ≡ false = grind (arith, nat_tests) in
        let nor : nat_lt from (min whole to) ≡ false = grind (arith, nat_tests) in
        ap (λ (b : Bool). if b then t ∷ [] else []) none
        ∙ ap (λ (b : Bool). if b then min whole to ∷ [] else []) (sym nor)
      where
        at : (b : Bool) → nat_lt from to ≡ b → t ≤ from
        at true some =
            let less : from < to = grind (arith, nat_tests) in
            let here = sym (found.falls from (omega arith) less) ∙ edge-crosses v from j edge unit (omega arith) in
            grind (arith, nat_tests)
        at false none =
            let high = found.high_in in
            let empty : to ≤ from = grind (arith, nat_tests) in omega arith

-- an edge is crossed in both directions alike
pub crossed-turned : (p a b : Position) → is_crossed p (a, b) ≡ is_crossed p (b, a)
crossed-turned p a b =
    turned
    (is_low p (doubled a)) (is_low p (doubled b)) (passes_right p (doubled a) (doubled b))
    (passes_right p (doubled b) (doubled a))
  where
    turned :
        (x y up down : Bool)
        → (if x then (if y then false else up) else (if y then down else false))
        ≡ (if y then (if x then false else down) else (if x then up else false))
    turned true true up down = refl
    turned true false up down = refl
    turned false true up down = refl
    turned false false up down = refl

-- a test falls where another does that answers the same
pub falls-alike :
    (p q : ℕ → Bool) (low high t : ℕ) → ((i : ℕ) → q i ≡ p i) → FallsAt p low high t → FallsAt q low high t
falls-alike p q low high t alike found = record {
  low_in = found.low_in;
  high_in = found.high_in;
  falls = λ i from below. alike i ∙ found.falls i from below;
}

-- a test that fails at all numbers falls at the first
pub falls-first :
    (p : ℕ → Bool) (low high : ℕ) → low ≤ high → ((i : ℕ) → p i ≡ false) → FallsAt p low high low
falls-first p low high order none = record {
  low_in = omega arith;
  high_in = order;
  falls = λ i from below. let no : nat_lt i low ≡ false = grind (arith, nat_tests) in none i ∙ sym no;
}
