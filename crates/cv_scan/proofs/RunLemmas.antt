-- Runs: reaches in order, the columns that their pairs cover, and the joined spans.
use Rattle.std.proofs.Common.{◌≡◌, ◌∙◌, sym, ap, refl, ℕ, suc, ◌+◌, ◌%◌, ◌<◌, ◌≤◌, min, nat_lt, nat_le, ◌==◌, Bool, true, false, cond, ◌&&◌, ◌||◌, if◌then◌else◌, List, [], ◌∷◌, ◌++◌, length, length-append, get_or, take, drop, ◌-◌, append_assoc, pos, ◌≤ℤ◌, arith}
use Rattle.std.proofs.Math.Seq.{take-length}
use Rattle.std.specs.List.{All}
use Rattle.std.specs.List.Sorted.{IsPermutation, IsNonDecreasing}
use Rattle.std.proofs.lemmas.Bool.Decides.{nat_tests}
use Rattle.std.proofs.lemmas.List.Sums.{sum_by-cons, sum_by-append}
use Rattle.std.proofs.lemmas.List.Folds.{list_any-append}
use Rattle.std.proofs.lemmas.List.Elements.{All-nil, All-cons, All-head, All-tail, All-append}
use Rattle.std.proofs.lemmas.List.Sorted.{All-permutation, sum_by-IsPermutation, length_permutation}
use Rattle.cv_model.specs.declared.span.Span.{Span}
use Rattle.cv_model.specs.Positions.{Position}
use Rattle.cv_model.specs.Views.{PixelGrid, centre_of}
use Rattle.cv_model.specs.Polygons.{is_crossed, crossings}
use Rattle.cv_scan.specs.Reaches.{edge_reach}
use Rattle.cv_geom.specs.Spans.{is_in, is_covered, AreApart, AreRuns}
use Rattle.cv_scan.specs.Runs.{beyond, is_within, above, reaches_in, Rises, IsPaired, unless_empty, joined, padded, LiesWithin}
use Rattle.cv_scan.proofs.ReachLemmas.{edge-crosses}

-- a reach counts once
abbrev once : ℕ → ℕ → ℕ
once i k = cond (nat_lt i k) 1 0

-- one reach more
beyond-cons : (i k : ℕ) (ks : List ℕ) → beyond i (k ∷ ks) ≡ once i k + beyond i ks
beyond-cons i k ks = sum_by-cons (once i) k ks

-- a reach, if it goes beyond `from`, counts at a column from there on as it does unclipped
above-beyond : (b : Bool) (i from m : ℕ) → nat_lt from m ≡ b → from ≤ i → beyond i (if b then m ∷ [] else []) ≡ once i m
above-beyond true i from m test below = omega arith
above-beyond false i from m test below =
    let no : nat_lt i m ≡ false = grind (arith, nat_tests) in rw no refl

clipped-beyond : (i from to k : ℕ) → from ≤ i → i < to → beyond i (above from (min k to)) ≡ once i k
clipped-beyond i from to k below less =
    let same : nat_lt i (min k to) ≡ nat_lt i k = grind (arith, nat_tests) in
    above-beyond (nat_lt from (min k to)) i from (min k to) refl below ∙ ap (λ b. cond b 1 0) same

-- as many reaches go beyond a column as edges cross right of its centre
pub reaches-crossings :
    (v : PixelGrid) (i j from to : ℕ) (es : List (Position × Position)) → pos 1 ≤ℤ v.u → from ≤ i → i < to → to ≤ v.w
    → beyond i (reaches_in v j from to es) ≡ crossings (centre_of v i j) es
reaches-crossings v i j from to [] unit below less wide = refl
reaches-crossings v i j from to (e ∷ es) unit below less wide =
    let k = edge_reach v j e in
    let first = clipped-beyond i from to k below less in
    let crossed = edge-crosses v i j e unit (omega arith) in
    let split = sum_by-append (once i) (above from (min k to)) (reaches_in v j from to es) in
    let rest = reaches-crossings v i j from to es unit below less wide in
    let whole = sum_by-cons (λ (f : Position × Position). cond (is_crossed (centre_of v i j) f) 1 0) e es in
    let one : once i k ≡ cond (is_crossed (centre_of v i j) e) 1 0 = ap (λ b. cond b 1 0) (sym crossed) in
    omega arith

-- reaches lie between the columns that they are asked for
above-within : (b : Bool) (from to m : ℕ) → nat_lt from m ≡ b → m ≤ to → All (LiesWithin from to) (if b then m ∷ [] else [])
above-within true from to m test less =
    All-cons (LiesWithin from to) m [] (grind (arith, nat_tests), less) (All-nil (LiesWithin from to))
above-within false from to m test less = All-nil (LiesWithin from to)

pub reaches-within : (v : PixelGrid) (j from to : ℕ) (es : List (Position × Position)) → All (LiesWithin from to) (reaches_in v j from to es)
reaches-within v j from to [] = All-nil (LiesWithin from to)
reaches-within v j from to (e ∷ es) =
    let m = min (edge_reach v j e) to in
    All-append (LiesWithin from to) (above from m) (reaches_in v j from to es)
    (above-within (nat_lt from m) from to m refl (omega arith)) (reaches-within v j from to es)

-- an even number of reaches makes pairs
paired-even : (ks : List ℕ) → length ks % 2 ≡ 0 → IsPaired ks
paired-even [] even = tt
paired-even (a ∷ []) even = absurd (omega arith)
paired-even (a ∷ b ∷ rest) even = paired-even rest (omega arith)

-- sorted reaches rise
rises-sorted :
    (low high : ℕ) (ks : List ℕ) → All (LiesWithin low high) ks → IsNonDecreasing ks → Rises low high ks
rises-sorted low high [] within sorted = tt
rises-sorted low high (k ∷ ks) within sorted =
    let here = All-head (LiesWithin low high) k ks within in
    let rest = All-tail (LiesWithin low high) k ks within in
    let least = least-first k low high ks (λ n d less. sorted 0 (suc n) d (omega arith) (omega arith)) rest in
    (here.0, here.1, rises-sorted k high ks least (λ i j d order less. sorted (suc i) (suc j) d (omega arith) (omega arith)))
  where
    least-first :
        (k low high : ℕ) (ks : List ℕ) → ((n d : ℕ) → n < length ks → k ≤ get_or ks n d)
        → All (LiesWithin low high) ks → All (LiesWithin k high) ks
    least-first k low high [] least within = All-nil (LiesWithin k high)
    least-first k low high (m ∷ ms) least within =
        let here = All-head (LiesWithin low high) m ms within in
        All-cons (LiesWithin k high) m ms (least 0 0 (omega arith), here.1)
        (least-first k low high ms (λ n d less. least (suc n) d (omega arith)) (All-tail (LiesWithin low high) m ms within))

-- one reach of `from` more makes their number even
padded-even : (b : Bool) (from : ℕ) (ks : List ℕ) → (length ks % 2 == 1) ≡ b → length (if b then ks ++ from ∷ [] else ks) % 2 ≡ 0
padded-even true from ks odd =
    let many = length-append ks (from ∷ []) in grind (arith, nat_tests)
padded-even false from ks even = grind (arith, nat_tests)

-- and counts nowhere from there on
padded-beyond : (b : Bool) (i from : ℕ) (ks : List ℕ) → from ≤ i → beyond i (if b then ks ++ from ∷ [] else ks) ≡ beyond i ks
padded-beyond true i from ks below =
    let split = sum_by-append (once i) ks (from ∷ []) in
    let no : nat_lt i from ≡ false = grind (arith, nat_tests) in
    let none : once i from ≡ 0 = ap (λ b. cond b 1 0) no in
    omega arith
padded-beyond false i from ks below = refl

padded-within : (b : Bool) (from to : ℕ) (ks : List ℕ) → from ≤ to → All (LiesWithin from to) ks → All (LiesWithin from to) (if b then ks ++ from ∷ [] else ks)
padded-within true from to ks order within =
    All-append (LiesWithin from to) ks (from ∷ []) within
    (All-cons (LiesWithin from to) from [] (omega arith, order) (All-nil (LiesWithin from to)))
padded-within false from to ks order within = within

-- what sorted reaches with one of `from` more are, if they were odd
pub record AreOrdered (from to : ℕ) (old new : List ℕ) : Type 0 where
  pub rises : Rises from to new
  pub paired : IsPaired new
  pub same : (i : ℕ) → from ≤ i → beyond i new ≡ beyond i old

pub ordered :
    (from to : ℕ) (old new : List ℕ) → from ≤ to → All (LiesWithin from to) old → IsPermutation (padded from old) new
    → IsNonDecreasing new → AreOrdered from to old new
ordered from to old new order within moved sorted =
    let odd = length old % 2 == 1 in
    let many = length_permutation (padded from old) new moved in
    let even = padded-even odd from old refl in
    let inside = padded-within odd from to old order within in
    record {
      rises = rises-sorted from to new (All-permutation (LiesWithin from to) (padded from old) new moved inside) sorted;
      paired = paired-even new (omega arith);
      same = λ i below. sum_by-IsPermutation (once i) (padded from old) new moved ∙ padded-beyond odd i from old below;
    }

-- column i lies in one of the pairs
abbrev in_pairs : ℕ → List ℕ → Bool
in_pairs i [] = false
in_pairs i (a ∷ []) = false
in_pairs i (a ∷ b ∷ rest) = (nat_le a i && nat_lt i b) || in_pairs i rest

-- no pair begins before the reaches
pairs-before : (i low high : ℕ) (ks : List ℕ) → Rises low high ks → i < low → in_pairs i ks ≡ false
pairs-before i low high [] rises before = refl
pairs-before i low high (a ∷ []) rises before = refl
pairs-before i low high (a ∷ b ∷ rest) rises before =
    let later = pairs-before i b high rest rises.2.2 (omega arith) in
    let here : (nat_le a i && nat_lt i b) ≡ false = grind (arith, nat_tests) in
    rw (here, later) refl

two_steps :
    (a b i n : ℕ) (q : Bool) → a ≤ b → q ≡ (n % 2 == 1) → (i < b → q ≡ false)
    → ((nat_le a i && nat_lt i b) || q) ≡ ((once i a + (once i b + n)) % 2 == 1)
two_steps a b i n q order rest before = grind (arith, nat_tests)

-- a column lies in a pair exactly where an odd number of reaches goes beyond it
pairs-within : (i low high : ℕ) (ks : List ℕ) → Rises low high ks → IsPaired ks → in_pairs i ks ≡ is_within i ks
pairs-within i low high [] rises paired = refl
pairs-within i low high (a ∷ []) rises paired = absurd paired
pairs-within i low high (a ∷ b ∷ rest) rises paired =
    let later = pairs-within i b high rest rises.2.2 paired in
    let none = λ (before : i < b). pairs-before i b high rest rises.2.2 before in
    let count = beyond-cons i a (b ∷ rest) ∙ ap (λ n. once i a + n) (beyond-cons i b rest) in
    two_steps a b i (beyond i rest) (in_pairs i rest) rises.2.0 later none ∙ ap (λ n. n % 2 == 1) (sym count)

or_false : (x : Bool) → (x || false) ≡ x
or_false true = refl
or_false false = refl

-- the columns of a span that may be empty
unless_empty-covered :
    (t : Bool) (i a b : ℕ) → nat_lt a b ≡ t
    → is_covered i (if t then (record { from = a; end = b }) ∷ [] else []) ≡ (nat_le a i && nat_lt i b)
unless_empty-covered true i a b test = or_false (nat_le a i && nat_lt i b)
unless_empty-covered false i a b test = grind (arith, nat_tests)

-- two spans that touch cover as much as one
touching :
    (i a b c d : ℕ) (q : Bool) → a ≤ b → c ≤ d → (b == c) ≡ true
    → ((nat_le a i && nat_lt i d) || q) ≡ ((nat_le a i && nat_lt i b) || ((nat_le c i && nat_lt i d) || q))
touching i a b c d q first second same = grind (arith, nat_tests)

-- what one pair more covers
joined-step :
    (q : Bool) (i a b c d : ℕ) (rest : List ℕ) (p : Bool) → (b == c) ≡ q → a ≤ b → c ≤ d
    → is_covered i (joined a d rest) ≡ ((nat_le a i && nat_lt i d) || p)
    → is_covered i (joined c d rest) ≡ ((nat_le c i && nat_lt i d) || p)
    → is_covered i (if q then joined a d rest else unless_empty a b ++ joined c d rest)
    ≡ ((nat_le a i && nat_lt i b) || ((nat_le c i && nat_lt i d) || p))
joined-step true i a b c d rest p same first second touch apart = touch ∙ touching i a b c d p first second same
joined-step false i a b c d rest p same first second touch apart =
    let split = list_any-append (is_in i) (unless_empty a b) (joined c d rest) in
    let here = unless_empty-covered (nat_lt a b) i a b refl in
    rw (split, here, apart) refl

-- the joined spans cover the first span and the pairs behind it
joined-covered :
    (i a b high : ℕ) (ks : List ℕ) → a ≤ b → Rises b high ks → IsPaired ks
    → is_covered i (joined a b ks) ≡ ((nat_le a i && nat_lt i b) || in_pairs i ks)
joined-covered i a b high [] order rises paired =
    unless_empty-covered (nat_lt a b) i a b refl ∙ sym (or_false (nat_le a i && nat_lt i b))
joined-covered i a b high (c ∷ []) order rises paired = absurd paired
joined-covered i a b high (c ∷ d ∷ rest) order rises paired =
    let later = rises.2.2 in
    let touch = joined-covered i a d high rest (omega (arith, rises.0, rises.2.0)) later paired in
    let apart = joined-covered i c d high rest rises.2.0 later paired in
    joined-step (b == c) i a b c d rest (in_pairs i rest) refl order rises.2.0 touch apart

-- a span that may be empty, and spans behind it
apart-behind :
    (t : Bool) (low high a b c : ℕ) (spans : List Span) → nat_lt a b ≡ t → low ≤ a → b ≤ high → low ≤ c → b < c
    → ((least : ℕ) → least ≤ c → AreApart least high spans)
    → AreApart low high ((if t then (record { from = a; end = b }) ∷ [] else []) ++ spans)
apart-behind true low high a b c spans test from end before behind rest =
    (from, grind (arith, nat_tests), end, rest (b + 1) (omega arith))
apart-behind false low high a b c spans test from end before behind rest = rest low before

-- a span that may be empty, alone
apart-alone :
    (t : Bool) (low high a b : ℕ) → nat_lt a b ≡ t → low ≤ a → b ≤ high
    → AreApart low high (if t then (record { from = a; end = b }) ∷ [] else [])
apart-alone true low high a b test from end = (from, grind (arith, nat_tests), end, tt)
apart-alone false low high a b test from end = tt

-- one pair more
apart-step :
    (q : Bool) (low high a b c d : ℕ) (rest : List ℕ) → (b == c) ≡ q → low ≤ a → a ≤ b → b ≤ c → b ≤ high
    → AreApart low high (joined a d rest)
    → ((least : ℕ) → least ≤ c → AreApart least high (joined c d rest))
    → AreApart low high (if q then joined a d rest else unless_empty a b ++ joined c d rest)
apart-step true low high a b c d rest same from order next end touch apart = touch
apart-step false low high a b c d rest same from order next end touch apart =
    let behind : b < c = grind (arith, nat_tests) in
    apart-behind (nat_lt a b) low high a b c (joined c d rest) refl from end (omega arith) behind apart

-- the joined spans are apart
joined-apart :
    (low high a b : ℕ) (ks : List ℕ) → low ≤ a → a ≤ b → b ≤ high → Rises b high ks → IsPaired ks
    → AreApart low high (joined a b ks)
joined-apart low high a b [] from order end rises paired = apart-alone (nat_lt a b) low high a b refl from end
joined-apart low high a b (c ∷ []) from order end rises paired = absurd paired
joined-apart low high a b (c ∷ d ∷ rest) from order end rises paired =
    let later = rises.2.2 in
    let touch = joined-apart low high a d rest from (omega (arith, rises.0, rises.2.0)) rises.2.1 later paired in
    apart-step (b == c) low high a b c d rest refl from order rises.0 end touch
    (λ least before. joined-apart least high c d rest before rises.2.0 rises.2.1 later paired)

-- the spans of ordered reaches are the runs of the columns with an odd number of reaches beyond
pub joined-runs :
    (test : ℕ → Bool) (from to : ℕ) (ks : List ℕ) → from ≤ to → Rises from to ks → IsPaired ks
    → ((i : ℕ) → from ≤ i → i < to → is_within i ks ≡ test i) → AreRuns test from to (joined from from ks)
joined-runs test from to ks order rises paired told = record {
  apart = joined-apart from to from from ks (omega arith) (omega arith) order rises paired;
  covered = λ i below less.
      let none : (nat_le from i && nat_lt i from) ≡ false = grind (arith, nat_tests) in
      let split = joined-covered i from from to ks (omega arith) rises paired in
      let pairs = pairs-within i from to ks rises paired in
      (rw none at split) ∙ pairs ∙ told i below less;
}

-- two items and those behind them
pub two-and-rest :
    (xs : List ℕ) → 2 ≤ length xs
    → xs ≡ get_or xs 0 0 ∷ get_or xs 1 0 ∷ take (length xs - 2) (drop 2 xs)
two-and-rest [] many = absurd (omega arith)
two-and-rest (a ∷ []) many = absurd (omega arith)
two-and-rest (a ∷ b ∷ rest) many =
    let count : suc (suc (length rest)) - 2 ≡ length rest = omega arith in
    let whole : take (suc (suc (length rest)) - 2) rest ≡ rest = ap (λ n. take n rest) count ∙ take-length rest in
    ap (λ zs. a ∷ b ∷ zs) (sym whole)

-- a pair that touches the span before it makes that longer
pub joined-touching :
    (spans total : List Span) (a b c d : ℕ) (xs rest : List ℕ) → xs ≡ c ∷ d ∷ rest → b ≡ c
    → spans ++ joined a b xs ≡ total → spans ++ joined a d rest ≡ total
joined-touching spans total a b c d xs rest same touch before =
    pick (b == c) refl (ap (λ zs. spans ++ joined a b zs) (sym same) ∙ before)
  where
    pick :
        (q : Bool) → (b == c) ≡ q
        → spans ++ (if q then joined a d rest else unless_empty a b ++ joined c d rest) ≡ total
        → spans ++ joined a d rest ≡ total
    pick true test whole = whole
    pick false test whole = absurd (grind (arith, nat_tests))

-- any other puts the span before it behind the others
pub joined-behind :
    (spans more total : List Span) (a b c d : ℕ) (xs rest : List ℕ) → xs ≡ c ∷ d ∷ rest → (b ≡ c → ⊥)
    → spans ++ joined a b xs ≡ total → more ≡ spans ++ unless_empty a b → more ++ joined c d rest ≡ total
joined-behind spans more total a b c d xs rest same differ before put =
    pick (b == c) refl (ap (λ zs. spans ++ joined a b zs) (sym same) ∙ before)
  where
    pick :
        (q : Bool) → (b == c) ≡ q
        → spans ++ (if q then joined a d rest else unless_empty a b ++ joined c d rest) ≡ total
        → more ++ joined c d rest ≡ total
    pick true test whole = absurd (grind (arith, nat_tests))
    pick false test whole =
        ap (λ zs. zs ++ joined c d rest) put ∙ append_assoc spans (unless_empty a b) (joined c d rest) ∙ whole
