-- Runs that are joined: what comes of runs in reading order where those that overlap or touch become one.
use Rattle.std.proofs.Common.{◌≡◌, ◌∙◌, sym, ap, refl, Ordering, ℕ, suc, max, ◌+◌, ◌<◌, ◌≤◌, nat_lt, nat_le, ◌==◌, ◌⊎◌, inl, inr, Bool, true, false, ◌&&◌, ◌||◌, if◌then◌else◌, List, [], ◌∷◌, get_or, sum_by, arith}
use Rattle.std.specs.List.{All}
use Rattle.std.specs.List.Sorted.{IsPermutation, IsSortedByKey}
use Rattle.std.specs.Ordering.{is_lt, nat_cmp, ordering_then}
use Rattle.std.proofs.lemmas.Bool.Decides.{nat_tests}
use Rattle.std.proofs.lemmas.List.Elements.{All-nil, All-cons, All-head, All-tail}
use Rattle.std.proofs.lemmas.List.Sorted.{All-permutation, sum_by-IsPermutation}
use Rattle.std.proofs.lemmas.List.Sums.{sum_by-cons}
use Rattle.cv_geom.specs.declared.runs.Run.{Run}
use Rattle.cv_geom.specs.declared.runs.Area.{Area}
use Rattle.cv_geom.specs.Runs.{is_on, is_on_any, LiesIn, BeginsAt, AreInOrder, FollowEach, Unites, united, united_from}

-- each run begins at the one before it or behind
abbrev Ascends : Run → List Run → Type 0
Ascends a [] = Unit {0}
Ascends a (b ∷ rest) = BeginsAt a.from a.row b × Ascends b rest

-- the numbers by which runs are sorted
abbrev pub place_of : Run → ℕ × ℕ
place_of run = (run.row, run.from)

-- their order
abbrev pub compared : ℕ × ℕ → ℕ × ℕ → Ordering
compared x y = ordering_then (nat_cmp x.0 y.0) (nat_cmp x.1 y.1)

-- what is not before a run begins at it or behind
not-before : (a b : Run) → is_lt (compared (place_of b) (place_of a)) ≡ false → BeginsAt a.from a.row b
not-before a b not_less = rows (nat_lt b.row a.row) (b.row == a.row) refl refl
  where
    rows : (x y : Bool) → nat_lt b.row a.row ≡ x → (b.row == a.row) ≡ y → BeginsAt a.from a.row b
    rows true y less same = cc
    rows false false less same = inl (grind (arith, nat_tests))
    rows false true less same = columns (nat_lt b.from a.from) refl
      where
        columns : (z : Bool) → nat_lt b.from a.from ≡ z → BeginsAt a.from a.row b
        columns true before = cc
        columns false before = inr (grind (arith, nat_tests), grind (arith, nat_tests))

sorted-ascend : (a : Run) (rest : List Run) → IsSortedByKey place_of compared (a ∷ rest) → Ascends a rest
sorted-ascend a [] sorted = tt
sorted-ascend a (b ∷ rest) sorted =
    let first = not-before a b (sorted 0 a (omega arith) (omega arith)) in
    let later =
    sorted-ascend b rest
    (λ k d order less.
    let next : suc (k + 1) ≡ suc k + 1 = omega arith in
    ap
    (λ n. is_lt (compared (place_of (get_or (a ∷ b ∷ rest) n d)) (place_of (get_or (a ∷ b ∷ rest) (suc k) d))))
    next
    ∙ sorted (suc k) d (omega arith) (omega arith)) in
    (first, later)

-- two runs that overlap or touch, as one
abbrev both : Run → Run → Run
both a b = record { row = a.row; from = a.from; end = max a.end b.end }

-- one has the pixels of both
both-on :
    (i j : ℕ) (a b : Run) → (a.row == b.row && nat_le b.from a.end) ≡ true → BeginsAt a.from a.row b
    → is_on (both a b) i j ≡ (is_on a i j || is_on b i j)
both-on i j a b touch (inl less) = absurd (grind (arith, nat_tests))
both-on i j a b touch (inr same) =
    let row : a.row ≡ b.row = same.0 in
    let meet : b.from ≤ a.end = grind (arith, nat_tests) in
    let columns : (nat_le a.from i && nat_lt i (max a.end b.end)) ≡ ((nat_le a.from i && nat_lt i a.end) || (nat_le b.from i && nat_lt i b.end)) =
    let from = same.1 in grind (arith, nat_tests) in
    rw columns
    (spread (j == a.row) (j == b.row) (ap (λ n. j == n) row) (nat_le a.from i && nat_lt i a.end)
    (nat_le b.from i && nat_lt i b.end))
  where
    spread : (p q : Bool) → p ≡ q → (x y : Bool) → (p && (x || y)) ≡ ((p && x) || (q && y))
    spread true true same x y = refl
    spread true false same x y = cc
    spread false true same x y = cc
    spread false false same x y = refl

-- the next run begins behind both
both-begins :
    (a b : Run) (rest : List Run) → (a.row == b.row && nat_le b.from a.end) ≡ true → BeginsAt a.from a.row b
    → Ascends b rest → Ascends (both a b) rest
both-begins a b [] touch begins ascends = tt
both-begins a b (c ∷ rest) touch begins ascends =
    let same : a.row ≡ b.row = grind (arith, nat_tests) in
    (next same begins ascends.0, ascends.1)
  where
    next : a.row ≡ b.row → BeginsAt a.from a.row b → BeginsAt b.from b.row c → BeginsAt a.from a.row c
    next same (inl less) behind = absurd (omega arith)
    next same (inr from) (inl less) = inl (omega arith)
    next same (inr from) (inr level) = inr (omega (arith, level.0), omega (arith, from.1, level.1))

or_assoc : (a b c : Bool) → ((a || b) || c) ≡ (a || (b || c))
or_assoc true b c = refl
or_assoc false b c = refl

united-on :
    (i j : ℕ) (a : Run) (rest : List Run) → Ascends a rest
    → is_on_any i j (united_from a rest) ≡ is_on_any i j (a ∷ rest)
united-on i j a [] ascends = refl
united-on i j a (b ∷ rest) ascends =
    pick (a.row == b.row && nat_le b.from a.end) refl
    (λ begins. united-on i j (both a b) rest begins)
    (united-on i j b rest ascends.1)
  where
    pick :
        (t : Bool) → (a.row == b.row && nat_le b.from a.end) ≡ t
        → (Ascends (both a b) rest → is_on_any i j (united_from (both a b) rest) ≡ is_on_any i j (both a b ∷ rest))
        → is_on_any i j (united_from b rest) ≡ is_on_any i j (b ∷ rest)
        → is_on_any i j (if t then united_from (both a b) rest else a ∷ united_from b rest) ≡ is_on_any i j (a ∷ b ∷ rest)
    pick true touch joined later =
        joined (both-begins a b rest touch ascends.0 ascends.1)
        ∙ ap (λ t. t || is_on_any i j rest) (both-on i j a b touch ascends.0)
        ∙ or_assoc (is_on a i j) (is_on b i j) (is_on_any i j rest)
    pick false apart joined later = ap (λ t. is_on a i j || t) later

both-in :
    (area : Area) (a b : Run) → (a.row == b.row && nat_le b.from a.end) ≡ true → LiesIn area a → LiesIn area b
    → LiesIn area (both a b)
both-in area a b touch in_a in_b = record {
  north = in_a.north;
  south = in_a.south;
  west = in_a.west;
  some = omega (arith, in_a.some);
  east = omega (arith, in_a.east, in_b.east);
}

united-in :
    (area : Area) (a : Run) (rest : List Run) → LiesIn area a → All (LiesIn area) rest
    → All (LiesIn area) (united_from a rest)
united-in area a [] here within = All-cons (LiesIn area) a [] here (All-nil (LiesIn area))
united-in area a (b ∷ rest) here within =
    let next = All-head (LiesIn area) b rest within in
    let later = All-tail (LiesIn area) b rest within in
    pick (a.row == b.row && nat_le b.from a.end) refl
    (λ touch. united-in area (both a b) rest (both-in area a b touch here next) later)
    (united-in area b rest next later)
  where
    pick :
        (t : Bool) → (a.row == b.row && nat_le b.from a.end) ≡ t
        → ((a.row == b.row && nat_le b.from a.end) ≡ true → All (LiesIn area) (united_from (both a b) rest))
        → All (LiesIn area) (united_from b rest)
        → All (LiesIn area) (if t then united_from (both a b) rest else a ∷ united_from b rest)
    pick true touch joined later = joined touch
    pick false apart joined later = All-cons (LiesIn area) a (united_from b rest) here later

-- runs that neither overlap nor touch
apart-begins :
    (a b : Run) → (a.row == b.row && nat_le b.from a.end) ≡ false → BeginsAt a.from a.row b → BeginsAt a.end a.row b
apart-begins a b apart (inl less) = inl less
apart-begins a b apart (inr same) =
    let level : (a.row == b.row) ≡ true = let row = same.0 in grind (arith, nat_tests) in
    let behind : a.end < b.from = grind (arith, nat_tests) in
    inr (same.0, omega arith)

united-order : (x y : ℕ) (a : Run) (rest : List Run) → Ascends a rest → BeginsAt x y a → AreInOrder x y (united_from a rest)
united-order x y a [] ascends begins = (begins, tt)
united-order x y a (b ∷ rest) ascends begins =
    pick (a.row == b.row && nat_le b.from a.end) refl
    (λ touch. united-order x y (both a b) rest (both-begins a b rest touch ascends.0 ascends.1) begins)
    (λ apart. united-order a.end a.row b rest ascends.1 (apart-begins a b apart ascends.0))
  where
    pick :
        (t : Bool) → (a.row == b.row && nat_le b.from a.end) ≡ t
        → ((a.row == b.row && nat_le b.from a.end) ≡ true → AreInOrder x y (united_from (both a b) rest))
        → ((a.row == b.row && nat_le b.from a.end) ≡ false → AreInOrder a.end a.row (united_from b rest))
        → AreInOrder x y (if t then united_from (both a b) rest else a ∷ united_from b rest)
    pick true touch joined later = joined touch
    pick false apart joined later = (begins, later apart)

any-more : (b t : Bool) (n : ℕ) → t ≡ nat_lt 0 n → (b || t) ≡ nat_lt 0 ((if b then 1 else 0) + n)
any-more true t n same = grind (arith, nat_tests)
any-more false t n same = same ∙ ap (λ k. nat_lt 0 k) (omega arith)

-- the order in which runs are given doesn't matter for what they cover
moved-on : (i j : ℕ) (xs ys : List Run) → IsPermutation xs ys → is_on_any i j ys ≡ is_on_any i j xs
moved-on i j xs ys moved = any-counts ys ∙ ap (λ n. nat_lt 0 n) (sum_by-IsPermutation once xs ys moved) ∙ sym (any-counts xs)
  where
    once : Run → ℕ
    once run = if is_on run i j then 1 else 0

    any-counts : (runs : List Run) → is_on_any i j runs ≡ nat_lt 0 (sum_by once runs)
    any-counts [] = refl
    any-counts (run ∷ rest) =
        any-more (is_on run i j) (is_on_any i j rest) (sum_by once rest) (any-counts rest)
        ∙ ap (λ n. nat_lt 0 n) (sym (sum_by-cons once run rest))

-- a run of an area begins at its first pixel or behind
begins-in : (area : Area) (a : Run) → LiesIn area a → BeginsAt area.columns.from area.rows.from a
begins-in area a here = pick (grind arith)
  where
    pick : (area.rows.from < a.row) ⊎ (a.row ≤ area.rows.from) → BeginsAt area.columns.from area.rows.from a
    pick (inl less) = inl less
    pick (inr most) = inr (omega (arith, here.north), here.west)

-- sorted runs that were joined have the pixels of those given
unites-sorted :
    (xs : List Run) → IsSortedByKey place_of compared xs → Unites xs (united xs)
unites-sorted [] sorted = record {
  within = λ area all. all;
  order = λ area all. tt;
  covered = λ i j. refl;
}
unites-sorted (a ∷ rest) sorted =
    let ascends = sorted-ascend a rest sorted in
    record {
      within = λ area all.
          united-in area a rest (All-head (LiesIn area) a rest all) (All-tail (LiesIn area) a rest all);
      order = λ area all.
          let here = All-head (LiesIn area) a rest all in
          united-order area.columns.from area.rows.from a rest ascends (begins-in area a here);
      covered = λ i j. united-on i j a rest ascends;
    }

pub unites-moved :
    (xs ys : List Run) → IsPermutation xs ys → IsSortedByKey place_of compared ys → Unites xs (united ys)
unites-moved xs ys moved sorted =
    let told = unites-sorted ys sorted in
    record {
      within = λ area all. told.within area (All-permutation (LiesIn area) xs ys moved all);
      order = λ area all. told.order area (All-permutation (LiesIn area) xs ys moved all);
      covered = λ i j. told.covered i j ∙ moved-on i j xs ys moved;
    }

-- runs that follow each other are as they should be
follow-order : (x y : ℕ) (a : Run) (rest : List Run) → BeginsAt x y a → FollowEach (a ∷ rest) → AreInOrder x y (a ∷ rest)
follow-order x y a [] begins follow = (begins, tt)
follow-order x y a (b ∷ rest) begins follow =
    let next : BeginsAt a.end a.row b = follow.each 0 a (omega arith) in
    let later =
    follow-order a.end a.row b rest next
    (record { each = λ k d less. moved k d (suc k + 1) (suc (k + 1)) (omega arith) (follow.each (suc k) d (omega arith)) }) in
    (begins, later)
  where
    moved :
        (k : ℕ) (d : Run) (n m : ℕ) → n ≡ m
        → BeginsAt (get_or (b ∷ rest) k d).end (get_or (b ∷ rest) k d).row (get_or (a ∷ b ∷ rest) n d)
        → BeginsAt (get_or (b ∷ rest) k d).end (get_or (b ∷ rest) k d).row (get_or (a ∷ b ∷ rest) m d)
    moved k d n m same told = rw (sym same) told

pub unites-followed : (xs : List Run) → FollowEach xs → Unites xs xs
unites-followed xs follow = record {
  within = λ area all. all;
  order = λ area all. from_first area xs follow all;
  covered = λ i j. refl;
}
  where
    from_first :
        (area : Area) (runs : List Run) → FollowEach runs → All (LiesIn area) runs
        → AreInOrder area.columns.from area.rows.from runs
    from_first area [] follow all = tt
    from_first area (a ∷ rest) follow all =
        follow-order area.columns.from area.rows.from a rest
        (begins-in area a (All-head (LiesIn area) a rest all)) follow
