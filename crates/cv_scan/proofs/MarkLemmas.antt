-- Marks: what they count, row by row and edge by edge, and the runs that lie between descending marks.
use Rattle.std.proofs.Common.{◌≡◌, ◌∙◌, sym, ap, refl, ℕ, suc, ◌+◌, ◌%◌, ◌<◌, ◌≤◌, nat_lt, nat_le, ◌==◌, ◌⊎◌, inl, inr, Bool, true, false, cond, ◌&&◌, ◌||◌, if◌then◌else◌, List, [], ◌∷◌, ◌++◌, length, get_or, reverse, ◌-◌, ◌*◌, Some, None, Ordering, arith, pos, ◌≤ℤ◌}
use Rattle.std.specs.List.{All}
use Rattle.std.specs.List.Sorted.{IsPermutation, IsSortedByKey}
use Rattle.std.specs.Ordering.{is_lt, nat_cmp, ordering_then}
use Rattle.std.proofs.lemmas.Bool.Decides.{nat_tests}
use Rattle.std.proofs.lemmas.List.Sums.{sum_by-cons, sum_by-append}
use Rattle.std.proofs.lemmas.List.Folds.{list_any-append}
use Rattle.std.proofs.lemmas.List.Elements.{All-nil, All-cons, All-head, All-tail, All-append}
use Rattle.std.proofs.lemmas.List.Sorted.{All-permutation, sum_by-IsPermutation}
use Rattle.std.proofs.lemmas.List.{get_or-reverse}
use Rattle.std.proofs.lemmas.Int.{ints}
use Rattle.cv_geom.specs.Falls.{FallsIn}
use Rattle.cv_geom.proofs.ProductLemmas.{mul-le-mulZ}
use Rattle.cv_model.specs.Positions.{Position, doubled}
use Rattle.cv_model.specs.Views.{PixelGrid, centre_of}
use Rattle.cv_model.specs.Polygons.{is_low, is_crossed, passes_right}
use Rattle.cv_geom.specs.declared.runs.Run.{Run}
use Rattle.cv_geom.specs.declared.runs.Area.{Area}
use Rattle.cv_geom.specs.Runs.{is_on, is_on_any, LiesIn, Adds}
use Rattle.cv_scan.specs.declared.marks.Mark.{Mark}
use Rattle.cv_scan.specs.Marks.{is_right, marks_right, MarkIn, IsBefore, Descends, run_between, runs_from}

-- a mark counts once
abbrev pub once : ℕ → ℕ → Mark → ℕ
once i j mark = cond (is_right i j mark) 1 0

pub right-cons : (i j : ℕ) (a : Mark) (marks : List Mark) → marks_right i j (a ∷ marks) ≡ once i j a + marks_right i j marks
right-cons i j a marks = sum_by-cons (once i j) a marks

pub right-append : (i j : ℕ) (xs ys : List Mark) → marks_right i j (xs ++ ys) ≡ marks_right i j xs + marks_right i j ys
right-append i j xs ys = sum_by-append (once i j) xs ys

-- ---- an edge at the height of a row

-- one for what holds
abbrev pub to_count : Bool → ℕ
to_count b = if b then 1 else 0

-- where both ends are low, or none is, an edge isn't crossed
pub level-crossed :
    (v : PixelGrid) (i j : ℕ) (a b : Position)
    → is_low (centre_of v 0 j) (doubled a) ≡ is_low (centre_of v 0 j) (doubled b)
    → is_crossed (centre_of v i j) (a, b) ≡ false
level-crossed v i j a b same =
    level
    (is_low (centre_of v 0 j) (doubled a))
    (is_low (centre_of v 0 j) (doubled b))
    (passes_right (centre_of v i j) (doubled a) (doubled b))
    (passes_right (centre_of v i j) (doubled b) (doubled a))
    same
  where
    level :
        (x y up down : Bool) → x ≡ y
        → (if x then (if y then false else up) else (if y then down else false)) ≡ false
    level true true up down same = refl
    level true false up down same = cc
    level false true up down same = cc
    level false false up down same = refl

-- ---- the runs between descending marks

-- no pixel lies left of marks that lie before it
none-right :
    (i j : ℕ) (a : Mark) (rest : List Mark) → Descends a rest → (a.row < j) ⊎ ((j ≡ a.row) × (a.column ≤ i))
    → marks_right i j rest ≡ 0
none-right i j a [] falls behind = refl
none-right i j a (b ∷ rest) falls behind =
    let further = behind-next falls.0 behind in
    let later = none-right i j b rest falls.1 further in
    let here : is_right i j b ≡ false = not-right further in
    let none : once i j b ≡ 0 = ap (λ t. cond t 1 0) here in
    let split = right-cons i j b rest in
    omega arith
  where
    behind-next : IsBefore b a → (a.row < j) ⊎ ((j ≡ a.row) × (a.column ≤ i)) → (b.row < j) ⊎ ((j ≡ b.row) × (b.column ≤ i))
    behind-next (inl less) (inl under) = inl (omega arith)
    behind-next (inl less) (inr same) = inl (omega (arith, same.0))
    behind-next (inr same) (inl under) = inl (omega (arith, same.0))
    behind-next (inr same) (inr level) = inr (omega (arith, same.0, level.0), omega (arith, same.1, level.1))

    not-right : (b.row < j) ⊎ ((j ≡ b.row) × (b.column ≤ i)) → is_right i j b ≡ false
    not-right (inl under) = grind (arith, nat_tests)
    not-right (inr same) = let most = same.1 in grind (arith, nat_tests)

-- a run that may be empty has its columns
pub between-on : (i j row from end : ℕ) → is_on_any i j (run_between row from end) ≡ ((j == row) && (nat_le from i && nat_lt i end))
between-on i j row from end = pick (nat_lt from end) refl
  where
    pick :
        (t : Bool) → nat_lt from end ≡ t
        → is_on_any i j (if t then (record { row = row; from = from; end = end }) ∷ [] else [])
        ≡ ((j == row) && (nat_le from i && nat_lt i end))
    pick true some = or-none ((j == row) && (nat_le from i && nat_lt i end))
      where
        or-none : (b : Bool) → (b || false) ≡ b
        or-none true = refl
        or-none false = refl
    pick false none =
        let empty : (nat_le from i && nat_lt i end) ≡ false = grind (arith, nat_tests) in
        rw empty (and-none (j == row))
      where
        and-none : (b : Bool) → false ≡ (b && false)
        and-none true = refl
        and-none false = refl

-- two marks of a row: the columns between them lie left of one of them, and then of none behind
pair-parity :
    (i j row b a n : ℕ) (x : Bool) → b ≤ a → x ≡ (n % 2 == 1) → ((j ≡ row) → b ≤ i → n ≡ 0)
    → (((j == row) && (nat_le b i && nat_lt i a)) || x)
    ≡ ((cond ((j == row) && nat_lt i a) 1 0 + (cond ((j == row) && nat_lt i b) 1 0 + n)) % 2 == 1)
pair-parity i j row b a n x order is none = rows (j == row) refl
  where
    rows :
        (t : Bool) → (j == row) ≡ t
        → ((t && (nat_le b i && nat_lt i a)) || x)
        ≡ ((cond (t && nat_lt i a) 1 0 + (cond (t && nat_lt i b) 1 0 + n)) % 2 == 1)
    rows false apart = is ∙ ap (λ k. k % 2 == 1) (omega arith)
    rows true same = columns (nat_le b i) (nat_lt i a) (nat_lt i b) refl refl refl
      where
        columns :
            (p q r : Bool) → nat_le b i ≡ p → nat_lt i a ≡ q → nat_lt i b ≡ r
            → ((p && q) || x) ≡ ((cond q 1 0 + (cond r 1 0 + n)) % 2 == 1)
        columns true true true from to left = absurd (grind (arith, nat_tests))
        columns true true false from to left =
            let no : n ≡ 0 = none (grind (arith, nat_tests)) (grind (arith, nat_tests)) in
            rw no refl
        columns true false true from to left = absurd (grind (arith, nat_tests))
        columns true false false from to left = is ∙ ap (λ k. k % 2 == 1) (omega arith)
        columns false true true from to left = is ∙ two-more n
          where
            two-more : (n : ℕ) → (n % 2 == 1) ≡ ((1 + (1 + n)) % 2 == 1)
            two-more n = ap (λ k. k == 1) (omega arith)
        columns false true false from to left = absurd (grind (arith, nat_tests))
        columns false false true from to left = absurd (grind (arith, nat_tests))
        columns false false false from to left = absurd (grind (arith, nat_tests))

-- a mark that is the only one right of a pixel in its row
one-parity :
    (i j row from a n : ℕ) (x : Bool) → from ≤ i → x ≡ (n % 2 == 1) → ((j ≡ row) → n ≡ 0)
    → (((j == row) && (nat_le from i && nat_lt i a)) || x) ≡ ((cond ((j == row) && nat_lt i a) 1 0 + n) % 2 == 1)
one-parity i j row from a n x west is none = rows (j == row) refl
  where
    rows :
        (t : Bool) → (j == row) ≡ t
        → ((t && (nat_le from i && nat_lt i a)) || x) ≡ ((cond (t && nat_lt i a) 1 0 + n) % 2 == 1)
    rows false apart = is ∙ ap (λ k. k % 2 == 1) (omega arith)
    rows true same =
        let no : n ≡ 0 = none (grind (arith, nat_tests)) in
        let left : nat_le from i ≡ true = grind (arith, nat_tests) in
        let free : x ≡ false = rw no at is in
        rw (no, left, free) (alone (nat_lt i a))
      where
        alone : (q : Bool) → (q || false) ≡ ((cond q 1 0 + 0) % 2 == 1)
        alone true = refl
        alone false = refl

-- the runs from a mark on, where those from the next and those behind it are known
some-step :
    (t : Bool) (i j from : ℕ) (a b : Mark) (rest : List Mark) → (a.row == b.row) ≡ t → from ≤ i → IsBefore b a
    → Descends b rest → is_on_any i j (runs_from from (Some b) rest) ≡ (marks_right i j (b ∷ rest) % 2 == 1)
    → is_on_any i j (runs_from from None rest) ≡ (marks_right i j rest % 2 == 1)
    → is_on_any i j (if t
    then run_between a.row b.column a.column ++ runs_from from None rest
    else run_between a.row from a.column ++ runs_from from (Some b) rest)
    ≡ (marks_right i j (a ∷ b ∷ rest) % 2 == 1)
some-step true i j from a b rest same west before falls some none =
    let row : a.row ≡ b.row = grind (arith, nat_tests) in
    let order : b.column ≤ a.column = columns row before in
    let split = list_any-append (λ (run : Run). is_on run i j) (run_between a.row b.column a.column) (runs_from from None rest) in
    let first = between-on i j a.row b.column a.column in
    let behind : (j ≡ a.row) → b.column ≤ i → marks_right i j rest ≡ 0 =
    λ at left. none-right i j b rest falls (inr (at ∙ row, left)) in
    let parity =
    pair-parity i j a.row b.column a.column (marks_right i j rest) (is_on_any i j (runs_from from None rest)) order none behind in
    let level : once i j b ≡ cond ((j == a.row) && nat_lt i b.column) 1 0 =
    ap (λ n. cond ((j == n) && nat_lt i b.column) 1 0) (sym row) in
    let whole : marks_right i j (a ∷ b ∷ rest) ≡ cond ((j == a.row) && nat_lt i a.column) 1 0 + (cond ((j == a.row) && nat_lt i b.column) 1 0 + marks_right i j rest) =
    right-cons i j a (b ∷ rest) ∙ ap (λ n. once i j a + n) (right-cons i j b rest ∙ ap (λ n. n + marks_right i j rest) level) in
    split ∙ ap (λ u. u || is_on_any i j (runs_from from None rest)) first ∙ parity ∙ ap (λ n. n % 2 == 1) (sym whole)
  where
    columns : a.row ≡ b.row → IsBefore b a → b.column ≤ a.column
    columns row (inl less) = absurd (omega arith)
    columns row (inr level) = level.1
some-step false i j from a b rest apart west before falls some none =
    let less : b.row < a.row = rows before in
    let split = list_any-append (λ (run : Run). is_on run i j) (run_between a.row from a.column) (runs_from from (Some b) rest) in
    let first = between-on i j a.row from a.column in
    let behind : (j ≡ a.row) → marks_right i j (b ∷ rest) ≡ 0 = λ at. nothing at less in
    let parity =
    one-parity i j a.row from a.column (marks_right i j (b ∷ rest)) (is_on_any i j (runs_from from (Some b) rest)) west some behind in
    split ∙ ap (λ u. u || is_on_any i j (runs_from from (Some b) rest)) first ∙ parity
    ∙ ap (λ n. n % 2 == 1) (sym (right-cons i j a (b ∷ rest)))
  where
    rows : IsBefore b a → b.row < a.row
    rows (inl less) = less
    rows (inr level) = absurd (let same = level.0 in grind (arith, nat_tests))

    nothing : (j ≡ a.row) → b.row < a.row → marks_right i j (b ∷ rest) ≡ 0
    nothing at less =
        let under : b.row < j = omega arith in
        let here : is_right i j b ≡ false = grind (arith, nat_tests) in
        let no : once i j b ≡ 0 = ap (λ t. cond t 1 0) here in
        let later = none-right i j b rest falls (inl under) in
        let parts = right-cons i j b rest in
        omega arith

-- the runs cover the pixels that lie left of an odd number of marks
runs-some :
    (i j from : ℕ) (a : Mark) (rest : List Mark) → from ≤ i → Descends a rest
    → is_on_any i j (runs_from from (Some a) rest) ≡ (marks_right i j (a ∷ rest) % 2 == 1)
runs-some i j from a [] west falls =
    let first = between-on i j a.row from a.column in
    let parity = one-parity i j a.row from a.column 0 false west refl (λ at. refl) in
    first ∙ or-none ((j == a.row) && (nat_le from i && nat_lt i a.column)) ∙ parity
    ∙ ap (λ n. n % 2 == 1) (sym (right-cons i j a []))
  where
    or-none : (b : Bool) → b ≡ (b || false)
    or-none true = refl
    or-none false = refl
runs-some i j from a (b ∷ []) west falls =
    some-step (a.row == b.row) i j from a b [] refl west falls.0 falls.1 (runs-some i j from b [] west falls.1) refl
runs-some i j from a (b ∷ c ∷ rest) west falls =
    some-step (a.row == b.row) i j from a b (c ∷ rest) refl west falls.0 falls.1
    (runs-some i j from b (c ∷ rest) west falls.1) (runs-some i j from c rest west falls.1.1)

-- they lie in the area of the marks
pub between-in :
    (area : Area) (row from end : ℕ) → area.rows.from ≤ row → row < area.rows.end → area.columns.from ≤ from
    → end ≤ area.columns.end → All (LiesIn area) (run_between row from end)
between-in area row from end north south west east = pick (nat_lt from end) refl
  where
    pick : (t : Bool) → nat_lt from end ≡ t → All (LiesIn area) (if t then (record { row = row; from = from; end = end }) ∷ [] else [])
    pick true some =
        All-cons (LiesIn area) (record { row = row; from = from; end = end }) []
        (record { north = north; south = south; west = west; some = grind (arith, nat_tests); east = east })
        (All-nil (LiesIn area))
    pick false none = All-nil (LiesIn area)

in-step :
    (t : Bool) (area : Area) (a b : Mark) (rest : List Mark) → MarkIn area a → MarkIn area b
    → All (LiesIn area) (runs_from area.columns.from (Some b) rest)
    → All (LiesIn area) (runs_from area.columns.from None rest)
    → All (LiesIn area) (if t
    then run_between a.row b.column a.column ++ runs_from area.columns.from None rest
    else run_between a.row area.columns.from a.column ++ runs_from area.columns.from (Some b) rest)
in-step true area a b rest in_a in_b some none =
    All-append (LiesIn area) (run_between a.row b.column a.column) (runs_from area.columns.from None rest)
    (between-in area a.row b.column a.column in_a.north in_a.south in_b.west in_a.east) none
in-step false area a b rest in_a in_b some none =
    All-append (LiesIn area) (run_between a.row area.columns.from a.column) (runs_from area.columns.from (Some b) rest)
    (between-in area a.row area.columns.from a.column in_a.north in_a.south (omega arith) in_a.east) some

some-in :
    (area : Area) (a : Mark) (rest : List Mark) → MarkIn area a → All (MarkIn area) rest
    → All (LiesIn area) (runs_from area.columns.from (Some a) rest)
some-in area a [] here within =
    between-in area a.row area.columns.from a.column here.north here.south (omega arith) here.east
some-in area a (b ∷ []) here within =
    let next = All-head (MarkIn area) b [] within in
    in-step (a.row == b.row) area a b [] here next (some-in area b [] next (All-tail (MarkIn area) b [] within))
    (All-nil (LiesIn area))
some-in area a (b ∷ c ∷ rest) here within =
    let next = All-head (MarkIn area) b (c ∷ rest) within in
    let later = All-tail (MarkIn area) b (c ∷ rest) within in
    in-step (a.row == b.row) area a b (c ∷ rest) here next (some-in area b (c ∷ rest) next later)
    (some-in area c rest (All-head (MarkIn area) c rest later) (All-tail (MarkIn area) c rest later))

-- marks in descending order
abbrev pub AreDescending : List Mark → Type 0
AreDescending [] = Unit {0}
AreDescending (a ∷ rest) = Descends a rest

runs-on :
    (i j from : ℕ) (marks : List Mark) → from ≤ i → AreDescending marks
    → is_on_any i j (runs_from from None marks) ≡ (marks_right i j marks % 2 == 1)
runs-on i j from [] west falls = refl
runs-on i j from (a ∷ rest) west falls = runs-some i j from a rest west falls

runs-in :
    (area : Area) (marks : List Mark) → All (MarkIn area) marks
    → All (LiesIn area) (runs_from area.columns.from None marks)
runs-in area [] within = All-nil (LiesIn area)
runs-in area (a ∷ rest) within =
    some-in area a rest (All-head (MarkIn area) a rest within) (All-tail (MarkIn area) a rest within)

-- the runs between descending marks are those of the marks in any order
pub pairs-added :
    (area : Area) (marks sorted : List Mark) (old new : List Run) → All (MarkIn area) marks
    → IsPermutation marks sorted → AreDescending sorted → new ≡ old ++ runs_from area.columns.from None sorted
    → Adds (λ i j. marks_right i j marks % 2 == 1) area old new
pairs-added area marks sorted old new within moved falls put = record {
  within = λ all.
      rw put
      (All-append (LiesIn area) old (runs_from area.columns.from None sorted) all
      (runs-in area sorted (All-permutation (MarkIn area) marks sorted moved within)));
  covered = λ i j here.
      let runs = runs_from area.columns.from None sorted in
      let split = ap (λ rs. is_on_any i j rs) put ∙ list_any-append (λ (run : Run). is_on run i j) old runs in
      let on = runs-on i j area.columns.from sorted here.west falls in
      let same = sum_by-IsPermutation (once i j) marks sorted moved in
      split ∙ ap (λ t. is_on_any i j old || t) (on ∙ ap (λ n. n % 2 == 1) same);
}

-- ---- the order of marks

-- marks that don't ascend
pub descends-each :
    (a : Mark) (rest : List Mark)
    → ((k : ℕ) (d : Mark) → k + 1 < length (a ∷ rest) → IsBefore (get_or (a ∷ rest) (k + 1) d) (get_or (a ∷ rest) k d))
    → Descends a rest
descends-each a [] sorted = tt
descends-each a (b ∷ rest) sorted =
    let first = sorted 0 a (omega arith) in
    let later =
    descends-each b rest
    (λ k d less.
    let next : suc k + 1 ≡ suc (k + 1) = omega arith in
    let there = sorted (suc k) d (omega arith) in
    rw (ap (λ n. get_or (a ∷ b ∷ rest) n d) next) at there) in
    (first, later)

-- the numbers by which marks are sorted, and their order
abbrev pub place_of : Mark → ℕ × ℕ
place_of mark = (mark.row, mark.column)

abbrev pub compared : ℕ × ℕ → ℕ × ℕ → Ordering
compared x y = ordering_then (nat_cmp x.0 y.0) (nat_cmp x.1 y.1)

not-behind : (a b : Mark) → is_lt (compared (place_of b) (place_of a)) ≡ false → IsBefore a b
not-behind a b not_less = rows (nat_lt b.row a.row) (b.row == a.row) refl refl
  where
    rows : (x y : Bool) → nat_lt b.row a.row ≡ x → (b.row == a.row) ≡ y → IsBefore a b
    rows true y less same = cc
    rows false false less same = inl (grind (arith, nat_tests))
    rows false true less same = columns (nat_lt b.column a.column) refl
      where
        columns : (z : Bool) → nat_lt b.column a.column ≡ z → IsBefore a b
        columns true before = cc
        columns false before = inr (grind (arith, nat_tests), grind (arith, nat_tests))

-- marks that are sorted and then reversed descend
pub reversed-each :
    (marks : List Mark) → IsSortedByKey place_of compared marks → (k : ℕ) (d : Mark) → k + 1 < length marks
    → IsBefore (get_or (reverse marks) (k + 1) d) (get_or (reverse marks) k d)
reversed-each marks sorted k d less =
    let n = length marks - 1 - (k + 1) in
    let low = get_or-reverse marks (k + 1) d less in
    let high = get_or-reverse marks k d (omega arith) in
    let next : length marks - 1 - k ≡ n + 1 = omega arith in
    let there = not-behind (get_or marks n d) (get_or marks (n + 1) d) (sorted n d (omega arith) (omega arith)) in
    rw (low, high ∙ ap (λ m. get_or marks m d) next) there

-- ---- rows

-- a point is low at the first rows, since centres descend from row to row
pub rows-fall :
    (v : PixelGrid) (low high : ℕ) (p : Position) → pos 1 ≤ℤ v.u → FallsIn (λ j. is_low (centre_of v 0 j) p) low high
rows-fall v low high p unit i k from order less held =
    let step : pos (2 * i + 1) ≤ℤ pos (2 * k + 1) = omega (arith, ints) in
    let far = mul-le-mulZ (pos (2 * i + 1)) (pos (2 * k + 1)) v.u step (omega (arith, ints)) in
    grind (arith, ints)

-- the steps of one part are paid
pub one-paid :
    (steps new total rows here rest all : ℕ) → all ≡ here + rest → steps + all * rows ≤ total → new ≤ steps + here * rows
    → new + rest * rows ≤ total
one-paid steps new total rows here rest all is paid cost =
    let split : all * rows ≡ here * rows + rest * rows = ap (λ n. n * rows) is ∙ spread here rest rows in
    omega arith
  where
    spread : (a b c : ℕ) → (a + b) * c ≡ a * c + b * c
    spread a b c = grind arith
