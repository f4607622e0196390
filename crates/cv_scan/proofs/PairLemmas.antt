-- Marks by rows: the runs between them, and the marks in a list.
use Rattle.std.proofs.Common.{◌≡◌, ◌∙◌, sym, ap, refl, ℕ, min, max, ◌+◌, ◌-◌, ◌%◌, ◌<◌, ◌≤◌, nat_lt, nat_le, ◌==◌, Bool, true, false, ◌&&◌, ◌||◌, if◌then◌else◌, List, [], ◌++◌, length, get_or, replicate, zero, suc, arith}
use Rattle.std.specs.List.{All}
use Rattle.std.proofs.lemmas.Bool.Decides.{nat_tests}
use Rattle.std.proofs.lemmas.List.Elements.{All-append, All-nil, All-cons}
use Rattle.std.proofs.lemmas.List.Folds.{list_any-append}
use Rattle.cv_geom.specs.declared.runs.Run.{Run}
use Rattle.cv_geom.specs.declared.runs.Area.{Area}
use Rattle.cv_geom.specs.Runs.{is_on, is_on_any, LiesIn, Adds}
use Rattle.cv_scan.specs.declared.pairs.Pair.{Pair}
use Rattle.cv_scan.specs.Marks.{run_between}
use Rattle.cv_scan.specs.Pairs.{PairsIn, ReachesTo, left_of, no_marks, pair_right, pairs_right, row_right}
use Rattle.cv_scan.proofs.MarkLemmas.{between-in, between-on}
use Rattle.cv_scan.proofs.PlaneLemmas.{row-more}

-- the pair of a row
pub here-right :
    (i j first at : ℕ) (pairs : List Pair) (pair : Pair) → j ≡ first + at → get_or pairs at no_marks ≡ pair
    → pairs_right i j first pairs ≡ pair_right i pair
here-right i j first at pairs pair same is =
    let yes : nat_le first j ≡ true = grind (arith, nat_tests) in
    let place : j - first ≡ at = omega arith in
    rw yes (ap (pair_right i) (ap (λ k. get_or pairs k no_marks) place ∙ is))

-- no pairs have no marks
pub empty-right : (i j first : ℕ) → pairs_right i j first [] ≡ 0
empty-right i j first = pick (nat_le first j)
  where
    no : nat_lt i 0 ≡ false
    no = grind (arith, nat_tests)

    none : left_of i 0 + left_of i 0 ≡ 0
    none = rw no refl

    pick : (t : Bool) → (if t then pair_right i no_marks else 0) ≡ 0
    pick true = none
    pick false = refl

-- and lie in each area
pub no-pairs : (area : Area) (first : ℕ) (pairs : List Pair) → PairsIn area first pairs → PairsIn area first []
no-pairs area first pairs lies = record {
  north = lies.north;
  south = omega (arith, lies.south);
  east = All-nil (ReachesTo area.columns.end);
}

-- pairs without marks reach nowhere
pub replicated-in : (most n : ℕ) → All (ReachesTo most) (replicate n no_marks)
replicated-in most zero = All-nil (ReachesTo most)
replicated-in most (suc n) =
    All-cons (ReachesTo most) no_marks (replicate n no_marks) (record { one = omega arith; other = omega arith })
    (replicated-in most n)

-- ---- the runs of pairs, row by row

-- a pixel lies between two marks where it lies left of one of them
between-odd :
    (i low one other : ℕ) → low ≤ i
    → (nat_le (max (min one other) low) i && nat_lt i (max one other)) ≡ ((left_of i one + left_of i other) % 2 == 1)
between-odd i low one other west =
    pick (nat_lt i one) (nat_lt i other) (nat_le (max (min one other) low) i) (nat_lt i (max one other)) refl refl refl refl
  where
    pick :
        (a b p q : Bool) → nat_lt i one ≡ a → nat_lt i other ≡ b → nat_le (max (min one other) low) i ≡ p
        → nat_lt i (max one other) ≡ q
        → (p && q) ≡ (((if a then 1 else 0) + (if b then 1 else 0)) % 2 == 1)
    pick true true true q less_one less_other from to = absurd (grind (arith, nat_tests))
    pick true true false q less_one less_other from to = refl
    pick true false true true less_one less_other from to = refl
    pick true false true false less_one less_other from to = absurd (grind (arith, nat_tests))
    pick true false false q less_one less_other from to = absurd (grind (arith, nat_tests))
    pick false true true true less_one less_other from to = refl
    pick false true true false less_one less_other from to = absurd (grind (arith, nat_tests))
    pick false true false q less_one less_other from to = absurd (grind (arith, nat_tests))
    pick false false p true less_one less_other from to = absurd (grind (arith, nat_tests))
    pick false false true false less_one less_other from to = refl
    pick false false false false less_one less_other from to = refl

-- the run of one row
pair-added :
    (area : Area) (row : ℕ) (pair : Pair) (old new : List Run) → area.rows.from ≤ row → row < area.rows.end
    → ReachesTo area.columns.end pair
    → new ≡ old ++ run_between row (max (min pair.one pair.other) area.columns.from) (max pair.one pair.other)
    → Adds (λ i j. (j == row) && (pair_right i pair % 2 == 1)) area old new
pair-added area row pair old new north south east put = record {
  within = λ all.
      let most : max pair.one pair.other ≤ area.columns.end = omega (arith, east.one, east.other) in
      rw put
      (All-append (LiesIn area) old (run_between row from end) all
      (between-in area row from end north south (omega arith) most));
  covered = λ i j here.
      let split = ap (λ rs. is_on_any i j rs) put ∙ list_any-append (λ (run : Run). is_on run i j) old (run_between row from end) in
      let odd = between-odd i area.columns.from pair.one pair.other here.west in
      split ∙ ap (λ t. is_on_any i j old || t) (between-on i j row from end ∙ ap (λ t. (j == row) && t) odd);
}
  where
    from : ℕ
    from = max (min pair.one pair.other) area.columns.from

    end : ℕ
    end = max pair.one pair.other

-- one row more
pub pairs-more :
    (area : Area) (first at : ℕ) (pairs : List Pair) (pair : Pair) (start old new : List Run)
    → PairsIn area first pairs → at < length pairs → get_or pairs at no_marks ≡ pair → ReachesTo area.columns.end pair
    → Adds (λ i j. nat_lt j (first + at) && (pairs_right i j first pairs % 2 == 1)) area start old
    → new ≡ old ++ run_between (first + at) (max (min pair.one pair.other) area.columns.from) (max pair.one pair.other)
    → Adds (λ i j. nat_lt j (first + (at + 1)) && (pairs_right i j first pairs % 2 == 1)) area start new
pairs-more area first at pairs pair start old new lies less is east before put =
    let north : area.rows.from ≤ first + at = omega (arith, lies.north) in
    let south : first + at < area.rows.end = omega (arith, lies.south) in
    let added = pair-added area (first + at) pair old new north south east put in
    let next : first + at + 1 ≡ first + (at + 1) = omega arith in
    let told =
    row-more (λ i j. pairs_right i j first pairs % 2 == 1) area (first + at)
    (λ i j. (j == first + at) && (pair_right i pair % 2 == 1)) start old new
    (λ i j here. odd i j (j == first + at) refl) before added in
    rw next at told
  where
    odd :
        (i j : ℕ) (t : Bool) → (j == first + at) ≡ t
        → (t && (pair_right i pair % 2 == 1)) ≡ (t && (pairs_right i j first pairs % 2 == 1))
    odd i j false differ = refl
    odd i j true same =
        let there : j ≡ first + at = grind (arith, nat_tests) in
        ap (λ n. n % 2 == 1) (sym (here-right i j first at pairs pair there is))

-- ---- the marks of pairs in a list

-- one row more
pub listed-more :
    (i j first at rest old one two : ℕ) (pairs : List Pair) (pair : Pair) → get_or pairs at no_marks ≡ pair
    → old ≡ rest + (if nat_lt j (first + at) then pairs_right i j first pairs else 0)
    → one ≡ old + row_right i j (first + at) pair.one → two ≡ one + row_right i j (first + at) pair.other
    → two ≡ rest + (if nat_lt j (first + (at + 1)) then pairs_right i j first pairs else 0)
listed-more i j first at rest old one two pairs pair is before first_more then_more =
    pick (nat_lt j (first + at)) (j == first + at) (nat_lt j (first + (at + 1))) refl refl refl
  where
    all : ℕ
    all = pairs_right i j first pairs

    sums : (b c : ℕ) → old ≡ rest + 0 → one ≡ old + b → two ≡ one + c → two ≡ rest + (b + c)
    sums b c p q r = omega arith

    pick :
        (p q r : Bool) → nat_lt j (first + at) ≡ p → (j == first + at) ≡ q → nat_lt j (first + (at + 1)) ≡ r
        → two ≡ rest + (if r then all else 0)
    pick true true r before_it at_it behind = absurd (grind (arith, nat_tests))
    pick true false true before_it at_it behind =
        let told = rw before_it at before in
        let first_told = rw at_it at first_more in
        let then_told = rw at_it at then_more in
        omega arith
    pick true false false before_it at_it behind = absurd (grind (arith, nat_tests))
    pick false true true before_it at_it behind =
        let there : j ≡ first + at = grind (arith, nat_tests) in
        let told = rw before_it at before in
        let first_told = rw at_it at first_more in
        let then_told = rw at_it at then_more in
        let here = here-right i j first at pairs pair there is in
        let whole = sums (left_of i pair.one) (left_of i pair.other) told first_told then_told in
        whole ∙ ap (λ n. rest + n) (sym here)
    pick false true false before_it at_it behind = absurd (grind (arith, nat_tests))
    pick false false true before_it at_it behind = absurd (grind (arith, nat_tests))
    pick false false false before_it at_it behind =
        let told = rw before_it at before in
        let first_told = rw at_it at first_more in
        let then_told = rw at_it at then_more in
        omega arith
