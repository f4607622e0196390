-- Runs: that runs in reading order are apart and few, what is added row by row, and runs that are joined.
use Rattle.std.proofs.Common.{◌≡◌, ◌∙◌, sym, ap, refl, ℕ, suc, ◌+◌, ◌-◌, ◌*◌, ◌<◌, ◌≤◌, nat_lt, ◌==◌, ◌⊎◌, inl, inr, Bool, true, false, ◌&&◌, ◌||◌, List, [], ◌∷◌, ◌++◌, sum_by, arith}
use Rattle.std.specs.List.{All}
use Rattle.std.proofs.lemmas.Bool.Decides.{nat_tests}
use Rattle.std.proofs.lemmas.List.Elements.{All-nil, All-cons, All-head, All-tail, All-append}
use Rattle.std.proofs.lemmas.List.Folds.{list_any-append}
use Rattle.std.proofs.lemmas.List.Sums.{sum_by-cons}
use Rattle.std.proofs.Math.Nat.{mul-le-mul_right}
use Rattle.cv_model.specs.declared.span.Span.{Span}
use Rattle.cv_geom.specs.declared.runs.Run.{Run}
use Rattle.cv_geom.specs.declared.runs.Area.{Area}
use Rattle.cv_geom.specs.Spans.{is_in, is_covered, AreApart, AreRuns}
use Rattle.cv_geom.specs.Runs.{is_on, is_on_any, IsWithin, IsApart, IsArea, IsIn, LiesIn, BeginsAt, AreInOrder, AreRunsOf, Adds, Unites, in_row, size_of, length_of}

-- a pixel before runs in reading order lies on none
before-begin : (i j a b : ℕ) (run : Run) → BeginsAt a b run → (j < b) ⊎ ((j ≡ b) × (i < a)) → is_on run i j ≡ false
before-begin i j a b run begins before = grind (arith, nat_tests)

begins-later : (i j a b : ℕ) (run : Run) → BeginsAt a b run → (j < b) ⊎ ((j ≡ b) × (i < a)) → run.from ≤ run.end → (j < run.row) ⊎ ((j ≡ run.row) × (i < run.end))
begins-later i j a b run begins before some = grind arith

order-before :
    (area : Area) (i j a b : ℕ) (runs : List Run) → All (LiesIn area) runs → AreInOrder a b runs
    → (j < b) ⊎ ((j ≡ b) × (i < a)) → is_on_any i j runs ≡ false
order-before area i j a b [] within order before = refl
order-before area i j a b (run ∷ rest) within order before =
    let here = All-head (LiesIn area) run rest within in
    let no = before-begin i j a b run order.0 before in
    let later = begins-later i j a b run order.0 before (omega (arith, here.some)) in
    let none = order-before area i j run.end run.row rest (All-tail (LiesIn area) run rest within) order.1 later in
    rw (no, none) refl

-- a pixel on a run lies before its end
on-before : (i j : ℕ) (run : Run) → is_on run i j ≡ true → (j < run.row) ⊎ ((j ≡ run.row) × (i < run.end))
on-before i j run on = grind (arith, nat_tests)

-- so no pixel lies on two of them
order-apart : (area : Area) (a b : ℕ) (runs : List Run) → All (LiesIn area) runs → AreInOrder a b runs → IsApart runs
order-apart area a b [] within order = tt
order-apart area a b (run ∷ rest) within order =
    let later = All-tail (LiesIn area) run rest within in (
      λ i j on. order-before area i j run.end run.row rest later order.1 (on-before i j run on),
      order-apart area run.end run.row rest later order.1,
    )

pub runs-apart : (test : ℕ → ℕ → Bool) (area : Area) (runs : List Run) → AreRunsOf test area runs → IsApart runs
runs-apart test area runs told = order-apart area area.columns.from area.rows.from runs told.within told.order

-- the runs of an area lie within the view
pub runs-within :
    (w h : ℕ) (area : Area) (runs : List Run) → IsArea w h area → All (LiesIn area) runs → All (IsWithin w h) runs
runs-within w h area [] is within = All-nil (IsWithin w h)
runs-within w h area (run ∷ rest) is within =
    let here = All-head (LiesIn area) run rest within in
    All-cons (IsWithin w h) run rest
    (record {
      row_in = omega (arith, here.south, is.rows_in);
      order = omega (arith, here.some);
      end_in = omega (arith, here.east, is.columns_in);
    })
    (runs-within w h area rest is (All-tail (LiesIn area) run rest within))

-- the place of a pixel in reading order, in an area from column c on whose rows have w pixels
abbrev place : ℕ → ℕ → ℕ → ℕ → ℕ
place c w a b = b * w + (a - c)

-- the places before a row end where it begins
place-in-row : (c w a b n : ℕ) → a ≤ c + w → b < n → place c w a b ≤ n * w
place-in-row c w a b n east south =
    let more = mul-le-mul_right w south in
    let one : suc b * w ≡ w + b * w = grind arith in
    omega arith

place-begins :
    (c w a b : ℕ) (run : Run) → c ≤ a → a ≤ c + w → c ≤ run.from → BeginsAt a b run
    → place c w a b ≤ place c w run.from run.row
place-begins c w a b run west east from (inl less) =
    let most = place-in-row c w a b run.row east less in omega arith
place-begins c w a b run west east from (inr same) =
    let rows : b * w ≡ run.row * w = ap (λ n. n * w) same.0 in
    omega (arith, same.1)

-- runs in reading order have at most the places from where they begin
order-few :
    (area : Area) (w a b : ℕ) (runs : List Run) → All (LiesIn area) runs → AreInOrder a b runs
    → area.columns.end ≤ area.columns.from + w → area.columns.from ≤ a → a ≤ area.columns.from + w
    → place area.columns.from w a b ≤ area.rows.end * w
    → place area.columns.from w a b + sum_by length_of runs ≤ area.rows.end * w
order-few area w a b [] within order wide west east most = omega arith
order-few area w a b (run ∷ rest) within order wide west east most =
    let here = All-head (LiesIn area) run rest within in
    let c = area.columns.from in
    let begins = place-begins c w a b run west east here.west order.0 in
    let end : run.end ≤ c + w = omega (arith, here.east) in
    let from : c ≤ run.end = omega (arith, here.west, here.some) in
    let more = place-in-row c w run.end run.row area.rows.end end here.south in
    let later = order-few area w run.end run.row rest (All-tail (LiesIn area) run rest within) order.1 wide from end more in
    let split = sum_by-cons length_of run rest in
    omega (arith, here.west, here.some)

pub runs-few :
    (test : ℕ → ℕ → Bool) (area : Area) (runs : List Run) → AreRunsOf test area runs
    → sum_by length_of runs ≤ size_of area
runs-few test area [] told = omega arith
runs-few test area (run ∷ rest) told =
    let here = All-head (LiesIn area) run rest told.within in
    let c = area.columns.from in
    let w = area.columns.end - c in
    let b = area.rows.from in
    let wide : area.columns.end ≤ c + w = omega arith in
    let below : b ≤ area.rows.end = omega (arith, here.north, here.south) in
    let more : b * w ≤ area.rows.end * w = mul-le-mul_right w below in
    let start : place c w c b ≤ area.rows.end * w = omega arith in
    let all = order-few area w c b (run ∷ rest) told.within told.order wide (omega arith) (omega arith) start in
    let parts : b * w + (area.rows.end - b) * w ≡ area.rows.end * w = times-parts b area.rows.end w below in
    omega arith
  where
    times-parts : (b n w : ℕ) → b ≤ n → b * w + (n - b) * w ≡ n * w
    times-parts b n w below =
        let whole : b + (n - b) ≡ n = omega arith in
        let split : (b + (n - b)) * w ≡ b * w + (n - b) * w = grind arith in
        sym split ∙ ap (λ k. k * w) whole

-- ---- runs that are put behind others

-- a row's span has the pixels of its run
span-on : (i j row : ℕ) (span : Span) → is_on (record { row = row; from = span.from; end = span.end }) i j ≡ ((j == row) && is_in i span)
span-on i j row span = refl

spans-on : (i j row : ℕ) (spans : List Span) → is_on_any i j (in_row row spans) ≡ ((j == row) && is_covered i spans)
spans-on i j row [] = none (j == row)
  where
    none : (b : Bool) → false ≡ (b && false)
    none true = refl
    none false = refl
spans-on i j row (span ∷ rest) = rw (spans-on i j row rest) (spread (j == row) (is_in i span) (is_covered i rest))
  where
    spread : (b x y : Bool) → ((b && x) || (b && y)) ≡ (b && (x || y))
    spread true x y = refl
    spread false x y = refl

-- and lies in the area
spans-in :
    (area : Area) (row low : ℕ) (spans : List Span) → area.rows.from ≤ row → row < area.rows.end
    → area.columns.from ≤ low → AreApart low area.columns.end spans → All (LiesIn area) (in_row row spans)
spans-in area row low [] north south west apart = All-nil (LiesIn area)
spans-in area row low (span ∷ rest) north south west apart =
    All-cons (LiesIn area) (record { row = row; from = span.from; end = span.end }) (in_row row rest)
    (record {
      north = north;
      south = south;
      west = omega (arith, apart.0);
      some = apart.1;
      east = apart.2;
    })
    (spans-in area row (span.end + 1) rest north south (omega (arith, apart.0, apart.1)) apart.3)

-- nothing is added before the first row
pub adds-none : (test : ℕ → ℕ → Bool) (area : Area) (runs : List Run) → Adds (λ i j. nat_lt j area.rows.from && test i j) area runs runs
adds-none test area runs = record {
  within = λ all. all;
  covered = λ i j is.
      let no : nat_lt j area.rows.from ≡ false = let north = is.north in grind (arith, nat_tests) in
      rw no (or_none (is_on_any i j runs));
}
  where
    or_none : (b : Bool) → b ≡ (b || false)
    or_none true = refl
    or_none false = refl

-- one row more
pub adds-row :
    (test : ℕ → ℕ → Bool) (area : Area) (row : ℕ) (spans : List Span) (first old new : List Run)
    → area.rows.from ≤ row → row < area.rows.end
    → AreRuns (λ i. test i row) area.columns.from area.columns.end spans
    → Adds (λ i j. nat_lt j row && test i j) area first old → new ≡ old ++ in_row row spans
    → Adds (λ i j. nat_lt j (row + 1) && test i j) area first new
adds-row test area row spans first old new north south told before put = record {
  within = λ all.
      rw put
      (All-append (LiesIn area) old (in_row row spans) (before.within all)
      (spans-in area row area.columns.from spans north south (omega arith) told.apart));
  covered = λ i j is.
      let split = list_any-append (λ (run : Run). is_on run i j) old (in_row row spans) in
      let here = spans-on i j row spans in
      let rows = before.covered i j is in
      let whole : is_on_any i j new ≡ ((is_on_any i j first || (nat_lt j row && test i j)) || ((j == row) && is_covered i spans)) =
      ap (λ (runs : List Run). is_on_any i j runs) put ∙ split ∙ ap (λ b. b || is_on_any i j (in_row row spans)) rows
      ∙ ap (λ b. (is_on_any i j first || (nat_lt j row && test i j)) || b) here in
      whole ∙ by-row i j (j == row) refl (told.covered i is.west is.east);
}
  where
    by-row :
        (i j : ℕ) (here : Bool) → (j == row) ≡ here → is_covered i spans ≡ test i row
        → ((is_on_any i j first || (nat_lt j row && test i j)) || (here && is_covered i spans))
        ≡ (is_on_any i j first || (nat_lt j (row + 1) && test i j))
    by-row i j true same covered =
        let at : j ≡ row = grind (arith, nat_tests) in
        let less : nat_lt j row ≡ false = grind (arith, nat_tests) in
        let more : nat_lt j (row + 1) ≡ true = grind (arith, nat_tests) in
        let now : is_covered i spans ≡ test i j = covered ∙ ap (λ n. test i n) (sym at) in
        rw (less, more, now) (drop_false (is_on_any i j first) (test i j))
      where
        drop_false : (a b : Bool) → ((a || false) || b) ≡ (a || b)
        drop_false true b = refl
        drop_false false b = refl
    by-row i j false apart covered =
        let same : nat_lt j row ≡ nat_lt j (row + 1) = grind (arith, nat_tests) in
        rw same (or_none (is_on_any i j first || (nat_lt j (row + 1) && test i j)))
      where
        or_none : (b : Bool) → (b || false) ≡ b
        or_none true = refl
        or_none false = refl

-- all rows of the area
pub adds-all :
    (test : ℕ → ℕ → Bool) (area : Area) (row : ℕ) (old new : List Run) → area.rows.end ≤ row
    → Adds (λ i j. nat_lt j row && test i j) area old new → Adds test area old new
adds-all test area row old new end told = record {
  within = told.within;
  covered = λ i j is.
      let less : nat_lt j row ≡ true = let south = is.south in grind (arith, nat_tests) in
      let here = told.covered i j is in
      rw less at here;
}

-- ---- runs that are put one after the other

-- what is still to be added makes what was added whole
pub record StillAdds (test rest : ℕ → ℕ → Bool) (area : Area) (old now : List Run) : Type 0 where
  pub within : All (LiesIn area) old → All (LiesIn area) now
  pub covered : (i j : ℕ) → IsIn area i j → (is_on_any i j now || rest i j) ≡ (is_on_any i j old || test i j)

pub still-start : (test : ℕ → ℕ → Bool) (area : Area) (runs : List Run) → StillAdds test test area runs runs
still-start test area runs = record { within = λ all. all; covered = λ i j is. refl }

or-none : (b : Bool) → (b || false) ≡ b
or-none true = refl
or-none false = refl

or-assoc : (a b c : Bool) → ((a || b) || c) ≡ (a || (b || c))
or-assoc true b c = refl
or-assoc false b c = refl

pub still-done :
    (test rest : ℕ → ℕ → Bool) (area : Area) (old now : List Run) → ((i j : ℕ) → rest i j ≡ false)
    → StillAdds test rest area old now → Adds test area old now
still-done test rest area old now none told = record {
  within = told.within;
  covered = λ i j is.
      sym (or-none (is_on_any i j now)) ∙ ap (λ b. is_on_any i j now || b) (sym (none i j)) ∙ told.covered i j is;
}

pub still-step :
    (test here rest later : ℕ → ℕ → Bool) (area : Area) (old now new : List Run)
    → ((i j : ℕ) → rest i j ≡ (here i j || later i j)) → StillAdds test rest area old now → Adds here area now new
    → StillAdds test later area old new
still-step test here rest later area old now new split told added = record {
  within = λ all. added.within (told.within all);
  covered = λ i j is.
      ap (λ b. b || later i j) (added.covered i j is) ∙ or-assoc (is_on_any i j now) (here i j) (later i j)
      ∙ ap (λ b. is_on_any i j now || b) (sym (split i j)) ∙ told.covered i j is;
}

-- no runs yet
pub adds-first :
    (test : ℕ → ℕ → Bool) (area : Area) (runs made : List Run) → Adds test area [] runs → Unites runs made
    → AreRunsOf test area made
adds-first test area runs made added told =
    let all = added.within (All-nil (LiesIn area)) in
    record {
      within = told.within area all;
      order = told.order area all;
      covered = λ i j is. told.covered i j ∙ added.covered i j is;
    }

-- runs that were put behind others, and then joined or left as they were
pub adds-united :
    (test : ℕ → ℕ → Bool) (area : Area) (old now new : List Run) → Adds test area old now
    → (new ≡ now) ⊎ Unites now new → Adds test area old new
adds-united test area old now new added (inl same) = rw same added
adds-united test area old now new added (inr told) = record {
  within = λ all. told.within area (added.within all);
  covered = λ i j is. told.covered i j ∙ added.covered i j is;
}
