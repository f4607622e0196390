-- Spans: that the maximal runs of columns are one list.
use Rattle.std.proofs.Common.{◌≡◌, ◌∙◌, sym, ap, refl, ℕ, ◌+◌, ◌<◌, ◌≤◌, nat_lt, nat_le, ◌⊎◌, inl, inr, Bool, true, false, ◌&&◌, List, [], ◌∷◌, arith}
use Rattle.std.proofs.lemmas.Bool.Decides.{nat_tests}
use Rattle.cv_model.specs.declared.span.Span.{Span}
use Rattle.cv_geom.specs.Spans.{is_in, is_covered, AreApart, AreRuns}

-- a column before the spans lies in none
none-before :
    (i low high : ℕ) (spans : List Span) → AreApart low high spans → i < low → is_covered i spans ≡ false
none-before i low high [] apart before = refl
none-before i low high (span ∷ rest) apart before =
    let here : (nat_le span.from i && nat_lt i span.end) ≡ false =
    let under : i < span.from = omega (arith, apart.0) in grind (arith, nat_tests) in
    let later = none-before i (span.end + 1) high rest apart.3 (omega (arith, apart.0, apart.1)) in
    rw (here, later) refl

-- a column within a span lies in it, and behind its end it doesn't
covered-here : (i : ℕ) (span : Span) (rest : List Span) → span.from ≤ i → i < span.end → is_covered i (span ∷ rest) ≡ true
covered-here i span rest from less =
    let here : (nat_le span.from i && nat_lt i span.end) ≡ true = grind (arith, nat_tests) in
    rw here refl

not-behind : (i : ℕ) (span : Span) → span.end ≤ i → is_in i span ≡ false
not-behind i span behind = grind (arith, nat_tests)

-- of two lists of runs that cover the same columns
abbrev SameFrom : ℕ → ℕ → List Span → List Span → Type 0
SameFrom low high xs ys = (i : ℕ) → low ≤ i → i < high → is_covered i xs ≡ is_covered i ys

-- the second doesn't begin behind the first
begins-by :
    (low high : ℕ) (x y : Span) (xs ys : List Span) → AreApart low high (x ∷ xs) → AreApart low high (y ∷ ys)
    → SameFrom low high (x ∷ xs) (y ∷ ys) → y.from ≤ x.from
begins-by low high x y xs ys apart_x apart_y same = pick (grind arith)
  where
    pick : (y.from ≤ x.from) ⊎ (x.from < y.from) → y.from ≤ x.from
    pick (inl by) = by
    pick (inr behind) =
        let there = covered-here x.from x xs (omega arith) apart_x.1 in
        let none = none-before x.from y.from high (y ∷ ys) (omega arith, apart_y.1, apart_y.2, apart_y.3) behind in
        let both = same x.from apart_x.0 (omega (arith, apart_x.1, apart_x.2)) in
        cc

-- where they begin alike, the first span of the second doesn't end behind that of the first
ends-by :
    (low high : ℕ) (x y : Span) (xs ys : List Span) → AreApart low high (x ∷ xs) → AreApart low high (y ∷ ys)
    → x.from ≡ y.from → SameFrom low high (x ∷ xs) (y ∷ ys) → y.end ≤ x.end
ends-by low high x y xs ys apart_x apart_y alike same = pick (grind arith)
  where
    pick : (y.end ≤ x.end) ⊎ (x.end < y.end) → y.end ≤ x.end
    pick (inl by) = by
    pick (inr behind) =
        let there = covered-here x.end y ys (omega (arith, apart_x.1)) behind in
        let out = not-behind x.end x (omega arith) in
        let none = none-before x.end (x.end + 1) high xs apart_x.3 (omega arith) in
        let both = same x.end (omega (arith, apart_x.0, apart_x.1)) (omega (arith, apart_y.2)) in
        let free : is_covered x.end (x ∷ xs) ≡ false = rw (out, none) refl in
        cc

-- spans with the same columns are the same
same_span : (x y : Span) → x.from ≡ y.from → x.end ≡ y.end → x ≡ y
same_span x y from end =
    let at_from : ℕ → Span = λ n. record { from = n; end = x.end } in
    let at_end : ℕ → Span = λ n. record { from = y.from; end = n } in
    ap at_from from ∙ ap at_end end

runs-same :
    (low high : ℕ) (xs ys : List Span) → AreApart low high xs → AreApart low high ys → SameFrom low high xs ys → xs ≡ ys
runs-same low high [] [] apart_x apart_y same = refl
runs-same low high [] (y ∷ ys) apart_x apart_y same =
    let there = covered-here y.from y ys (omega arith) apart_y.1 in
    let both = same y.from apart_y.0 (omega (arith, apart_y.1, apart_y.2)) in
    cc
runs-same low high (x ∷ xs) [] apart_x apart_y same =
    let there = covered-here x.from x xs (omega arith) apart_x.1 in
    let both = same x.from apart_x.0 (omega (arith, apart_x.1, apart_x.2)) in
    cc
runs-same low high (x ∷ xs) (y ∷ ys) apart_x apart_y same =
    let back = λ (i : ℕ) (from : low ≤ i) (less : i < high). sym (same i from less) in
    let from : x.from ≡ y.from =
    omega (arith, begins-by low high x y xs ys apart_x apart_y same, begins-by low high y x ys xs apart_y apart_x back) in
    let end : x.end ≡ y.end =
    omega (arith, ends-by low high x y xs ys apart_x apart_y from same, ends-by low high y x ys xs apart_y apart_x (sym from) back) in
    let later = rw (← end) at apart_y.3 in
    let rest = runs-same (x.end + 1) high xs ys apart_x.3 later
    (λ i behind less.
    let out_x = not-behind i x (omega arith) in
    let out_y = not-behind i y (omega arith) in
    rw (out_x, out_y) at (same i (omega (arith, apart_x.0, apart_x.1)) less)) in
    ap (λ s. s ∷ xs) (same_span x y from end) ∙ ap (λ zs. y ∷ zs) rest

-- there is one list of the maximal runs
pub runs-one :
    (test : ℕ → Bool) (from to : ℕ) (xs ys : List Span) → AreRuns test from to xs → AreRuns test from to ys → xs ≡ ys
runs-one test from to xs ys runs_x runs_y =
    runs-same from to xs ys runs_x.apart runs_y.apart
    (λ i below less. runs_x.covered i below less ∙ sym (runs_y.covered i below less))
