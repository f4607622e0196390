-- The run between the columns before a shape and those behind it.
use Rattle.std.proofs.Common.{◌≡◌, ◌∙◌, sym, refl, ℕ, ◌+◌, ◌<◌, ◌≤◌, ◌⊎◌, inl, inr, nat_lt, nat_le, Bool, true, false, not, ◌&&◌, ◌||◌, List, [], ◌∷◌, arith}
use Rattle.std.proofs.lemmas.Bool.Decides.{nat_tests}
use Rattle.cv_model.specs.declared.span.Span.{Span}
use Rattle.cv_geom.specs.Falls.{FallsAt}
use Rattle.cv_geom.specs.Spans.{AreApart, AreRuns, is_covered}

-- a column lies in the run exactly where it isn't before the shape and is reached
some-covered :
    (b c : Bool) (i left right : ℕ) → b ≡ nat_lt i left → (left ≤ i → c ≡ nat_lt i right)
    → ((nat_le left i && nat_lt i right) || false) ≡ (not b && c)
some-covered true c i left right before reached =
    let out : nat_le left i ≡ false = grind (arith, nat_tests) in rw out refl
some-covered false c i left right before reached =
    let from : left ≤ i = grind (arith, nat_tests) in
    let here : nat_le left i ≡ true = grind (arith, nat_tests) in
    rw (here, reached from) (or_false (nat_lt i right))
  where
    or_false : (x : Bool) → (x || false) ≡ x
    or_false true = refl
    or_false false = refl

pub run-some :
    (p q : ℕ → Bool) (from to left right : ℕ) → FallsAt p from to left → FallsAt q left to right → left < right
    → AreRuns (λ i. not (p i) && q i) from to ((record { from = left; end = right }) ∷ [])
run-some p q from to left right before reached less = record {
  apart = (before.low_in, less, reached.high_in, tt);
  covered = λ i below under.
      some-covered (p i) (q i) i left right (before.falls i below under) (λ behind. reached.falls i behind under);
}

none-covered :
    (b c : Bool) (i left right : ℕ) → b ≡ nat_lt i left → (left ≤ i → c ≡ nat_lt i right) → right ≤ left
    → false ≡ (not b && c)
none-covered true c i left right before reached order = refl
none-covered false c i left right before reached order =
    let from : left ≤ i = grind (arith, nat_tests) in
    let out : nat_lt i right ≡ false = grind (arith, nat_tests) in
    sym (reached from ∙ out)

-- where the columns that aren't before the shape aren't reached, there is no run
pub run-none :
    (p q : ℕ → Bool) (from to left right : ℕ) → FallsAt p from to left → FallsAt q left to right → right ≤ left
    → AreRuns (λ i. not (p i) && q i) from to []
run-none p q from to left right before reached order = record {
  apart = tt;
  covered = λ i below under.
      none-covered (p i) (q i) i left right (before.falls i below under) (λ behind. reached.falls i behind under) order;
}

-- runs of a test are those of another that answers the same
pub runs-alike :
    (p q : ℕ → Bool) (from to : ℕ) (spans : List Span) → ((i : ℕ) → p i ≡ q i) → AreRuns p from to spans
    → AreRuns q from to spans
runs-alike p q from to spans alike runs = record {
  apart = runs.apart;
  covered = λ i below under. runs.covered i below under ∙ alike i;
}

-- ---- runs of some columns among more

-- no column before or behind spans lies in one
apart-outside :
    (low high i : ℕ) (spans : List Span) → AreApart low high spans → (i < low) ⊎ (high ≤ i) → is_covered i spans ≡ false
apart-outside low high i [] apart out = refl
apart-outside low high i (span ∷ rest) apart out =
    let order = apart.1 in
    let here = beside (nat_le span.from i) (nat_lt i span.end) refl refl out in
    let later = apart-outside (span.end + 1) high i rest apart.3 (further out) in
    rw (here, later) refl
  where
    further : (i < low) ⊎ (high ≤ i) → (i < span.end + 1) ⊎ (high ≤ i)
    further (inl before) =
        let from = apart.0 in let order = apart.1 in inl (omega arith)
    further (inr behind) = inr behind

    beside :
        (s t : Bool) → nat_le span.from i ≡ s → nat_lt i span.end ≡ t → (i < low) ⊎ (high ≤ i) → (s && t) ≡ false
    beside true true west east (inl before) = let from = apart.0 in absurd (grind (arith, nat_tests))
    beside true true west east (inr behind) = let end = apart.2 in absurd (grind (arith, nat_tests))
    beside true false west east out = refl
    beside false t west east out = refl

apart-wide :
    (low high from to : ℕ) (spans : List Span) → from ≤ low → high ≤ to → AreApart low high spans
    → AreApart from to spans
apart-wide low high from to [] west east apart = tt
apart-wide low high from to (span ∷ rest) west east apart = (
  omega (arith, apart.0),
  apart.1,
  omega (arith, apart.2),
  apart-wide (span.end + 1) high (span.end + 1) to rest (omega arith) east apart.3,
)

-- where a test fails at all other columns, its runs among some are those among more
pub runs-widen :
    (test : ℕ → Bool) (west east from to : ℕ) (spans : List Span) → from ≤ west → east ≤ to
    → ((i : ℕ) → from ≤ i → i < to → (i < west) ⊎ (east ≤ i) → test i ≡ false) → AreRuns test west east spans
    → AreRuns test from to spans
runs-widen test west east from to spans low high none runs = record {
  apart = apart-wide west east from to spans low high runs.apart;
  covered = λ i below under. pick i below under (nat_lt i west) (nat_lt i east) refl refl;
}
  where
    beside : (i : ℕ) → from ≤ i → i < to → (i < west) ⊎ (east ≤ i) → is_covered i spans ≡ test i
    beside i below under out = apart-outside west east i spans runs.apart out ∙ sym (none i below under out)

    pick : (i : ℕ) → from ≤ i → i < to → (s t : Bool) → nat_lt i west ≡ s → nat_lt i east ≡ t → is_covered i spans ≡ test i
    pick i below under true t before behind = beside i below under (inl (grind (arith, nat_tests)))
    pick i below under false true before behind = runs.covered i (grind (arith, nat_tests)) (grind (arith, nat_tests))
    pick i below under false false before behind = beside i below under (inr (grind (arith, nat_tests)))
