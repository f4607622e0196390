-- Spans: the runs of columns at which a test holds.
--
-- Source: this project's own.
use Rattle.std.specs.Prelude.{ℕ, ◌+◌, ◌≡◌, ◌<◌, ◌≤◌, nat_lt, nat_le, Bool, ◌&&◌, List, [], ◌∷◌}
use Rattle.std.specs.List.{list_any}
use Rattle.cv_model.specs.declared.span.Span.{Span}

-- column i lies in a span
abbrev pub is_in : ℕ → Span → Bool
is_in i span = nat_le span.from i && nat_lt i span.end

-- column i lies in one of the spans
abbrev pub is_covered : ℕ → List Span → Bool
is_covered i spans = list_any (is_in i) spans

-- spans that ascend from `low` on and end by `high`, none empty and no two touching
abbrev pub AreApart : ℕ → ℕ → List Span → Type 0
AreApart low high [] = Unit {0}
AreApart low high (span ∷ rest) =
    (low ≤ span.from) × (span.from < span.end) × (span.end ≤ high) × AreApart (span.end + 1) high rest

-- spans are the maximal runs, in ascending order, of the columns from `from` up to and without `to` where a
-- test holds
pub record AreRuns (test : ℕ → Bool) (from to : ℕ) (spans : List Span) : Type 0 where
  pub apart : AreApart from to spans
  pub covered : (i : ℕ) → from ≤ i → i < to → is_covered i spans ≡ test i

-- there is one list of the maximal runs
abbrev pub RunsAreOne : Type 0
RunsAreOne =
    (test : ℕ → Bool) (from to : ℕ) (xs ys : List Span) → AreRuns test from to xs → AreRuns test from to ys
    → xs ≡ ys
