-- Fills: what the runs of an area and the spans of its rows have in common.
use Rattle.std.specs.Prelude.{ℕ, ◌≡◌, Bool, List}
use Rattle.cv_model.specs.declared.span.Span.{Span}
use Rattle.cv_geom.specs.declared.runs.Run.{Run}
use Rattle.cv_geom.specs.declared.runs.Area.{Area}
use Rattle.cv_geom.specs.Spans.{AreRuns, is_covered}
use Rattle.cv_geom.specs.Runs.{AreRunsOf, IsIn, is_on_any}

-- the runs of an area have in each row the columns of the spans of its test
abbrev pub RunsHaveTheSpans : Type 0
RunsHaveTheSpans =
    (test : ℕ → ℕ → Bool) (area : Area) (runs : List Run) (j : ℕ) (spans : List Span) → AreRunsOf test area runs
    → AreRuns (λ i. test i j) area.columns.from area.columns.end spans → (i : ℕ) → IsIn area i j
    → is_on_any i j runs ≡ is_covered i spans
