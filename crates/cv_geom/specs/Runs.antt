-- Runs: columns of rows of pixels, and the runs of an area that have exactly the pixels at which a test holds.
--
-- Source: this project's own.
use Rattle.std.specs.Prelude.{ℕ, max, ◌+◌, ◌-◌, ◌*◌, ◌≡◌, ◌==◌, ◌<◌, ◌≤◌, nat_lt, nat_le, Bool, true, false, ◌&&◌, ◌||◌, if◌then◌else◌, ◌⊎◌, List, [], ◌∷◌, length, slice_index_or, map, sum_by, All}
use Rattle.std.specs.List.{list_any, flat_map}
use Rattle.cv_model.specs.declared.span.Span.{Span}
use Rattle.cv_model.specs.Positions.{Position}
use Rattle.cv_model.specs.Polygons.{edges}
use Rattle.cv_model.specs.Pens.{segments}
use Rattle.cv_geom.specs.declared.runs.Run.{Run}
use Rattle.cv_geom.specs.declared.runs.Area.{Area}

-- pixel (i, j) lies on a run
abbrev pub is_on : Run → ℕ → ℕ → Bool
is_on run i j = (j == run.row) && (nat_le run.from i && nat_lt i run.end)

-- pixel (i, j) lies on one of the runs
abbrev pub is_on_any : ℕ → ℕ → List Run → Bool
is_on_any i j runs = list_any (λ run. is_on run i j) runs

-- a run lies within w by h pixels
pub record IsWithin (w h : ℕ) (run : Run) : Type 0 where
  pub row_in : run.row < h
  pub order : run.from ≤ run.end
  pub end_in : run.end ≤ w

-- no pixel lies on two of the runs
abbrev pub IsApart : List Run → Type 0
IsApart [] = Unit {0}
IsApart (run ∷ rest) = ((i j : ℕ) → is_on run i j ≡ true → is_on_any i j rest ≡ false) × IsApart rest

-- an area lies within w by h pixels
pub record IsArea (w h : ℕ) (area : Area) : Type 0 where
  pub columns : area.columns.from ≤ area.columns.end
  pub columns_in : area.columns.end ≤ w
  pub rows : area.rows.from ≤ area.rows.end
  pub rows_in : area.rows.end ≤ h

-- pixel (i, j) lies in an area
pub record IsIn (area : Area) (i j : ℕ) : Type 0 where
  pub west : area.columns.from ≤ i
  pub east : i < area.columns.end
  pub north : area.rows.from ≤ j
  pub south : j < area.rows.end

-- a run with pixels lies wholly in an area
pub record LiesIn (area : Area) (run : Run) : Type 0 where
  pub north : area.rows.from ≤ run.row
  pub south : run.row < area.rows.end
  pub west : area.columns.from ≤ run.from
  pub some : run.from < run.end
  pub east : run.end ≤ area.columns.end

-- a run begins at a pixel or behind it in reading order
abbrev pub BeginsAt : ℕ → ℕ → Run → Type 0
BeginsAt i j run = (j < run.row) ⊎ ((j ≡ run.row) × (i ≤ run.from))

-- runs in reading order from pixel (i, j) on, each behind the end of the one before
abbrev pub AreInOrder : ℕ → ℕ → List Run → Type 0
AreInOrder i j [] = Unit {0}
AreInOrder i j (run ∷ rest) = BeginsAt i j run × AreInOrder run.end run.row rest

-- each run but the first begins at the end of the one in front of it, or behind
pub record FollowEach (runs : List Run) : Type 0 where
  pub each : (k : ℕ) (d : Run) → k + 1 < length runs
      → BeginsAt (slice_index_or runs k d).end (slice_index_or runs k d).row (slice_index_or runs (k + 1) d)

-- runs with exactly the pixels of an area at which a test holds, in reading order, so that none is on two
pub record AreRunsOf (test : ℕ → ℕ → Bool) (area : Area) (runs : List Run) : Type 0 where
  pub within : All (LiesIn area) runs
  pub order : AreInOrder area.columns.from area.rows.from runs
  pub covered : (i j : ℕ) → IsIn area i j → is_on_any i j runs ≡ test i j

-- runs that were put behind others: they lie in the area, and have exactly its pixels at which a test holds
pub record Adds (test : ℕ → ℕ → Bool) (area : Area) (old new : List Run) : Type 0 where
  pub within : All (LiesIn area) old → All (LiesIn area) new
  pub covered : (i j : ℕ) → IsIn area i j → is_on_any i j new ≡ (is_on_any i j old || test i j)

-- runs in reading order with exactly the pixels of others, and in each area that those lie in
pub record Unites (old new : List Run) : Type 0 where
  pub within : (area : Area) → All (LiesIn area) old → All (LiesIn area) new
  pub order : (area : Area) → All (LiesIn area) old → AreInOrder area.columns.from area.rows.from new
  pub covered : (i j : ℕ) → is_on_any i j new ≡ is_on_any i j old

-- the runs of a row's spans
abbrev pub in_row : ℕ → List Span → List Run
in_row row spans = map (λ (span : Span). record { row = row; from = span.from; end = span.end }) spans

-- a run and those behind it in reading order, joined where they overlap or touch
abbrev pub united_from : Run → List Run → List Run
united_from a [] = a ∷ []
united_from a (b ∷ rest) =
    if a.row == b.row && nat_le b.from a.end
    then united_from (record { row = a.row; from = a.from; end = max a.end b.end }) rest
    else a ∷ united_from b rest

-- runs in reading order, joined
abbrev pub united : List Run → List Run
united [] = []
united (a ∷ rest) = united_from a rest

-- how many rows an area has
abbrev pub rows_of : Area → ℕ
rows_of area = area.rows.end - area.rows.from

-- how many pixels an area has
abbrev pub size_of : Area → ℕ
size_of area = rows_of area * (area.columns.end - area.columns.from)

-- how many pixels a run has
abbrev pub length_of : Run → ℕ
length_of run = run.end - run.from

-- no pixel lies on two of the runs of an area
abbrev pub RunsAreApart : Type 0
RunsAreApart = (test : ℕ → ℕ → Bool) (area : Area) (runs : List Run) → AreRunsOf test area runs → IsApart runs

-- the runs of an area have together at most its pixels
abbrev pub RunsAreFew : Type 0
RunsAreFew =
    (test : ℕ → ℕ → Bool) (area : Area) (runs : List Run) → AreRunsOf test area runs
    → sum_by length_of runs ≤ size_of area

-- the edges of all rings of some polygons
abbrev pub edges_of : List (List (List Position)) → List (Position × Position)
edges_of polygons = flat_map (flat_map edges) polygons

-- the segments of some lines
abbrev pub segments_of : List (List Position) → List (Position × Position)
segments_of lines = flat_map segments lines
