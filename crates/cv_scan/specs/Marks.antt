-- Marks: how far crossings of edges with the heights of rows reach, and the runs that lie between them.
--
-- Source: this project's own form of the parity rule for polygons.
use Rattle.std.specs.Prelude.{ℕ, ◌≡◌, ◌<◌, ◌≤◌, ◌==◌, nat_lt, Bool, true, false, not, int_lt, ◌&&◌, if◌then◌else◌, ◌⊎◌, List, [], ◌∷◌, ◌++◌, count_by, Option, Some, None}
use Rattle.cv_model.specs.declared.span.Span.{Span}
use Rattle.cv_model.specs.Positions.{Position, doubled}
use Rattle.cv_model.specs.Polygons.{is_low}
use Rattle.cv_model.specs.Views.{PixelGrid, centre_of}
use Rattle.cv_geom.specs.declared.runs.Run.{Run}
use Rattle.cv_geom.specs.declared.runs.Area.{Area}
use Rattle.cv_scan.specs.declared.marks.Mark.{Mark}

-- pixel (i, j) lies left of a mark in its row
abbrev pub is_right : ℕ → ℕ → Mark → Bool
is_right i j mark = (j == mark.row) && nat_lt i mark.column

-- how many marks pixel (i, j) lies left of
abbrev pub marks_right : ℕ → ℕ → List Mark → ℕ
marks_right i j marks = count_by (is_right i j) marks

-- a mark lies in an area, or at its right end
pub record MarkIn (area : Area) (mark : Mark) : Type 0 where
  pub north : area.rows.from ≤ mark.row
  pub south : mark.row < area.rows.end
  pub west : area.columns.from ≤ mark.column
  pub east : mark.column ≤ area.columns.end

-- a mark lies before another in reading order, or is the same
abbrev pub IsBefore : Mark → Mark → Type 0
IsBefore b a = (b.row < a.row) ⊎ ((b.row ≡ a.row) × (b.column ≤ a.column))

-- each mark lies at the one before it in the list or before that in reading order
abbrev pub Descends : Mark → List Mark → Type 0
Descends a [] = Unit {0}
Descends a (b ∷ rest) = IsBefore b a × Descends b rest

-- the run between two columns of a row, unless it is empty
abbrev pub run_between : ℕ → ℕ → ℕ → List Run
run_between row from end = if nat_lt from end then (record { row = row; from = from; end = end }) ∷ [] else []

-- the runs that end at each other mark of a row, the rightmost first, from column `from` on; an open one ends
-- at the mark `last`
abbrev pub runs_from : ℕ → Option Mark → List Mark → List Run
runs_from from None [] = []
runs_from from None (b ∷ rest) = runs_from from (Some b) rest
runs_from from (Some a) [] = run_between a.row from a.column
runs_from from (Some a) (b ∷ rest) =
    if a.row == b.row
    then run_between a.row b.column a.column ++ runs_from from None rest
    else run_between a.row from a.column ++ runs_from from (Some b) rest

-- columns between those of two ends, among some: the columns before them lie left of both ends, those behind
-- them of neither
pub record IsBetween (v : PixelGrid) (a b : Position) (columns between : Span) : Type 0 where
  pub west : columns.from ≤ between.from
  pub order : between.from ≤ between.end
  pub east : between.end ≤ columns.end
  pub left_a : (i : ℕ) → columns.from ≤ i → i < between.from → int_lt (centre_of v i 0).x (doubled a).x ≡ true
  pub left_b : (i : ℕ) → columns.from ≤ i → i < between.from → int_lt (centre_of v i 0).x (doubled b).x ≡ true
  pub right_a : (i : ℕ) → between.end ≤ i → i < columns.end → int_lt (centre_of v i 0).x (doubled a).x ≡ false
  pub right_b : (i : ℕ) → between.end ≤ i → i < columns.end → int_lt (centre_of v i 0).x (doubled b).x ≡ false

-- rows of an area at whose height one end of an edge is low and the other isn't; at the height of no other one
pub record CrossesRows (v : PixelGrid) (a b : Position) (area : Area) (rows : Span) : Type 0 where
  pub north : area.rows.from ≤ rows.from
  pub order : rows.from ≤ rows.end
  pub south : rows.end ≤ area.rows.end
  pub apart : (j : ℕ) → rows.from ≤ j → j < rows.end
      → is_low (centre_of v 0 j) (doubled a) ≡ not (is_low (centre_of v 0 j) (doubled b))
  pub before : (j : ℕ) → area.rows.from ≤ j → j < rows.from
      → is_low (centre_of v 0 j) (doubled a) ≡ is_low (centre_of v 0 j) (doubled b)
  pub behind : (j : ℕ) → rows.end ≤ j → j < area.rows.end
      → is_low (centre_of v 0 j) (doubled a) ≡ is_low (centre_of v 0 j) (doubled b)

-- rows of an area at whose height the first end of an edge is low and the other isn't
pub record RisesThrough (v : PixelGrid) (low high : Position) (area : Area) (rows : Span) : Type 0 where
  pub north : area.rows.from ≤ rows.from
  pub order : rows.from ≤ rows.end
  pub south : rows.end ≤ area.rows.end
  pub ends : (j : ℕ) → rows.from ≤ j → j < rows.end
      → (is_low (centre_of v 0 j) (doubled low) ≡ true) × (is_low (centre_of v 0 j) (doubled high) ≡ false)
