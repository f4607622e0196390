-- Held: what a scan holds of an area, marks by rows, in a list and in a plane.
--
-- Source: this project's own.
use Rattle.std.specs.Prelude.{ℕ, ◌+◌, ◌%◌, ◌≡◌, ◌⊎◌, List, [], length, All, nat_lt, if◌then◌else◌}
use Rattle.cv_model.specs.declared.span.Span.{Span}
use Rattle.cv_model.specs.Positions.{Position}
use Rattle.cv_model.specs.Polygons.{is_crossed}
use Rattle.cv_model.specs.Views.{PixelGrid, centre_of}
use Rattle.cv_geom.specs.declared.runs.Area.{Area}
use Rattle.cv_geom.specs.Runs.{IsIn}
use Rattle.cv_scan.specs.declared.scratch.Scratch.{Scratch}
use Rattle.cv_scan.specs.Marks.{MarkIn, marks_right}
use Rattle.cv_scan.specs.Planes.{HasBits, bits_right}
use Rattle.cv_scan.specs.Pairs.{PairsIn, ReachesTo, pairs_right}
use Rattle.cv_scan.specs.declared.pairs.Pair.{Pair}

-- the marks by rows and those of the list lie in the area, and the plane has a bit for each of its pixels, or no word yet
pub record IsHeld (area : Area) (s : Scratch) : Type 0 where
  pub pairs : PairsIn area s.first s.pairs.items
  pub within : All (MarkIn area) s.marks.items
  pub room : (s.bits.items ≡ []) ⊎ HasBits area s.bits.items

-- how many marks pixel (i, j) lies left of, or an even number more or fewer
abbrev pub held_right : ℕ → ℕ → Area → Scratch → ℕ
held_right i j area s =
    pairs_right i j s.first s.pairs.items + (marks_right i j s.marks.items + bits_right i j area s.bits.items)

-- marks that were put with others: each pixel of the area lies left of so many more, or of an even number more
-- or fewer
pub record AddsMarks (crossed : ℕ → ℕ → ℕ) (area : Area) (old new : Scratch) : Type 0 where
  pub held : IsHeld area new
  pub counted : (i j : ℕ) → IsIn area i j
      → held_right i j area new % 2 ≡ (held_right i j area old + crossed i j) % 2

-- one if pixel (i, j) lies left of the crossing of an edge with its row, and in a row before one
abbrev pub crossed_before : PixelGrid → Position → Position → ℕ → ℕ → ℕ → ℕ
crossed_before v a b row i j = if nat_lt j row then (if is_crossed (centre_of v i j) (a, b) then 1 else 0) else 0

-- where the marks of an edge were put in the rows before some, they are put in these too
abbrev pub MarksOn : PixelGrid → Position → Position → Area → Span → Scratch → Scratch → Type 0
MarksOn v a b area rows old new =
    (first : Scratch) → AddsMarks (crossed_before v a b rows.from) area first old
    → AddsMarks (crossed_before v a b rows.end) area first new

-- the marks of an edge in some rows were put with those of their rows, from row `first` on
pub record PairsMarked (v : PixelGrid) (a b : Position) (area : Area) (first : ℕ) (rows : Span) (old new : List Pair)
    : Type 0 where
  pub length : length new ≡ length old
  pub right : (i j : ℕ) → IsIn area i j
      → pairs_right i j first new + crossed_before v a b rows.from i j
      ≡ pairs_right i j first old + crossed_before v a b rows.end i j
  pub reaches : All (ReachesTo area.columns.end) old → All (ReachesTo area.columns.end) new
