-- Pairs: up to two marks for each of some rows, by how far they reach; one that reaches to column 0 lies right of no
-- pixel, and stands for none.
--
-- Source: this project's own.
use Rattle.std.specs.Prelude.{ℕ, ◌+◌, ◌-◌, ◌≡◌, ◌≤◌, ◌==◌, nat_le, nat_lt, if◌then◌else◌, List, length, get_or, All}
use Rattle.cv_geom.specs.declared.runs.Area.{Area}
use Rattle.cv_scan.specs.declared.marks.Mark.{Mark}
use Rattle.cv_scan.specs.declared.pairs.Pair.{Pair}
use Rattle.cv_scan.specs.Marks.{is_right}

-- no mark
abbrev pub no_marks : Pair
no_marks = record { one = 0; other = 0 }

-- one if a column lies left of where a mark reaches
abbrev pub left_of : ℕ → ℕ → ℕ
left_of i reach = if nat_lt i reach then 1 else 0

-- one if pixel (i, j) lies left of where a mark of a row reaches
abbrev pub row_right : ℕ → ℕ → ℕ → ℕ → ℕ
row_right i j row reach = if j == row then left_of i reach else 0

-- how many marks of a pair a column lies left of
abbrev pub pair_right : ℕ → Pair → ℕ
pair_right i pair = left_of i pair.one + left_of i pair.other

-- how many marks of the pairs of the rows from `first` on pixel (i, j) lies left of
abbrev pub pairs_right : ℕ → ℕ → ℕ → List Pair → ℕ
pairs_right i j first pairs = if nat_le first j then pair_right i (get_or pairs (j - first) no_marks) else 0

-- both marks reach at most so far
pub record ReachesTo (most : ℕ) (pair : Pair) : Type 0 where
  pub one : pair.one ≤ most
  pub other : pair.other ≤ most

-- pairs of rows of an area, whose marks reach to its end at most
pub record PairsIn (area : Area) (first : ℕ) (pairs : List Pair) : Type 0 where
  pub north : area.rows.from ≤ first
  pub south : first + length pairs ≤ area.rows.end
  pub east : All (ReachesTo area.columns.end) pairs

-- a pair with a mark more
pub record HasMark (pair : Pair) (column : ℕ) (new : Pair) : Type 0 where
  pub right : (i : ℕ) → pair_right i new ≡ pair_right i pair + left_of i column
  pub reaches : (most : ℕ) → column ≤ most → ReachesTo most pair → ReachesTo most new

-- pairs with a mark more
pub record PutsMark (first : ℕ) (mark : Mark) (old new : List Pair) : Type 0 where
  pub length : length new ≡ length old
  pub right : (i j : ℕ)
      → pairs_right i j first new ≡ pairs_right i j first old + (if is_right i j mark then 1 else 0)
  pub reaches : (most : ℕ) → mark.column ≤ most → All (ReachesTo most) old → All (ReachesTo most) new
