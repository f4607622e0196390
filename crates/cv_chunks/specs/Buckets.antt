-- The ranges that cover a row.
--
-- Source: this project's own.
use Rattle.std.specs.Prelude.{◌≡◌, ℕ, ◌-◌, ◌<◌, ◌≤◌, Bool, ◌&&◌, nat_le, nat_lt, List, [], ◌∷◌, ◌++◌}
use Rattle.std.specs.Prelude.{length, slice_index_or as get_or, map, filter}
use Rattle.std.specs.List.{enumerate_from, range_with_len}
use Rattle.std.specs.declared.vec.Vec.{Vec}
use Rattle.cv_chunks.specs.declared.buckets.RowRange.{RowRange}

-- the range begins where it ends or before, and ends within so many rows
abbrev pub IsWithinRows : ℕ → RowRange → Type 0
IsWithinRows rows range = (range.first ≤ range.end) × (range.end ≤ rows)

-- how many rows a range has
abbrev pub length_of : RowRange → ℕ
length_of range = range.end - range.first

-- whether the range covers the row
abbrev pub covers : ℕ → RowRange → Bool
covers row range = nat_le range.first row && nat_lt row range.end

-- the numbers of the ranges that cover a row, in the order of the ranges
abbrev pub bucket_of : List RowRange → ℕ → List ℕ
bucket_of ranges row = map (λ entry. entry.0) (filter (λ entry. covers row entry.1) (enumerate_from 0 ranges))

-- those of each of so many rows
abbrev pub buckets_of : ℕ → List RowRange → List (List ℕ)
buckets_of rows ranges = map (bucket_of ranges) (range_with_len 0 rows)

-- the numbers in the buckets
abbrev pub numbers_of : {Y Z : Type 0} → Vec (Vec ℕ Y) Z → List (List ℕ)
numbers_of buckets = map (λ bucket. bucket.items) buckets.items

-- a number was put behind those of the rows from the first to before the end, and no other
pub record IsEntered (old new : List (List ℕ)) (first end number : ℕ) : Type 0 where
  pub count : length new ≡ length old
  pub covered : (row : ℕ) → first ≤ row → row < end → get_or new row [] ≡ get_or old row [] ++ number ∷ []
  pub before : (row : ℕ) → row < first → get_or new row [] ≡ get_or old row []
  pub behind : (row : ℕ) → end ≤ row → get_or new row [] ≡ get_or old row []
