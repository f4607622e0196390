-- Planes: a bit for each pixel of an area, by which many marks are brought into order.
--
-- Source: this project's own.
use Rattle.std.specs.Prelude.{ℕ, zero, suc, ◌+◌, ◌-◌, ◌*◌, ◌/◌, ◌%◌, ◌^◌, ◌≡◌, ◌≤◌, ◌==◌, nat_le, if◌then◌else◌, List, [], ◌∷◌, ◌++◌, length, get_or, set}
use Rattle.std.specs.Int.{bit_at}
use Rattle.std.specs.Int.Bits.{bit_xor}
use Rattle.cv_geom.specs.declared.runs.Area.{Area}
use Rattle.cv_geom.specs.Runs.{IsIn, rows_of}
use Rattle.cv_scan.specs.declared.marks.Mark.{Mark}
use Rattle.cv_scan.specs.Marks.{marks_right}

-- the bit at a place of words of 64 bits
abbrev pub bit_of : List ℕ → ℕ → ℕ
bit_of words place = bit_at (get_or words (place / 64) 0) (place % 64)

-- words with the bit at a place changed
abbrev pub toggled : List ℕ → ℕ → List ℕ
toggled words place = set words (place / 64) (bit_xor (get_or words (place / 64) 0) (2 ^ (place % 64)))

-- how many columns an area has
abbrev pub width_of : Area → ℕ
width_of area = area.columns.end - area.columns.from

-- the place of the first pixel of a row
abbrev pub first_of : Area → ℕ → ℕ
first_of area row = (row - area.rows.from) * width_of area

-- words have a bit for each pixel of an area
abbrev pub HasBits : Area → List ℕ → Type 0
HasBits area words = rows_of area * width_of area ≤ 64 * length words

-- the marks behind those of the first n pixels of a row whose bits are set, the rightmost first
abbrev pub set_marks : List ℕ → Area → ℕ → ℕ → List Mark
set_marks words area row zero = []
set_marks words area row (suc n) =
    (if bit_of words (first_of area row + n) == 1
    then (record { row = row; column = area.columns.from + n + 1 }) ∷ []
    else [])
    ++ set_marks words area row n

-- how many bits are set of the first n pixels of a row, those before number x left out
abbrev pub right_bits : List ℕ → Area → ℕ → ℕ → ℕ → ℕ
right_bits words area row x zero = 0
right_bits words area row x (suc n) =
    (if nat_le x n then bit_of words (first_of area row + n) else 0) + right_bits words area row x n

-- how many bits are set of the pixels of a row from a pixel on
abbrev pub bits_right : ℕ → ℕ → Area → List ℕ → ℕ
bits_right i j area words = right_bits words area j (i - area.columns.from) (width_of area)

-- bits that were changed for marks: those set from a pixel on become as many more as it lies left of marks, or
-- an even number more or fewer
pub record HoldMarks (area : Area) (marks : List Mark) (old new : List ℕ) : Type 0 where
  pub room : HasBits area new
  pub odd : (i j : ℕ) → IsIn area i j
      → bits_right i j area new % 2 ≡ (bits_right i j area old + marks_right i j marks) % 2
