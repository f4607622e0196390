use Rattle.std.proofs.Common.{◌≡◌, ◌+◌, ◌%◌, ℕ, drop}
use Rattle.std.specs.List.{All}
use Rattle.cv_geom.specs.Runs.{IsIn}
use Rattle.cv_scan.specs.Marks.{MarkIn, marks_right}
use Rattle.cv_scan.specs.Planes.{HasBits, bits_right}
use Rattle.cv_scan.proofs.planes.toggle_all.Given as goal

-- the bits that were changed and the marks still to come tell of each pixel what all marks do
abbrev pub invariant-loop-mark : goal.invariant-loop-mark
invariant-loop-mark l = record {
  within : All (MarkIn l.area) (drop l.mark-index l.marks);
  room : HasBits l.area l.bits.items;
  odd :
      (i j : ℕ) → IsIn l.area i j
      → (bits_right i j l.area l.bits.items + marks_right i j (drop l.mark-index l.marks)) % 2
      ≡ (bits_right i j l.area l.fn.bits.items + marks_right i j l.marks) % 2;
}
