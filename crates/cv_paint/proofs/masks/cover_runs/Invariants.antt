-- What is covered with the runs that are left is what shall be, and their steps may still be paid.
use Rattle.std.proofs.Common.{◌≡◌, ◌+◌, drop, sum_by}
use Rattle.cv_canvas.specs.Cover.{is_covered_in}
use Rattle.cv_geom.specs.Runs.{length_of}
use Rattle.cv_paint.specs.Masks.{with_covered}
use Rattle.cv_paint.proofs.masks.cover_runs.Given as goal

abbrev pub invariant-loop-run : goal.invariant-loop-run
invariant-loop-run g l =
    (l.cover.width ≡ l.fn.cover.width) × (l.cover.height ≡ l.fn.cover.height)
    × (with_covered (is_covered_in l.cover) (drop l.run-index l.runs) ≡ with_covered (is_covered_in l.fn.cover) l.runs)
    × (l.steps + sum_by length_of (drop l.run-index l.runs) ≡ l.fn.steps + sum_by length_of l.runs)
