-- The slots so far are merged, and those that are left give the rest.
use Rattle.std.proofs.Common.{◌≡◌, length, drop}
use Rattle.cv_compose.specs.Planes.{colours}
use Rattle.cv_compose.specs.Runs.{merged_slots}
use Rattle.cv_compose.proofs.composition.merge_slots.Given as goal

abbrev pub invariant-loop-k : goal.invariant-loop-k
invariant-loop-k l = record {
  merged :
      merged_slots l.start l.end (colours l.r l.g l.b) (drop l.k l.slots) (drop l.k l.layers)
      ≡ merged_slots l.start l.end (colours l.fn.r l.fn.g l.fn.b) l.slots l.layers;
  red : length l.r ≡ length l.fn.r;
  green : length l.g ≡ length l.fn.g;
  blue : length l.b ≡ length l.fn.b;
}
