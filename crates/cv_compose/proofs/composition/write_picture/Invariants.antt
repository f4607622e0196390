-- The pixels so far are the picture's first, and the size stays.
use Rattle.std.proofs.Common.{◌≡◌, ◌≤◌, ◌-◌, ◌++◌, take, drop}
use Rattle.cv_model.specs.Paintings.{composed}
use Rattle.cv_compose.proofs.composition.write_picture.Given as goal

abbrev pub invariant-loop-start : goal.invariant-loop-start
invariant-loop-start l = record {
  pixels : l.picture.pixels ≡ take l.start (composed l.input).pixels ++ drop l.start l.fn.picture.pixels;
  width : l.picture.width ≡ l.fn.picture.width;
  height : l.picture.height ≡ l.fn.picture.height;
  within : l.start ≤ l.size;
}

abbrev pub decreases-loop-start : goal.decreases-loop-start
decreases-loop-start l = l.size - l.start
