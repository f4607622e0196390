-- The pixels so far stand behind the others.
use Rattle.std.proofs.Common.{◌≡◌, ◌++◌, take}
use Rattle.cv_paint.proofs.finish.put_all.Given as goal

abbrev pub invariant-loop-pixel : goal.invariant-loop-pixel
invariant-loop-pixel l = l.pixels ≡ l.fn.pixels ++ take l.pixel-index l.row
