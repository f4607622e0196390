-- The pixels so far are laid over, and the others are as they were; the reciprocals are still for the colour.
use Rattle.std.proofs.Common.{◌≡◌, ◌++◌, map, take, drop}
use Rattle.cv_model.specs.Colours.{over}
use Rattle.cv_canvas.proofs.mixing.mix.Given as goal

abbrev pub invariant-loop-pixel : goal.invariant-loop-pixel
invariant-loop-pixel l = record {
  alpha : l.reciprocals ≡ l.colour.a;
  laid : l.pixels ≡ map (over l.colour) (take l.pixel-index l.fn.pixels) ++ drop l.pixel-index l.fn.pixels;
}
