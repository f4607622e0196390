-- The pixels so far have the alpha, and so do those that are left, exactly where all have it.
use Rattle.std.proofs.Common.{◌≡◌, ◌&&◌, drop}
use Rattle.std.specs.List.{list_all}
use Rattle.cv_canvas.specs.Mixing.{has_alpha}
use Rattle.cv_canvas.proofs.mixing.all_have.Given as goal

abbrev pub invariant-loop-pixel : goal.invariant-loop-pixel
invariant-loop-pixel l =
    (l.have && list_all (has_alpha l.alpha) (drop l.pixel-index l.pixels)) ≡ list_all (has_alpha l.alpha) l.pixels
