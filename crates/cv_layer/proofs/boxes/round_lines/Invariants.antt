use Rattle.std.proofs.Common.{◌≡◌, drop}
use Rattle.cv_layer.specs.Boxes.{round_lines}
use Rattle.cv_layer.proofs.boxes.round_lines.Given as goal

abbrev pub invariant-loop-line : goal.invariant-loop-line
invariant-loop-line l = round_lines l.held (drop l.line-index l.lines) ≡ round_lines l.fn.held l.fn.lines
