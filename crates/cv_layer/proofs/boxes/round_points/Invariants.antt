use Rattle.std.proofs.Common.{◌≡◌, drop}
use Rattle.cv_layer.specs.Boxes.{round_points}
use Rattle.cv_layer.proofs.boxes.round_points.Given as goal

abbrev pub invariant-loop-point : goal.invariant-loop-point
invariant-loop-point l = round_points l.held (drop l.point-index l.points) ≡ round_points l.fn.held l.fn.points
