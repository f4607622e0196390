use Rattle.std.proofs.Common.{◌≡◌, drop}
use Rattle.cv_layer.specs.Boxes.{round_polygons}
use Rattle.cv_layer.proofs.boxes.round_polygons.Given as goal

abbrev pub invariant-loop-polygon : goal.invariant-loop-polygon
invariant-loop-polygon l = round_polygons l.held (drop l.polygon-index l.polygons) ≡ round_polygons l.fn.held l.fn.polygons
