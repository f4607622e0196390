-- What the rest of the path has decides, since the pen has hit nothing before.
use Rattle.std.proofs.Common.{◌≡◌, drop}
use Rattle.std.specs.List.{list_any}
use Rattle.cv_model.specs.Polygons.{edges_from}
use Rattle.cv_model.specs.Pens.{is_near}
use Rattle.cv_paint.proofs.hits.hits_path.Given as goal

abbrev pub invariant-loop-point : goal.invariant-loop-point
invariant-loop-point l =
    list_any (is_near l.r l.p) (edges_from l.before (drop l.point-index l.points))
    ≡ list_any (is_near l.r l.p) (edges_from l.fn.start l.points)
