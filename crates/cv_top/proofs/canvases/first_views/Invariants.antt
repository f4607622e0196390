-- What was made so far, and what is left.
use Rattle.std.proofs.Common.{◌≡◌, ◌++◌, map, drop}
use Rattle.std.specs.List.{All}
use Rattle.cv_model.specs.Openings.{first_view}
use Rattle.cv_model.specs.ProjectFiles.{IsCanvas}
use Rattle.cv_top.proofs.canvases.first_views.Given as goal

abbrev pub invariant-loop-canvas : goal.invariant-loop-canvas
invariant-loop-canvas l = record {
  all : All IsCanvas l.canvases;
  made : l.views.items ++ map first_view (drop l.canvas-index l.canvases) ≡ map first_view l.canvases;
}
