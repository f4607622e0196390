-- What was made so far, and what is left.
use Rattle.std.proofs.Common.{◌≡◌, ◌++◌, map, drop}
use Rattle.std.specs.List.{All}
use Rattle.cv_model.specs.Openings.{canvas_of_file}
use Rattle.cv_model.specs.ProjectFiles.{IsCanvas}
use Rattle.cv_top.proofs.canvases.specs_of.Given as goal

abbrev pub invariant-loop-canvas : goal.invariant-loop-canvas
invariant-loop-canvas l = record {
  all : All IsCanvas l.canvases;
  made : l.specs.items ++ map canvas_of_file (drop l.canvas-index l.canvases) ≡ map canvas_of_file l.canvases;
}
