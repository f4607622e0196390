-- The view is that of the extent, or the extent is missing.
use Rattle.cv_open.proofs.CanvasLemmas.{extent_said}
use Rattle.cv_open.proofs.canvas.canvas_view.Goals as goal

pub returns-in-Some : goal.returns-in-Some
returns-in-Some c =
    extent_said c.args.number c.args.canvas.now c.in-Some.extent c.view_round.result c.in-Some.is c.view_round.ensures
