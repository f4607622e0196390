use Rattle.cv_canvas.proofs.OpaqueLemmas.{inked_nowhere}
use Rattle.cv_canvas.proofs.opaque.OpaqueCanvas.new.Goals as goal

pub returns-clause-clear : goal.returns-clause-clear
returns-clause-clear c =
    inked_nowhere (record { colour = c.args.colour; cover = c.in_ok-cover.cover }) c.in_ok-cover.ensures.clear
