use Rattle.cv_canvas.proofs.ReciprocalLemmas.{none_found}
use Rattle.cv_canvas.proofs.reciprocals.Reciprocals.set_alpha.Goals as goal

pub invariant_of-self : goal.invariant_of-self
invariant_of-self c = none_found c.args.alpha 256
