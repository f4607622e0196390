use Rattle.cv_canvas.proofs.ReciprocalLemmas.{none_found}
use Rattle.cv_canvas.proofs.reciprocals.Reciprocals.new.Goals as goal

pub invariant_of-result : goal.invariant_of-result
invariant_of-result c = none_found c.args.alpha 256
