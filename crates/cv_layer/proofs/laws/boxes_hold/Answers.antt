use Rattle.cv_layer.proofs.BoxLemmas.{boxes_hold}
use Rattle.cv_layer.proofs.laws.boxes_hold.Goals as goal

pub returns : goal.returns
returns c = boxes_hold
