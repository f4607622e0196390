use Rattle.cv_layer.proofs.BoxLemmas.{no_box_no_vertex}
use Rattle.cv_layer.proofs.laws.no_box_no_vertex.Goals as goal

pub returns : goal.returns
returns c = no_box_no_vertex
